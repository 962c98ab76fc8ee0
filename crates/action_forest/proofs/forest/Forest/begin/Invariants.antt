use Rattle.std.proofs.Common.{map, reverse, vec_len, ◌≡◌}
use Rattle.std.specs.List.{All}
use Rattle.action_forest.specs.Rooms.{HasRoom}
use Rattle.action_forest.specs.Trees.{action_in, all_added, trees}
use Rattle.action_forest.proofs.forest.Forest.begin.Given as goal

-- what is left, from its end, would make the same forest, and has room
abbrev pub invariant-loop-node : goal.invariant-loop-node
invariant-loop-node l = record {
  same : all_added (map action_in (reverse l.plan.nodes.items)) (trees l.self) ≡ all_added (map action_in l.fn.plan.nodes.items) (trees l.fn.self);
  room : HasRoom l.self (vec_len l.plan.nodes) l.fn.plan.maker;
  made : All (λ node. node.maker ≡ l.fn.plan.maker) l.plan.nodes.items;
}

abbrev pub decreases-loop-node : goal.decreases-loop-node
decreases-loop-node l = goal.left-loop-node l
