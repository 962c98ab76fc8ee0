use Rattle.std.proofs.Common.{map, take, vec_len, ◌≡◌}
use Rattle.std.specs.List.{All}
use Rattle.std.specs.Option.{option_map}
use Rattle.action_forest.specs.Forests.{AtEach}
use Rattle.action_forest.specs.Rooms.{AllBorn}
use Rattle.action_forest.specs.Trees.{action_in, trees}
use Rattle.action_forest.proofs.forest.Forest.plan_begin.Given as goal

-- the nodes so far have the maker's place, and are as they begin with the names so far
abbrev pub invariant-loop-name : goal.invariant-loop-name
invariant-loop-name l = record {
  count : vec_len l.plan.nodes ≡ l.name-index;
  made : All (λ node. node.maker ≡ l.place) l.plan.nodes.items;
  born : AtEach (trees l.fn.self) (λ opening registry. AllBorn opening registry (option_map (λ name. name.now) l.fn.maker) l.fn.home l.fn.life
      (trees l.fn.self) (take l.name-index l.name-items) (map action_in l.plan.nodes.items));
}
