use Rattle.std.proofs.Common.{[], get_or, length, ◌<◌, ◌≡◌}
use Rattle.action_names.specs.Names.{is_ancestor}
use Rattle.places.specs.Trees.{names_by}
use Rattle.places.proofs.places.Places.is_ancestor.Given as goal

abbrev pub invariant-loop-at : goal.invariant-loop-at
invariant-loop-at l = record {
  within : l.at < length (names_by l.self-inside.nodes.items);
  same : is_ancestor (get_or (names_by l.self-inside.nodes.items) l.above []) (get_or (names_by l.self-inside.nodes.items) l.of [])
      ≡ is_ancestor (get_or (names_by l.self-inside.nodes.items) l.above []) (get_or (names_by l.self-inside.nodes.items) l.at []);
}

abbrev pub decreases-loop-at : goal.decreases-loop-at
decreases-loop-at l = l.at
