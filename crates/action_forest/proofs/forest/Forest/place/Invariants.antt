use Rattle.std.proofs.Common.{Some, drop, ◌≡◌}
use Rattle.action_forest.specs.Trees.{place_below, place_of, trees}
use Rattle.action_forest.proofs.forest.Forest.place.Given as goal

abbrev pub invariant-loop-number : goal.invariant-loop-number
invariant-loop-number l =
    place_below (trees l.self).actions (drop l.number-index l.below) (Some l.at) ≡ place_of (trees l.self) l.path
