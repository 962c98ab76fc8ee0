use Rattle.std.proofs.Common.{Some, drop, length, ◌++◌, ◌<◌, ◌≡◌}
use Rattle.action_names.specs.Names.{Name}
use Rattle.places.specs.Placed.{place_in}
use Rattle.places.specs.Trees.{names_by}
use Rattle.places.proofs.places.Places.find.Given as goal

abbrev pub invariant-loop-number : goal.invariant-loop-number
invariant-loop-number l = record {
  done : Name;
  long : 0 < length done;
  path : l.action ≡ done ++ drop l.number-index l.below;
  place : place_in (names_by l.self-inside.nodes.items) done ≡ Some l.at;
}
