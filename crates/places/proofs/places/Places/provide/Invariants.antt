use Rattle.std.proofs.Common.{Some, drop, length, ◌++◌, ◌<◌, ◌≡◌}
use Rattle.action_names.specs.Names.{Name}
use Rattle.places.specs.Placed.{AreMore, place_in}
use Rattle.places.proofs.places.Places.provide.Given as goal

abbrev pub invariant-loop-number : goal.invariant-loop-number
invariant-loop-number l = record {
  done : Name;
  long : 0 < length done;
  path : l.action ≡ done ++ drop l.number-index l.below;
  more : AreMore l.fn.self l.self;
  place : place_in l.self done ≡ Some l.at;
}
