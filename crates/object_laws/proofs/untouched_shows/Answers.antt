-- An object that nobody touched shows that nothing is kept.
use Rattle.std.proofs.Common.{[], refl}
use Rattle.object_laws.specs.Laws.{UntouchedShows}
use Rattle.object_laws.proofs.Held.{from_acts}
use Rattle.object_laws.proofs.Names.{none_rise}
use Rattle.object_laws.specs.Changes.{given}
use Rattle.object_model.specs.Objects.{untouched}
use Rattle.object_laws.proofs.untouched_shows.Goals as goal

untouched_shows : UntouchedShows
untouched_shows c told = from_acts c (given told []) (untouched c) (record {
  base = refl;
  versions = λ a. refl;
  rising = tt;
  deltas = λ a. refl;
  names_rise = none_rise;
  readers = λ a. refl;
  writers = λ a. refl;
  adders = λ a. refl;
  known = tt;
}) tt

pub returns : goal.returns
returns c = untouched_shows
