-- What comes behind what was seen of a run.
use Rattle.std.specs.Prelude.{◌≡◌, List, Option, None, Some}
use Rattle.one_run.specs.declared.piece.Piece.{Piece}
use Rattle.one_run.specs.Pieces.{AllFit, GoesOn, with_seen}
use Rattle.run_model.specs.declared.history.Event.{Event}
use Rattle.run_model.specs.Openings.{Opening}
use Rattle.run_model.specs.Runs.{IsRun}
use Rattle.shared_run.specs.Places.{touches}

-- the run goes on from the earlier one
abbrev pub IsBehind : List Event → List Event → Type 0
IsBehind earlier past = GoesOn touches None earlier past

-- the run goes on from the earlier one, if there is one
abbrev pub GoesOnFrom : Option (List Event) → List Event → Type 0
GoesOnFrom None past = Unit {0}
GoesOnFrom (Some earlier) past = IsBehind earlier past

-- what a look together with what was seen earlier tells: the run so far, which goes on from there
pub record LooksBehind (opening : Opening) (earlier : List Event)
    (v w : List (Piece Event)) : Type 0 where
  pub past : List Event
  pub run : IsRun opening past
  pub fits : AllFit touches past v
  pub behind : IsBehind earlier past
  pub seen : w ≡ with_seen past v
