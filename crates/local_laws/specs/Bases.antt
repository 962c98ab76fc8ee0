-- What a store has is what is left of its guardian's objects, and what its prepared top actions hold.
use Rattle.std.specs.Prelude.{◌≡◌, ℕ, List, Some}
use Rattle.action_names.specs.Names.{Name}
use Rattle.atomic_types.specs.Parts.{laid_where}
use Rattle.run_model.specs.declared.history.Event.{Event}
use Rattle.run_model.specs.declared.step.ObjectId.{ObjectId}
use Rattle.run_model.specs.Actions.{home_of}
use Rattle.run_model.specs.Openings.{Opening, set_up}
use Rattle.run_model.specs.Runs.{IsRun}
use Rattle.run_model.specs.StableContent.{Prepared, parts_held, stable_base, stable_prepared}
use Rattle.run_model.specs.Versions.{base_of}

-- What is installed of an object, laid on its content at the setup, is its base, at every moment of a run.
abbrev pub BasesAreLaid : Type 0
BasesAreLaid = (opening : Opening) (past : List Event) (x : ObjectId) → IsRun opening past
    → laid_where (stable_base opening x.guardian x.number past) (set_up opening.setup x)
    ≡ base_of opening x past

-- A record says what its top action holds, as long as it is there, and not only at the vote that made it.
abbrev pub RecordsAreHeld : Type 0
RecordsAreHeld = (opening : Opening) (past : List Event) (g : ℕ) (t : Name) (r : Prepared)
    → IsRun opening past → stable_prepared opening g t past ≡ Some r
    → r ≡ record { home = home_of t past; parts = parts_held opening g t past }
