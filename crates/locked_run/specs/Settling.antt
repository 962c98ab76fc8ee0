-- What guardians and the registry give up when a run ends.
use Rattle.std.specs.Prelude.{◌≡◌, ◌≤◌, ◌++◌, List, length}
use Rattle.std.specs.List.{AllZip}
use Rattle.one_run.specs.declared.piece.Piece.{Piece}
use Rattle.run_model.specs.declared.history.Event.{Event}
use Rattle.run_model.specs.Openings.{Opening}
use Rattle.run_model.specs.Runs.{IsRun}
use Rattle.layer_contracts.specs.Forests.{ForestState}
use Rattle.layer_contracts.specs.Guardians.{GuardianState}
use Rattle.layer_contracts.specs.Stores.{IsStoreOf}
use Rattle.stable_store.specs.Calls.{View}
use Rattle.world_steps.specs.Standings.{forest_of, standing}
use Rattle.locked_run.specs.Parts.{InHeld, guardian_part}
use Rattle.locked_run.specs.Stored.{guardian_events, registry_events}
use Rattle.locked_run.specs.declared.closing.Ended.{Ended}

-- What stood under the lock of a guardian stands where the run leads it that the guardian has seen; its
-- store is that of its history, and it has kept its events.
pub record IsSettled {G : Type 0} (stands : G → GuardianState → Type 0) (stored : G → View)
    (opening : Opening) (held : InHeld G) (end : Ended G) : Type 0 where
  pub run : IsRun opening held.seen
  pub first : 1 ≤ held.number
  pub last : held.number ≤ length opening.setup
  pub here : stands end.value (standing opening held.seen held.number)
  pub store : IsStoreOf (standing opening held.seen held.number) (stored end.value)
  pub kept : end.history ≡ guardian_events opening held.seen held.number

-- and so does the registry
pub record IsSettledThere {R : Type 0} (forest : R → ForestState → Type 0) (opening : Opening)
    (seen : List Event) (end : Ended R) : Type 0 where
  pub run : IsRun opening seen
  pub there : forest end.value (forest_of opening seen)
  pub kept : end.history ≡ registry_events opening seen

-- the part is that of the guardian
abbrev pub IsPartOf : {G : Type 0} → InHeld G → Piece Event → Type 0
IsPartOf held part = part ≡ guardian_part held.number part.left held.seen

-- These parts were added, one for each guardian.
pub record HaveJoined {G : Type 0} (guardians : List (InHeld G)) (old new : List (Piece Event))
    : Type 0 where
  pub parts : List (Piece Event)
  pub whole : new ≡ old ++ parts
  pub each : AllZip IsPartOf guardians parts
