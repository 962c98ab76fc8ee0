-- What stands at the end of a run.
use Rattle.std.specs.Prelude.{◌≡◌, ◌+◌, [], ◌∷◌, List, ℕ, Some, IsPermutation, map, slice_get}
use Rattle.one_run.specs.declared.piece.Piece.{Piece}
use Rattle.one_run.specs.Pieces.{AllFit}
use Rattle.shared_run.specs.Places.{touches}
use Rattle.run_model.specs.Runs.{IsRun}
use Rattle.run_laws.specs.Serving.{IsServed}
use Rattle.run_model.specs.declared.history.Event.{Event}
use Rattle.run_model.specs.Openings.{Opening}
use Rattle.layer_contracts.specs.Forests.{ForestState}
use Rattle.layer_contracts.specs.Guardians.{GuardianState}
use Rattle.stable_store.specs.Calls.{View}
use Rattle.world_steps.specs.Standings.{IsWorld}
use Rattle.locked_run.specs.declared.closing.CloseFault.{CloseFault}
use Rattle.locked_run.specs.declared.closing.CloseFault.TheVariants.{Memory, Receipts}
use Rattle.locked_run.specs.declared.closing.Ended.{Ended}
use Rattle.locked_run.specs.declared.closing.Ends.{Ends}
use Rattle.locked_run.specs.Receipts.{StandIn}
use Rattle.locked_run.specs.Stored.{guardian_events, registry_events}

-- the run as it was after each of its events
abbrev pub beginnings : List Event → List (List Event)
beginnings [] = []
beginnings (e ∷ past) = (e ∷ past) ∷ beginnings past

-- The registry and the guardians are a world of this run, and each lock has kept its events of it.
pub record AreEnds {R G : Type 0} (stands : G → GuardianState → Type 0) (stored : G → View)
    (forest : R → ForestState → Type 0) (opening : Opening) (past : List Event) (ends : Ends R G)
    : Type 0 where
  pub world : IsWorld stands stored (forest ends.registry.value) opening past
      (map (λ x. x.value) ends.guardians.items)
  pub registry : ends.registry.history ≡ registry_events opening past
  pub each : (i : ℕ) (x : Ended G) → slice_get ends.guardians.items i ≡ Some x
      → x.history ≡ guardian_events opening past (i + 1)

-- There is a run to which these parts fit, and in which each of these runs stands, none twice.
pub record AreCounted (opening : Opening) (v : List (Piece Event)) (runs : List (List Event))
    : Type 0 where
  pub past : List Event
  pub run : IsRun opening past
  pub fits : AllFit touches past v
  pub stand : StandIn past runs

-- There is one run, which is served. These receipts are those of its events, each once.
pub record IsClosed {R G : Type 0} (stands : G → GuardianState → Type 0) (stored : G → View)
    (forest : R → ForestState → Type 0) (opening : Opening) (given : List (List Event))
    (end : Ends R G) : Type 0 where
  pub past : List Event
  pub served : IsServed opening past
  pub ends : AreEnds stands stored forest opening past end
  pub receipts : IsPermutation given (beginnings past)

-- There is one run, which is served. These receipts, which come back as they were, are not those of its events.
pub record AreMissing {R G : Type 0} (stands : G → GuardianState → Type 0) (stored : G → View)
    (forest : R → ForestState → Type 0) (opening : Opening) (given returned : List (List Event))
    (end : Ends R G) : Type 0 where
  pub past : List Event
  pub served : IsServed opening past
  pub ends : AreEnds stands stored forest opening past end
  pub back : returned ≡ given
  pub missing : IsPermutation given (beginnings past) → ⊥

-- Memory ran out, or these receipts are not those of the run's events.
abbrev pub IsUnclosed : {K R G : Type 0} → (G → GuardianState → Type 0) → (G → View)
    → (R → ForestState → Type 0) → Opening → List (List Event) → CloseFault K R G → Type 0
IsUnclosed stands stored forest opening receipts Memory = Unit {0}
IsUnclosed stands stored forest opening receipts (Receipts ends back) =
    AreMissing stands stored forest opening receipts back ends
