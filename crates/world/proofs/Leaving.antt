-- How a step left the stores, by what it answered.
use Rattle.std.proofs.Common.{Err, None, Ok, Option, Result, Some, ◌≡◌}
use Rattle.std.specs.Prelude.{IsErrOf, OnOk}
use Rattle.run_model.specs.declared.step.Step.{Step}
use Rattle.run_model.specs.Openings.{opening_in}
use Rattle.stable_store.specs.Calls.{View}
use Rattle.layer_contracts.specs.Stores.{fault_in}
use Rattle.layer_contracts.specs.declared.guardian.Fault.{Fault}
use Rattle.layer_contracts.specs.declared.guardian.Fault.TheVariants.{Stable}
use Rattle.world_steps.specs.Standings.{HasFailed, StoresLeft}
use Rattle.world.specs.Stops.{IsKeptThroughStops, StayUp}
use Rattle.world.specs.Worlds.{InWorld, LeavesStores, seen_of}

abbrev answered : {T : Type 0} → Fault → Result T Fault
answered fault = Err fault

abbrev no_fault : Option Fault
no_fault = None

pub leaves_stores : {S T : Type 0} (seen : S → View) (step : Step) (old new : InWorld S) (result : Result T Fault)
    → StoresLeft (λ g. seen_of seen g) (opening_in old.run.lists) old.run.past step old.guardians new.guardians (fault_in result)
    → (IsErrOf result Stable → HasFailed (λ g. seen_of seen g) old.guardians new.guardians)
    → IsKeptThroughStops (λ g. seen_of seen g) (opening_in old.run.lists) old.run.past step old.guardians new.guardians
    → OnOk result (StayUp (λ g. seen_of seen g) old.guardians new.guardians)
    → LeavesStores seen step (fault_in result) old new
leaves_stores seen step old new (Ok x) stores cause stop up =
    record { stores = stores; failed = λ e. absurd (none e); stop = stop; up = λ e. up }
  where
    none : no_fault ≡ Some Stable → ⊥
    none e = cc
leaves_stores {T = T} seen step old new (Err fault) stores cause stop up =
    record { stores = stores; failed = λ e. cause (same e); stop = stop; up = λ e. absurd (some fault e) }
  where
    same : Some fault ≡ Some Stable → answered {T = T} fault ≡ answered Stable
    same e = cc

    some : (fault : Fault) → Some fault ≡ no_fault → ⊥
    some fault e = cc
