-- What a world over stable stores is to contracts: its opening with what has happened since, its registry, and its
-- guardians with their stores.
use Rattle.std.specs.Prelude.{◌≡◌, ◌+◌, ℕ, true, List, [], length, Option, None, Some, slice_get}
use Rattle.run_model.specs.declared.step.Step.{Step}
use Rattle.run_model.specs.Openings.{Opening, opening_in}
use Rattle.run_model.specs.Runs.{World}
use Rattle.stable_store.specs.Calls.{Rests, View}
use Rattle.stable_store.specs.Plain.{plain_view}
use Rattle.stable_store.specs.Stored.{empty}
use Rattle.stable_store.specs.declared.plain.PlainStable.{PlainStable}
use Rattle.volatile_state.specs.Memories.{InMemory, IsSound}
use Rattle.guardian.specs.Guardians.{InParts, IsSettled, IsWhole}
use Rattle.registry.specs.Registries.{InRegistry, StandsIn}
use Rattle.layer_contracts.specs.declared.guardian.Fault.{Fault}
use Rattle.layer_contracts.specs.declared.guardian.Fault.TheVariants.{Stable}
use Rattle.world_steps.specs.Standings.{HasFailed, IsWorld, StoresLeft, standing}
use Rattle.world.specs.Stops.{IsKeptThroughStops, StayUp}

pub record InWorld (S : Type 0) : Type 0 where
  -- the opening, in lists, and what has happened since
  pub run : World
  pub registry : InRegistry
  pub guardians : List (InParts S)

abbrev pub store_in : {S : Type 0} → InParts S → S
store_in g = g.store

-- the store of a guardian, as contracts see it
abbrev pub seen_of : {S : Type 0} → (S → View) → InParts S → View
seen_of seen g = seen g.store

-- registry, guardians and stores stand where the run leads them
abbrev pub IsStanding : {S : Type 0} → (S → View) → InWorld S → Type 0
IsStanding seen w =
    IsWorld (λ g s. IsWhole seen g s) (λ g. seen_of seen g)
    (λ f. StandsIn w.registry f) (opening_in w.run.lists) w.run.past w.guardians

-- A step, which may have failed so, left each store as its call left it. If a store failed, it has counted that. What a
-- stop within the step leaves are stores of a run without the step, or with it. A step that is made shuts no store.
pub record LeavesStores {S : Type 0} (seen : S → View) (step : Step) (fault : Option Fault)
    (old new : InWorld S) : Type 0 where
  pub stores :
      StoresLeft (λ g. seen_of seen g) (opening_in old.run.lists) old.run.past step
      old.guardians new.guardians fault
  pub failed : fault ≡ Some Stable → HasFailed (λ g. seen_of seen g) old.guardians new.guardians
  pub stop :
      IsKeptThroughStops (λ g. seen_of seen g) (opening_in old.run.lists) old.run.past step
      old.guardians new.guardians
  pub up : fault ≡ None → StayUp (λ g. seen_of seen g) old.guardians new.guardians

-- the stores from which guardians begin, from the first on: each is at rest, and holds what the opening says that it
-- held, and nothing prepared
pub record AreOpened {S : Type 0} (seen : S → View) (opening : Opening)
    (stores : List S) : Type 0 where
  pub found : (i : ℕ) (s : S) → slice_get stores i ≡ Some s → (seen s).holds_content ≡ true
  pub rests : (i : ℕ) (s : S) → slice_get stores i ≡ Some s → Rests (seen s)
  pub settled : (i : ℕ) (s : S) → slice_get stores i ≡ Some s
      → IsSettled opening (i + 1) (seen s).content

-- the memories of guardians to whom nothing has happened, from the first on
pub record AreMemories (opening : Opening) (memories : List InMemory) : Type 0 where
  pub count : length memories ≡ length opening.setup
  pub each : (i : ℕ) (m : InMemory) → slice_get memories i ≡ Some m
      → IsSound m (standing opening [] (i + 1))

-- and such guardians, each over a store that is that of its history
pub record AreFirst {S : Type 0} (seen : S → View) (opening : Opening)
    (guardians : List (InParts S)) : Type 0 where
  pub count : length guardians ≡ length opening.setup
  pub each : (i : ℕ) (g : InParts S) → slice_get guardians i ≡ Some g
      → IsWhole seen g (standing opening [] (i + 1))

-- stores in memory to which nothing has happened
abbrev pub AreEmpty : List PlainStable → Type 0
AreEmpty stores = (i : ℕ) (s : PlainStable) → slice_get stores i ≡ Some s
    → (plain_view s).content ≡ empty
