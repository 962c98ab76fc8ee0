-- What a world is: its history is a run, and its forest and its guardians stand where that run leads them.
use Rattle.std.specs.Prelude.{◌≡◌, ◌<◌, ◌⊎◌, ◌≢◌, ◌-◌, ℕ, Bool, ◌+◌, ◌==◌, ◌&&◌, ◌||◌, List, length, Option, Some, slice_get}
use Rattle.run_model.specs.declared.history.Event.{Event}
use Rattle.run_model.specs.declared.step.Step.{Step}
use Rattle.run_model.specs.Openings.{Opening}
use Rattle.run_model.specs.Answers.{answer_of}
use Rattle.run_model.specs.Runs.{IsRun, is_accepted}
use Rattle.run_model.specs.LocalReadings.{LocalEvent}
use Rattle.stable_store.specs.Calls.{View}
use Rattle.stable_store.specs.Stored.{Stored}
use Rattle.guardian_laws.specs.Stored.{after_event, asks_store}
use Rattle.guardian_laws.specs.Laws.{kept_event}
use Rattle.run_model.specs.LocalHistories.{events_there, local_history, names_guardian, registry_history, numbered}
use Rattle.layer_contracts.specs.Guardians.{GuardianState, event_of}
use Rattle.layer_contracts.specs.Forests.{ForestState}
use Rattle.layer_contracts.specs.Stores.{CountsFailure, IsStoreOf, Leaves}
use Rattle.layer_contracts.specs.declared.guardian.Fault.{Fault}
use Rattle.world_steps.specs.Keeping.{AreAnswered, IsDone, StandsStill, StoreLeft}

-- where the run leads guardian g
abbrev pub standing : Opening → List Event → ℕ → GuardianState
standing opening past g =
    record { opening = opening; number = g; past = local_history opening (numbered past) g }

-- and the forest
abbrev pub forest_of : Opening → List Event → ForestState
forest_of opening past =
    record { opening = opening; registry = registry_history opening (numbered past) }

-- Guardians are values of any type, each with the store that contracts see; they have their numbers from 1 on. Each
-- of them, and the forest, stands in many states, and among them where the run leads it.
pub record IsWorld {X : Type 0} (stands : X → GuardianState → Type 0) (stored : X → View)
    (forest_stands : ForestState → Type 0) (opening : Opening) (past : List Event)
    (guardians : List X) : Type 0 where
  pub is_run : IsRun opening past
  pub forest : forest_stands (forest_of opening past)
  pub count : length guardians ≡ length opening.setup
  pub each : (i : ℕ) (x : X) → slice_get guardians i ≡ Some x
      → stands x (standing opening past (i + 1))
  pub stores : (i : ℕ) (x : X) → slice_get guardians i ≡ Some x
      → IsStoreOf (standing opening past (i + 1)) (stored x)

-- the step, with the answer that it has then
abbrev pub event_next : Opening → Step → List Event → Event
event_next opening step past = event_of step (answer_of opening step past)

-- the event as guardian g keeps it, but for its stamp
abbrev pub brought : Opening → Event → List Event → ℕ → LocalEvent
brought opening e past g = kept_event opening (0, e) (numbered past) g

-- the step is accepted, names g, and asks g's store for a call
abbrev pub asks_of : Opening → Step → List Event → ℕ → Stored → Bool
asks_of opening step past g s =
    let e = event_next opening step past in
    is_accepted e.answer
    && (names_guardian step past g && asks_store g (brought opening e past g) s)

-- what g's store holds then
abbrev pub content_then : Opening → Step → List Event → ℕ → Stored → Stored
content_then opening step past g s =
    after_event opening g (brought opening (event_next opening step past) past g)
    (local_history opening (numbered past) g) s

-- What a step leaves of the stores: each has made the call that the step asks of it, or refused it, and is as it was
-- where none is asked.
pub record StoresLeft {X : Type 0} (stored : X → View) (opening : Opening) (past : List Event)
    (step : Step) (before after : List X) (fault : Option Fault) : Type 0 where
  pub each : (i : ℕ) (x y : X) → slice_get before i ≡ Some x → slice_get after i ≡ Some y
      → Leaves (asks_of opening step past (i + 1) (stored x).content)
      (content_then opening step past (i + 1) (stored x).content) (stored x) (stored y) fault

-- the store of one of them counted one failure more
abbrev pub HasFailed : {X : Type 0} → (X → View) → List X → List X → Type 0
HasFailed {X} stored before after =
    (i : ℕ) × (x : X) × (y : X) × (slice_get before i ≡ Some x) × (slice_get after i ≡ Some y)
    × CountsFailure (stored x) (stored y)

-- no guardian of the setup has this number
abbrev pub IsOut : ℕ → ℕ → Type 0
IsOut count g = (g ≡ 0) ⊎ (count < g)

-- the step names these two, or one twice
abbrev pub Names : ForestState → Step → ℕ → ℕ → Type 0
Names f step low high = (g : ℕ)
    → names_guardian step (events_there f.registry) g ≡ ((low == g) || (high == g))

-- What keeping an event asks of the two guardians. The guardian of each number stands in the state of that number.
pub record IsReady {X : Type 0} (stands : X → GuardianState → Type 0)
    (forest : ForestState → Type 0) (f : ForestState) (states : ℕ → GuardianState) (low high : ℕ)
    (e : Event) (guardians : List X) : Type 0 where
  pub number : (g : ℕ) → (states g).number ≡ g
  pub each : (x y : X) → slice_get guardians (low - 1) ≡ Some x
      → slice_get guardians (high - 1) ≡ Some y
      → AreAnswered forest (stands x) (stands y) f (states low) (states high) e

-- and what it leaves
pub record IsKeptAt {X : Type 0} (stands : X → GuardianState → Type 0)
    (forest : ForestState → Type 0) (f : ForestState) (states : ℕ → GuardianState) (low high n : ℕ)
    (e : Event) (before after : List X) : Type 0 where
  pub two : (x y : X) → slice_get after (low - 1) ≡ Some x → slice_get after (high - 1) ≡ Some y
      → IsDone forest (stands x) (stands y) f (states low) (states high) e n
  pub others : (i : ℕ) → i ≢ low - 1 → i ≢ high - 1 → slice_get after i ≡ slice_get before i

-- and what it leaves of the stores of those two; nobody else is touched
pub record IsLeftAt {X : Type 0} (stored : X → View) (f : ForestState) (states : ℕ → GuardianState)
    (low high : ℕ) (e : Event) (before after : List X) (fault : Option Fault) : Type 0 where
  pub first : (x y : X) → slice_get before (low - 1) ≡ Some x → slice_get after (low - 1) ≡ Some y
      → StoreLeft f (states low) (states high) e (states low) (stored x) (stored y) fault
  pub second : (x y : X) → slice_get before (high - 1) ≡ Some x
      → slice_get after (high - 1) ≡ Some y
      → StoreLeft f (states low) (states high) e (states high) (stored x) (stored y) fault
  pub others : (i : ℕ) → i ≢ low - 1 → i ≢ high - 1 → slice_get after i ≡ slice_get before i

-- the store of the guardian of this number is that of each history in which it stands
pub record IsWholeAt {X : Type 0} (stands : X → GuardianState → Type 0) (stored : X → View)
    (number : ℕ) (guardians : List X) : Type 0 where
  pub at : (x : X) (s : GuardianState) → slice_get guardians (number - 1) ≡ Some x → stands x s
      → IsStoreOf s (stored x)

-- all stand where they stood
pub record AreSame {X : Type 0} (stands : X → GuardianState → Type 0)
    (forest_stood forest_stands : ForestState → Type 0) (before after : List X) : Type 0 where
  pub forest : (f : ForestState) → forest_stood f → forest_stands f
  pub each : (i : ℕ) (x y : X) → slice_get before i ≡ Some x → slice_get after i ≡ Some y
      → StandsStill (stands x) (stands y)
