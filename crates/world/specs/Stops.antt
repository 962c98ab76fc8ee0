-- What a stop leaves of the stores of a world.
use Rattle.std.specs.Prelude.{◌≡◌, ◌⊎◌, IsTrue, List, ◌∷◌, map as each, Option, Some}
use Rattle.std.specs.List.{AllByRecursion, AllZip}
use Rattle.run_model.specs.declared.history.Event.{Event}
use Rattle.run_model.specs.declared.step.Step.{Step}
use Rattle.run_model.specs.Openings.{Opening}
use Rattle.run_model.specs.Runs.{is_accepted}
use Rattle.stable_store.specs.Calls.{IsTrusted, View}
use Rattle.stable_store.specs.Stored.{Stored}
use Rattle.world_steps.specs.Standings.{event_next}
use Rattle.recovery_laws.specs.OpenedStores.{AreLeftAfter}

-- A stop leaves each store a content, and all of them are as this says.
pub record LeavesContents (Are : List Stored → Type 0) (left : List (Option Stored)) : Type 0 where
  pub contents : List Stored
  pub found : left ≡ each (λ s. Some s) contents
  pub are : Are contents

-- the stores of the run with the step, where it is accepted, or those of the run without it
abbrev pub AreLeftWithin : Opening → List Event → Step → List Stored → Type 0
AreLeftWithin opening past step contents =
    let e = event_next opening step past in
    AreLeftAfter opening past contents
    ⊎ (IsTrue (is_accepted e.answer) × AreLeftAfter opening (e ∷ past) contents)

-- guardians are values of any type, each with the store that contracts see
module _ {X : Type 0} (stored : X → View) where
  -- what the stores contain
  abbrev pub contents_of : List X → List Stored
  contents_of guardians = each (λ x. (stored x).content) guardians

  -- each device is laid out as its store knows it, and has returned what was written to it
  abbrev pub AreTrusted : List X → Type 0
  AreTrusted guardians = AllByRecursion (λ x. IsTrusted (stored x)) guardians

  -- no failure has shut a store
  abbrev pub AreUp : List X → Type 0
  AreUp guardians = AllByRecursion (λ x. (stored x).is_up) guardians

  -- what openings after a stop at this moment may find, store by store: a content, or none
  abbrev pub MayLeave : List X → List (Option Stored) → Type 0
  MayLeave guardians left = AllZip (λ x found. (stored x).may_leave found) guardians left

  -- Whatever a stop now leaves are stores of this run, where all are trusted and up.
  abbrev pub IsKeptBetweenSteps : Opening → List Event → List X → Type 0
  IsKeptBetweenSteps opening past guardians =
      AreTrusted guardians → AreUp guardians → (left : List (Option Stored))
      → MayLeave guardians left → LeavesContents (AreLeftAfter opening past) left

  -- Whatever a stop within the step leaves are stores of the run without it or of the run with it, where all are
  -- trusted and were up before.
  abbrev pub IsKeptThroughStops : Opening → List Event → Step → List X → List X → Type 0
  IsKeptThroughStops opening past step before after =
      AreTrusted after → AreUp before → (left : List (Option Stored)) → MayLeave after left
      → LeavesContents (AreLeftWithin opening past step) left

  -- all that were up are so still, where they are trusted
  abbrev pub StayUp : List X → List X → Type 0
  StayUp before after = AreTrusted after → AreUp before → AreUp after
