-- A guardian as contracts see it, and when its memory and its store are of one history.
use Rattle.std.specs.Prelude.{◌≡◌, ℕ, [], ◌∷◌, IsTrue}
use Rattle.std.specs.FinMap as map
use Rattle.std.specs.FinSet as set
use Rattle.run_model.specs.Openings.{Opening}
use Rattle.stable_store.specs.Calls.{View}
use Rattle.stable_store.specs.Stored.{Stored}
use Rattle.local_laws.specs.Owed.{IsLocalRun}
use Rattle.run_model.specs.declared.step.Step.{Step}
use Rattle.object_laws.specs.EventLaws.{is_crash}
use Rattle.guardian_laws.specs.Stored.{AreStored}
use Rattle.run_model.specs.declared.history.Event.{Event}
use Rattle.layer_contracts.specs.Guardians.{GuardianState, News}
use Rattle.layer_contracts.specs.Stores.{IsStoreOf}
use Rattle.volatile_state.specs.Memories.{InMemory, IsSound}
use Rattle.volatile_state.specs.Plans.{IsPlanOf}
use Rattle.volatile_state.specs.declared.plan.Plan.{Plan}

-- the memory, the plan of the event that was planned last, and the store
pub record InParts (S : Type 0) : Type 0 where
  pub memory : InMemory
  pub plan : Plan
  pub store : S

-- The guardian stands in this state: its memory does, its store is that of this history, and each reply, own vote and
-- count of the history is the one of the events before it.
pub record IsWhole {S : Type 0} (seen : S → View) (g : InParts S) (s : GuardianState) : Type 0 where
  pub memory : IsSound g.memory s
  pub store : IsStoreOf s (seen g.store)
  pub run : IsLocalRun s.opening s.number [] s.past

-- and it stands in some state
abbrev pub IsWholeOfSome : {S : Type 0} → (S → View) → InParts S → Type 0
IsWholeOfSome seen g = (s : GuardianState) × IsWhole seen g s

-- the plan is for this event, in some state in which memory and store stand
abbrev pub IsPlannedHere : {S : Type 0} → (S → View) → InParts S → Event → Type 0
IsPlannedHere seen g e = (s : GuardianState) × (news : News) × IsWhole seen g s
    × IsPlanOf g.plan g.memory s news × (news.event ≡ e)

-- of each such state and what the plan is for there
abbrev pub WhereverPlanned : {S : Type 0} → (S → View) → InParts S → Event
    → (GuardianState → News → Type 0) → Type 0
WhereverPlanned seen g e holds = (s : GuardianState) (news : News) → IsWhole seen g s
    → IsPlanOf g.plan g.memory s news → news.event ≡ e → holds s news

-- a crash finds in the store what the history says
abbrev pub IsRecordedAt : Step → Stored → GuardianState → Type 0
IsRecordedAt step held s = IsTrue (is_crash step) → AreStored s.opening s.number s.past held

-- The store holds what the opening says that it held, and nothing is prepared there.
pub record IsSettled (opening : Opening) (g : ℕ) (s : Stored) : Type 0 where
  pub base : (n : ℕ) → map.get s.base n ≡ (opening.stores g).base n
  pub prepared : s.prepared ≡ map.empty
  pub decided : (n : ℕ) → set.contains s.decided n ≡ (opening.stores g).decided (n ∷ [])
  pub count : s.count ≡ (opening.stores g).count
  pub next_top : s.next_top ≡ (opening.stores g).next_top
