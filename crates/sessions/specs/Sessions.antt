-- What a session keeps: the receipts of one thread's events, what its starter had, and what was seen of the run.
use Rattle.std.specs.Prelude.{◌≡◌, ◌<◌, ◌==◌, ◌||◌, ℕ, suc, Bool, false, true, List, [], ◌∷◌, ◌++◌, length, if◌then◌else◌, Option, Some, None, Result, Ok, Err}
use Rattle.layer_contracts.specs.declared.guardian.Fault.{Fault}
use Rattle.run_model.specs.declared.history.Event.{Event}
use Rattle.run_model.specs.Openings.{Opening, OpeningLists}
use Rattle.run_model.specs.Runs.{IsRun}
use Rattle.locked_run.specs.Behind.{IsBehind}
use Rattle.locked_run.specs.Receipts.{StandIn}
use Rattle.stepping.specs.Beside.{OwnRun}
use Rattle.runtime.specs.declared.answered.Answered.{Answered}
use Rattle.runtime.specs.Faults.{fault_told}
use Rattle.runtime.specs.declared.fault.StepFault.{StepFault}

-- ---- a thread's own events

-- one of these runs has so many events
abbrev pub has_length : List (List Event) → ℕ → Bool
has_length [] n = false
has_length (run ∷ runs) n = (length run == n) || has_length runs n

-- of the events of a run, those with which one of these beginnings of it ends
abbrev pub own_of : List (List Event) → List Event → List Event
own_of ends [] = []
own_of ends (e ∷ past) =
    if has_length ends (suc (length past)) then e ∷ own_of ends past else own_of ends past

-- what was seen of the run, if anything was
abbrev pub seen_in : Option (List Event) → List Event
seen_in None = []
seen_in (Some seen) = seen

-- the opening, and the events of the receipts behind those of its starter
abbrev pub run_of : OpeningLists → List (List Event) → List (List Event) → Option (List Event)
    → OwnRun
run_of lists since receipts last =
    record { lists = lists; past = own_of (since ++ receipts) (seen_in last); since = since }

-- ---- receipts and what was seen

-- each is a beginning of what was seen
abbrev pub AreBehind : List (List Event) → List Event → Type 0
AreBehind [] seen = Unit {0}
AreBehind (run ∷ runs) seen = IsBehind run seen × AreBehind runs seen

-- each has fewer events
abbrev pub AreBelow : List (List Event) → ℕ → Type 0
AreBelow [] n = Unit {0}
AreBelow (run ∷ runs) n = (length run < n) × AreBelow runs n

-- each of the second has more events than each of the first
abbrev pub AreLater : List (List Event) → List (List Event) → Type 0
AreLater before [] = Unit {0}
AreLater before (run ∷ runs) = AreBelow before (length run) × AreLater before runs

-- no two of them, unless they are empty, have as many events
abbrev pub AreApart : List (List Event) → List (List Event) → Type 0
AreApart one other =
    (n : ℕ) → has_length one (suc n) ≡ true → has_length other (suc n) ≡ true → ⊥

-- What was seen is a run, and each receipt knows a beginning of it. Those of the session came after those that its
-- starter had.
pub record AreInOrder (opening : Opening) (before own : List (List Event))
    (last : Option (List Event)) : Type 0 where
  pub run : IsRun opening (seen_in last)
  pub before_seen : AreBehind before (seen_in last)
  pub own_seen : AreBehind own (seen_in last)
  pub later : AreLater before own

-- it goes on from what both have seen, and is a run if both are
pub record GoesOnFromBoth (opening : Opening) (one other joined : Option (List Event))
    : Type 0 where
  pub first : IsBehind (seen_in one) (seen_in joined)
  pub second : IsBehind (seen_in other) (seen_in joined)
  pub run : IsRun opening (seen_in one) → IsRun opening (seen_in other)
      → IsRun opening (seen_in joined)

-- The run goes on from what was seen, if anything was, and none of these receipts stands twice in it. Who had seen nothing
-- has seen nothing still.
abbrev pub LooksOn : Opening → List (List Event) → Option (List Event) → Option (List Event)
    → Type 0
LooksOn opening runs None now = now ≡ None
LooksOn opening runs (Some seen) None = ⊥
LooksOn opening runs (Some seen) (Some past) =
    IsRun opening past × IsBehind seen past × StandIn past runs

-- ---- what a step leaves

-- what was seen last: what came with the answer, whatever that was; after a fault, nothing new
abbrev pub IsLastSeen : {K E : Type 0} → Result (Answered K) E → Option (List Event)
    → Option (List Event) → Type 0
IsLastSeen (Ok answered) old new = new ≡ Some answered.seen
IsLastSeen (Err fault) old new = new ≡ old

-- why the last step failed, of which the caller was told this; nothing if it did not fail
abbrev pub IsLastFault : Option Fault → Option StepFault → Type 0
IsLastFault None last = last ≡ None
IsLastFault (Some fault) last = (why : StepFault) × (last ≡ Some why) × (fault_told why ≡ fault)
