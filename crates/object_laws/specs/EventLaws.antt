-- How each event of a guardian's own history changes the way in which an object stands. No store gives anything back
-- but before an opening.
use Rattle.std.specs.Prelude.{◌≡◌, suc, Bool, true, false, IsFalse, List, [], ◌∷◌, length}
use Rattle.action_names.specs.Names.{Name}
use Rattle.atomic_types.specs.Operations as op
use Rattle.atomic_types.specs.declared.op.Reply.{Reply}
use Rattle.run_model.specs.declared.step.ObjectId.{ObjectId}
use Rattle.run_model.specs.declared.step.Step.{Step}
use Rattle.run_model.specs.declared.step.Step.TheVariants.{Crash, Op}
use Rattle.run_model.specs.declared.answer.Answer.{Answer}
use Rattle.run_model.specs.declared.answer.Answer.TheVariants.{Granted}
use Rattle.run_model.specs.Keeping.{Standing, outlives_crash, same_object}
use Rattle.run_model.specs.LocalReadings.{LocalEvent, events_here, standing_here}
use Rattle.object_laws.specs.Changes.{crashed, with_operation}
use Rattle.object_laws.specs.Heard.{AreOfTheirOwn, heard, heard_in_turn}

abbrev pub is_crash : Step → Bool
is_crash (Crash g) = true
is_crash _ = false

-- an operation on x is granted
abbrev pub is_granted_on : ObjectId → Step → Answer → Bool
is_granted_on x (Op a y wanted) (Granted r) = same_object y x
is_granted_on x _ _ = false

-- A granted operation is kept, the newest.
abbrev pub OperationIsKept : Type 0
OperationIsKept =
    (c : LocalEvent) (here : List LocalEvent) (x : ObjectId) (a : Name) (wanted : op.Op) (r : Reply)
    → c.event.step ≡ Op a x wanted → c.event.answer ≡ Granted r → c.carried.outcomes ≡ []
    → c.carried.restored ≡ [] → standing_here (c ∷ here) x
    ≡ with_operation
    (record { number = suc (length here); action = a; object = x; operation = wanted; reply = r })
    (standing_here here x)

-- Whatever else is no crash changes the object by the outcomes alone that it brings.
abbrev pub OutcomesAreHeard : Type 0
OutcomesAreHeard = (c : LocalEvent) (here : List LocalEvent) (x : ObjectId)
    → IsFalse (is_crash c.event.step) → IsFalse (is_granted_on x c.event.step c.event.answer)
    → c.carried.restored ≡ []
    → standing_here (c ∷ here) x ≡ heard c.carried.outcomes (standing_here here x)

-- A crash of its guardian leaves of the operations those that outlive it.
abbrev pub CrashLeaves : Type 0
CrashLeaves = (c : LocalEvent) (here : List LocalEvent) (x : ObjectId)
    → c.event.step ≡ Crash x.guardian → c.carried.outcomes ≡ [] → c.carried.restored ≡ []
    → standing_here (c ∷ here) x
    ≡ crashed (λ o. outlives_crash o (events_here here)) (standing_here here x)

-- Outcomes of different actions may be heard one after another, and then in the order in which descendants come
-- before their ancestors.
abbrev pub HeardInTurn : Type 0
HeardInTurn = (outcomes : List (Name × Bool)) (s : Standing) → AreOfTheirOwn outcomes
    → heard outcomes s ≡ heard_in_turn outcomes s
