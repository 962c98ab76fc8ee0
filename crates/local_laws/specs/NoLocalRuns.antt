-- Histories of a guardian that are none: what its replies, its votes and the lists of messages rest on.
use Rattle.std.specs.Prelude.{ℕ, suc, ◌≡◌, pos, List, [], ◌∷◌, length, map}
use Rattle.values.specs.declared.value.Value.TheVariants.{Int}
use Rattle.atomic_types.specs.declared.op.Reply.TheVariants as reply
use Rattle.run_model.specs.declared.step.Step.TheVariants.{Abort, Call, Close, Commit, Crash, Op, Prepare, Recover, Tell, Top}
use Rattle.run_model.specs.declared.answer.Answer.TheVariants.{Began, Done, Granted, Refused, VoteYes}
use Rattle.run_model.specs.declared.answer.Refusal.TheVariants.{Orphan}
use Rattle.run_model.specs.declared.history.Event.{Event}
use Rattle.run_model.specs.Answers.{answer_of}
use Rattle.run_model.specs.Runs.{IsRun}
use Rattle.run_model.specs.LocalReadings.{LocalEvent, operation_here}
use Rattle.run_model.specs.LocalHistories.{carried, local_history, numbered}
use Rattle.run_laws.specs.NoRuns.{first, get, gives_zero, history_of, second, set_five, two_records}
use Rattle.local_laws.specs.Owed.{IsLocalRun}

-- the histories that guardians of the setup have once this happened
abbrev pub histories_of : List Event → ℕ → List LocalEvent
histories_of past g = local_history two_records (numbered past) g

-- the event as g keeps it
abbrev pub kept_at : ℕ → Event → List Event → LocalEvent
kept_at g e past =
    record { stamp = suc (length past); event = e; carried = carried two_records e g past (histories_of past) }

-- what g has is the history of a local run, and with the event it is none
abbrev pub IsNotOwed : ℕ → Event → List Event → Type 0
IsNotOwed g e past =
    IsLocalRun two_records g [] (histories_of past g)
    × (IsLocalRun two_records g [] (kept_at g e past ∷ histories_of past g) → ⊥)

-- A reply that ignores what the guardian was told: it reads what an aborted child wrote.
abbrev pub aborted_write : List Event
aborted_write = history_of (
    (Top 1, Began ((1 ∷ []) ∷ []))
    ∷ (Call (1 ∷ []) 1, Began ((1 ∷ 1 ∷ []) ∷ []))
    ∷ (Op (1 ∷ 1 ∷ []) first set_five, Granted reply.Done)
    ∷ (Abort (1 ∷ 1 ∷ []), Done 0)
    ∷ (Tell 1 (1 ∷ 1 ∷ []), Done 1)
    ∷ [])

abbrev pub ReplyIgnoresTelling : Type 0
ReplyIgnoresTelling =
    IsNotOwed 1
    (record { step = Op (1 ∷ []) first get; answer = Granted (reply.Gives (Int (pos 5))) })
    aborted_write

-- A vote that ignores a crash: yes, though the guardian lost what the subaction wrote there.
abbrev pub lost_write : List Event
lost_write = history_of (
    (Top 1, Began ((1 ∷ []) ∷ []))
    ∷ (Call (1 ∷ []) 2, Began ((1 ∷ 1 ∷ []) ∷ []))
    ∷ (Op (1 ∷ 1 ∷ []) second set_five, Granted reply.Done)
    ∷ (Commit (1 ∷ 1 ∷ []), Done 0)
    ∷ (Crash 2, Done 0)
    ∷ (Recover 2, Done 0)
    ∷ (Close (1 ∷ []), Done 0)
    ∷ [])

abbrev pub VoteIgnoresCrash : Type 0
VoteIgnoresCrash = IsNotOwed 2 (record { step = Prepare 2 (1 ∷ []); answer = VoteYes }) lost_write

-- Lists that were not carried: a guardian that heard nothing by messages grants an operation of an orphan, where the
-- message of a call brought the abort that makes it one.
abbrev pub orphan_called : List Event
orphan_called = history_of (
    (Top 1, Began ((1 ∷ []) ∷ []))
    ∷ (Call (1 ∷ []) 1, Began ((1 ∷ 1 ∷ []) ∷ []))
    ∷ (Call (1 ∷ 1 ∷ []) 2, Began ((1 ∷ 1 ∷ 1 ∷ []) ∷ []))
    ∷ (Abort (1 ∷ 1 ∷ []), Done 0)
    ∷ (Tell 1 (1 ∷ 1 ∷ []), Done 0)
    ∷ (Call (1 ∷ []) 2, Began ((1 ∷ 2 ∷ []) ∷ []))
    ∷ [])

-- the event with no lists
abbrev pub without_lists : LocalEvent → LocalEvent
without_lists c = record c { carried = record c.carried { aborts = []; counts = [] } }

abbrev pub ListsNotCarried : Type 0
ListsNotCarried =
    IsRun two_records orphan_called
    × (answer_of two_records (Op (1 ∷ 1 ∷ 1 ∷ []) second get) orphan_called ≡ Refused Orphan)
    × (operation_here two_records 2 (1 ∷ 1 ∷ 1 ∷ []) second get (histories_of orphan_called 2)
    ≡ Refused Orphan)
    × (operation_here two_records 2 (1 ∷ 1 ∷ 1 ∷ []) second
    get (map (λ c. without_lists c) (histories_of orphan_called 2))
    ≡ gives_zero)
