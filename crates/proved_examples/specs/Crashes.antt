-- Crashes of guardians before and after they vote.
use Rattle.std.specs.Prelude.{pos, List, [], ◌∷◌, Some, codes}
use Rattle.values.specs.declared.value.Value.TheVariants.{Int}
use Rattle.atomic_types.specs.declared.operation.Operation.TheVariants.{Get, Set}
use Rattle.atomic_types.specs.declared.op.Reply.TheVariants as reply
use Rattle.run_model.specs.declared.step.Step.TheVariants.{Top, Call, Commit, Close, Prepare, Decide, Abort, Tell, Crash, Recover}
use Rattle.run_model.specs.declared.answer.Answer.TheVariants.{VoteYes, VoteNo, Done, Refused}
use Rattle.run_model.specs.declared.answer.Refusal.TheVariants.{Gone, Unready}
use Rattle.proved_examples.specs.Example.{Example, Placed, number_n, action_1, action_1_1, action_2, get_n, set_n, began, waits_for, gives, granted}

-- a guardian that crashed before its vote has lost a write, and votes no
abbrev pub crash_before_prepare : Example
crash_before_prepare =
    (Top 1, began action_1)
    ∷ (Call action_1 2, began action_1_1)
    ∷ (set_n action_1_1 4, granted)
    ∷ (Commit action_1_1, Done 0)
    ∷ (Crash 2, Done 0)
    ∷ (Recover 2, Done 0)
    ∷ (Close action_1, Done 0)
    ∷ (Prepare 1 action_1, VoteYes)
    ∷ (Prepare 2 action_1, VoteNo)
    ∷ (Decide action_1, Refused Unready)
    ∷ (Abort action_1, Done 0)
    ∷ (Tell 2 action_1, Done 0)
    ∷ []

-- what a guardian voted yes on survives its crash, and is locked until the outcome is told
abbrev pub crash_after_yes_vote : Example
crash_after_yes_vote =
    (Top 1, began action_1)
    ∷ (Call action_1 2, began action_1_1)
    ∷ (set_n action_1_1 4, granted)
    ∷ (Commit action_1_1, Done 0)
    ∷ (Close action_1, Done 0)
    ∷ (Prepare 1 action_1, VoteYes)
    ∷ (Prepare 2 action_1, VoteYes)
    ∷ (Crash 2, Done 0)
    ∷ (Recover 2, Done 0)
    ∷ (Top 2, began action_2)
    ∷ (get_n action_2, waits_for action_1)
    ∷ (Decide action_1, Done 0)
    ∷ (get_n action_2, waits_for action_1)
    ∷ (Tell 2 action_1, Done 1)
    ∷ (get_n action_2, gives 4)
    ∷ []

-- a read lock is lost in a crash even after a yes vote: another action writes, and commits first
abbrev pub prepared_read_lock_lost : Example
prepared_read_lock_lost =
    (Top 1, began action_1)
    ∷ (Call action_1 2, began action_1_1)
    ∷ (get_n action_1_1, gives 0)
    ∷ (Commit action_1_1, Done 0)
    ∷ (Close action_1, Done 0)
    ∷ (Prepare 1 action_1, VoteYes)
    ∷ (Prepare 2 action_1, VoteYes)
    ∷ (Crash 2, Done 0)
    ∷ (Recover 2, Done 0)
    ∷ (Top 2, began action_2)
    ∷ (set_n action_2 9, granted)
    ∷ (Close action_2, Done 0)
    ∷ (Prepare 2 action_2, VoteYes)
    ∷ (Decide action_2, Done 0)
    ∷ (Decide action_1, Done 0)
    ∷ []

-- the read comes before the write all the same, since its top action closed first
abbrev pub read_before_write : List Placed
read_before_write =
    (Some 5 ∷ Some 4 ∷ Some 3 ∷ [], action_1_1, number_n, Get (codes "n"), reply.Gives (Int (pos 0)))
    ∷ (Some 12 ∷ Some 11 ∷ [], action_2, number_n, Set (codes "n") (Int (pos 9)), reply.Done)
    ∷ []

-- a top action whose home crashed cannot be decided any more, and its abort frees the other guardian
abbrev pub coordinator_crashes : Example
coordinator_crashes =
    (Top 1, began action_1)
    ∷ (Call action_1 2, began action_1_1)
    ∷ (set_n action_1_1 4, granted)
    ∷ (Commit action_1_1, Done 0)
    ∷ (Close action_1, Done 0)
    ∷ (Prepare 1 action_1, VoteYes)
    ∷ (Prepare 2 action_1, VoteYes)
    ∷ (Crash 1, Done 0)
    ∷ (Decide action_1, Refused Gone)
    ∷ (Recover 1, Done 0)
    ∷ (Decide action_1, Refused Gone)
    ∷ (Abort action_1, Done 0)
    ∷ (Tell 2 action_1, Done 1)
    ∷ (Top 2, began action_2)
    ∷ (get_n action_2, gives 0)
    ∷ []
