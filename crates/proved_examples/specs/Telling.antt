-- What outcomes do to locks and values, and that they do it only where they were told.
use Rattle.std.specs.Prelude.{[], ◌∷◌}
use Rattle.run_model.specs.declared.step.ArmKind.TheVariants.{Sub}
use Rattle.run_model.specs.declared.step.Step.TheVariants.{Top, Call, Arms, Commit, Abort, Tell}
use Rattle.run_model.specs.declared.answer.Answer.TheVariants.{Began, Done, Refused}
use Rattle.run_model.specs.declared.answer.Refusal.TheVariants.{Busy}
use Rattle.proved_examples.specs.Example.{Example, action_1, action_1_1, action_1_1_1, action_1_2, get_balance, set_balance, began, waits_for, gives, granted}

-- a child's commit is not told yet: its parent waits for it
abbrev pub committed_not_told : Example
committed_not_told =
    (Top 1, began action_1)
    ∷ (Call action_1 1, began action_1_1)
    ∷ (set_balance action_1_1 50, granted)
    ∷ (get_balance action_1, Refused Busy)
    ∷ (Commit action_1_1, Done 0)
    ∷ (get_balance action_1, waits_for action_1_1)
    ∷ []

-- once it was told, the parent sees what the child wrote
abbrev pub commit_told_to_parent : Example
commit_told_to_parent =
    (Top 1, began action_1)
    ∷ (Call action_1 1, began action_1_1)
    ∷ (set_balance action_1_1 50, granted)
    ∷ (get_balance action_1, Refused Busy)
    ∷ (Commit action_1_1, Done 0)
    ∷ (get_balance action_1, waits_for action_1_1)
    ∷ (Tell 1 action_1_1, Done 1)
    ∷ (get_balance action_1, gives 50)
    ∷ []

-- an abort, once told, restores what the child overwrote
abbrev pub abort_restores : Example
abort_restores =
    (Top 1, began action_1)
    ∷ (Call action_1 1, began action_1_1)
    ∷ (set_balance action_1_1 50, granted)
    ∷ (Abort action_1_1, Done 0)
    ∷ (get_balance action_1, waits_for action_1_1)
    ∷ (Tell 1 action_1_1, Done 1)
    ∷ (get_balance action_1, gives 100)
    ∷ []

-- a parent's commit is told before its child's: the lock stays with the child until that is told too
abbrev pub tells_out_of_order : Example
tells_out_of_order =
    (Top 1, began action_1)
    ∷ (Call action_1 1, began action_1_1)
    ∷ (Call action_1_1 1, began action_1_1_1)
    ∷ (set_balance action_1_1_1 7, granted)
    ∷ (Commit action_1_1_1, Done 0)
    ∷ (Commit action_1_1, Done 0)
    ∷ (Tell 1 action_1_1, Done 0)
    ∷ (get_balance action_1, waits_for action_1_1_1)
    ∷ (Tell 1 action_1_1_1, Done 1)
    ∷ (get_balance action_1, gives 7)
    ∷ []

-- a read alone holds a lock, and passes it to the parent
abbrev pub read_lock_alone : Example
read_lock_alone =
    (Top 1, began action_1)
    ∷ (Arms action_1 (Sub ∷ Sub ∷ []), Began (action_1_1 ∷ action_1_2 ∷ []))
    ∷ (get_balance action_1_1, gives 100)
    ∷ (set_balance action_1_2 5, waits_for action_1_1)
    ∷ (Commit action_1_1, Done 0)
    ∷ (Tell 1 action_1_1, Done 1)
    ∷ (set_balance action_1_2 5, granted)
    ∷ []
