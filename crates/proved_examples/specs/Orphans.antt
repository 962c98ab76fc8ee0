-- Orphans: when a guardian knows of them, and how it comes to know.
use Rattle.std.specs.Prelude.{[], ◌∷◌}
use Rattle.run_model.specs.declared.step.Step.TheVariants.{Top, Call, Commit, Close, Abort, Tell, Crash, Recover}
use Rattle.run_model.specs.declared.answer.Answer.TheVariants.{Done, Refused}
use Rattle.run_model.specs.declared.answer.Refusal.TheVariants.{Down, Orphan}
use Rattle.proved_examples.specs.Example.{Example, action_1, action_1_1, action_1_2, action_2, action_2_1, get_balance, get_n, set_n, began, gives, granted}

-- an orphan goes on until its guardian is told that an ancestor aborted
abbrev pub orphan_by_abort : Example
orphan_by_abort =
    (Top 1, began action_1)
    ∷ (Call action_1 2, began action_1_1)
    ∷ (set_n action_1_1 4, granted)
    ∷ (Abort action_1, Done 0)
    ∷ (get_n action_1_1, gives 4)
    ∷ (Tell 2 action_1, Done 1)
    ∷ (get_n action_1_1, Refused Orphan)
    ∷ []

-- a call to a guardian that crashed since the caller came to depend on it is an orphan there
abbrev pub orphan_by_crash_count : Example
orphan_by_crash_count =
    (Top 1, began action_1)
    ∷ (Call action_1 2, began action_1_1)
    ∷ (set_n action_1_1 4, granted)
    ∷ (Commit action_1_1, Done 0)
    ∷ (Crash 2, Done 0)
    ∷ (Call action_1 2, Refused Down)
    ∷ (Recover 2, Done 0)
    ∷ (Call action_1 2, began action_1_2)
    ∷ (get_n action_1_2, Refused Orphan)
    ∷ (Commit action_1_2, Refused Orphan)
    ∷ (Abort action_1_2, Done 0)
    ∷ []

-- a call carries what the caller's guardian knows of aborts
abbrev pub lists_by_call : Example
lists_by_call =
    (Top 1, began action_1)
    ∷ (Call action_1 2, began action_1_1)
    ∷ (Abort action_1, Done 0)
    ∷ (get_n action_1_1, gives 0)
    ∷ (Tell 1 action_1, Done 0)
    ∷ (Top 1, began action_2)
    ∷ (Call action_2 2, began action_2_1)
    ∷ (get_n action_1_1, Refused Orphan)
    ∷ []

-- a call carries what the caller's guardian knows of crashes, its own among them
abbrev pub dependency_below_known_count : Example
dependency_below_known_count =
    (Top 1, began action_1)
    ∷ (Call action_1 2, began action_1_1)
    ∷ (set_n action_1_1 4, granted)
    ∷ (Commit action_1_1, Done 0)
    ∷ (Crash 2, Done 0)
    ∷ (Recover 2, Done 0)
    ∷ (get_balance action_1, gives 100)
    ∷ (Top 2, began action_2)
    ∷ (Call action_2 1, began action_2_1)
    ∷ (get_balance action_1, Refused Orphan)
    ∷ (Close action_1, Refused Orphan)
    ∷ []
