-- Ends of top actions, and what is refused after them.
use Rattle.std.specs.Prelude.{[], ◌∷◌}
use Rattle.run_model.specs.declared.step.Step.TheVariants.{Top, NestedTop, Close, Prepare, Decide, Abort, Tell}
use Rattle.run_model.specs.declared.answer.Answer.TheVariants.{VoteYes, Done, Refused}
use Rattle.run_model.specs.declared.answer.Refusal.TheVariants.{Ended, Already}
use Rattle.proved_examples.specs.Example.{Example, action_1, action_2, action_3, get_balance, set_balance, began, gives, granted}

-- a nested top action that committed stays committed when its starter aborts
abbrev pub nested_top_action_outlives_starter : Example
nested_top_action_outlives_starter =
    (Top 1, began action_1)
    ∷ (NestedTop action_1, began action_2)
    ∷ (set_balance action_2 60, granted)
    ∷ (Close action_2, Done 0)
    ∷ (Prepare 1 action_2, VoteYes)
    ∷ (Decide action_2, Done 0)
    ∷ (Tell 1 action_2, Done 1)
    ∷ (Abort action_1, Done 0)
    ∷ (Top 1, began action_3)
    ∷ (get_balance action_3, gives 60)
    ∷ []

-- what was done once is refused the second time
abbrev pub repeated_steps : Example
repeated_steps =
    (Top 1, began action_1)
    ∷ (get_balance action_1, gives 100)
    ∷ (Close action_1, Done 0)
    ∷ (get_balance action_1, Refused Ended)
    ∷ (Prepare 1 action_1, VoteYes)
    ∷ (Prepare 1 action_1, Refused Already)
    ∷ (Decide action_1, Done 0)
    ∷ (Decide action_1, Refused Ended)
    ∷ (Tell 1 action_1, Done 1)
    ∷ (Tell 1 action_1, Refused Already)
    ∷ []
