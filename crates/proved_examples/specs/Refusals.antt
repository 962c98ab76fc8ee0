-- Steps that are refused, with the number of each refusal beside it, and the limit on levels.
use Rattle.std.specs.Prelude.{ℕ, zero, suc, pos, [], ◌∷◌, codes}
use Rattle.action_names.specs.Names.{Name, child_of}
use Rattle.values.specs.declared.value.Value.TheVariants.{Int, Text}
use Rattle.atomic_types.specs.declared.operation.Operation.TheVariants.{Get, Set, AddHigh}
use Rattle.run_model.specs.declared.step.ObjectId.{ObjectId}
use Rattle.run_model.specs.declared.step.Step.TheVariants.{Top, Call, Arms, Op, Commit, Close, Prepare, Decide, Tell, Recover}
use Rattle.run_model.specs.declared.answer.Answer.TheVariants.{Refused}
use Rattle.run_model.specs.declared.answer.Refusal.TheVariants.{NoGuardian, NoAction, NoObject, Elsewhere, NotSo, TooDeep, NotTop, NotSub, NotClosed, IsUp, Limit, BadOp}
use Rattle.proved_examples.specs.Example.{Example, balance, action_1, action_1_1, get_balance, get_n, began}

abbrev pub no_such_object : ObjectId
no_such_object = record { guardian = 1; number = 9 }

-- of several reasons to refuse a step, the first counts
abbrev pub refusal_numbers : Example
refusal_numbers =
    (Top 9, Refused NoGuardian)
    ∷ (Top 1, began action_1)
    ∷ (get_balance (7 ∷ []), Refused NoAction)
    ∷ (Op action_1 no_such_object (Get (codes "balance")), Refused NoObject)
    ∷ (get_n action_1, Refused Elsewhere)
    ∷ (Op action_1 balance (AddHigh (Int (pos 3))), Refused BadOp)
    ∷ (Op action_1 balance (Set (codes "balance") (Text (codes "x"))), Refused BadOp)
    ∷ (Commit action_1, Refused NotSub)
    ∷ (Tell 1 action_1, Refused NotSo)
    ∷ (Prepare 2 action_1, Refused Elsewhere)
    ∷ (Prepare 1 action_1, Refused NotClosed)
    ∷ (Decide action_1, Refused NotClosed)
    ∷ (Arms action_1 [], Refused Limit)
    ∷ (Recover 1, Refused IsUp)
    ∷ (Call action_1 1, began action_1_1)
    ∷ (Close action_1_1, Refused NotTop)
    ∷ []

-- n calls, each by the action that the one before began, and one more that is too deep
abbrev pub calls_down : ℕ → Name → Example
calls_down zero a = (Call a 1, Refused TooDeep) ∷ []
calls_down (suc n) a = (Call a 1, began (child_of a 1)) ∷ calls_down n (child_of a 1)

-- a name has at most 32 levels
abbrev pub depth_limit : Example
depth_limit = (Top 1, began action_1) ∷ calls_down 31 action_1
