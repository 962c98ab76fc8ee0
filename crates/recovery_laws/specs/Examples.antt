-- Small histories: what is settled after each, and what a new top action would see.
use Rattle.std.specs.Prelude.{IsFalse, length, ℕ, pos, ◌≡◌, ◌++◌, List, [], ◌∷◌, codes}
use Rattle.action_names.specs.Names.{Name, same_name}
use Rattle.values.specs.declared.content.Content.{Content}
use Rattle.values.specs.declared.content.Content.TheVariants.{Counter, Record}
use Rattle.values.specs.declared.value.Value.TheVariants.{Int}
use Rattle.atomic_types.specs.declared.operation.Operation.TheVariants.{Add, Set}
use Rattle.atomic_types.specs.Parts.{laid_where}
use Rattle.run_model.specs.declared.step.ObjectId.{ObjectId}
use Rattle.run_model.specs.declared.step.Step.{Step}
use Rattle.run_model.specs.declared.step.Step.TheVariants.{Abort, Call, Close, Commit, Crash, Decide, Op, Prepare, Recover, Tell, Top}
use Rattle.run_model.specs.Actions.{is_begun}
use Rattle.run_model.specs.Openings.{Held, Opening, first_content, fresh, nothing_held, set_up}
use Rattle.run_model.specs.Places.{visible_by_grant}
use Rattle.run_model.specs.Replay.{store_after}
use Rattle.run_model.specs.Runs.{history_from}
use Rattle.recovery_laws.specs.Settled.{settled_base}

-- All these steps are accepted. After them what is settled of the object leaves this content, and the top action t,
-- which is new, would see the same there.
abbrev pub Settles : Opening → List Step → ObjectId → Name → Content → Type 0
Settles opening steps x t content =
    let past = history_from opening [] steps in
    (length past ≡ length steps) × IsFalse (is_begun t past)
    × (laid_where (settled_base opening x.guardian x.number past) (set_up opening.setup x)
    ≡ content)
    × (store_after (first_content opening) (visible_by_grant t past) x ≡ content)

-- the first top action, the second and the third
abbrev pub one : Name
one = 1 ∷ []

abbrev pub two : Name
two = 2 ∷ []

abbrev pub three : Name
three = 3 ∷ []

-- a counter of 10
abbrev pub from_ten : Opening
from_ten = fresh ((Counter (pos 10) ∷ []) ∷ [])

-- which guardian 1 has
abbrev pub counter : ObjectId
counter = record { guardian = 1; number = 1 }

-- a adds n to it
abbrev pub adds : Name → ℕ → Step
adds a n = Op a counter (Add (Int (pos n)))

-- two adders, both prepared
abbrev pub two_prepared : List Step
two_prepared =
    Top 1 ∷ Top 1 ∷ adds one 5 ∷ adds two 7 ∷ Close one ∷ Prepare 1 one ∷ Close two
    ∷ Prepare 1 two ∷ []

-- of which one is decided, and the other not yet
abbrev pub one_decided : List Step
one_decided = two_prepared ++ Decide two ∷ []

-- of which one is decided and the other aborted, and the guardian crashed
abbrev pub one_aborted : List Step
one_aborted = two_prepared ++ Decide two ∷ Abort one ∷ Crash 1 ∷ Recover 1 ∷ []

-- and then it is told of both
abbrev pub both_told : List Step
both_told = one_aborted ++ Tell 1 one ∷ Tell 1 two ∷ []

-- a record of one field
abbrev pub record_of : ℕ → Content
record_of n = Record (record { name = codes "n"; value = Int (pos n) } ∷ [])

-- guardian 1 has a counter, and guardian 2 such a record
abbrev pub two_guardians : Opening
two_guardians = fresh ((Counter (pos 10) ∷ []) ∷ (record_of 0 ∷ []) ∷ [])

-- the record
abbrev pub away : ObjectId
away = record { guardian = 2; number = 1 }

-- a top action whose subaction at guardian 2 sets the record; both guardians prepare it
abbrev pub sets_away : ℕ → ℕ → List Step
sets_away t n =
    Top 1 ∷ Call (t ∷ []) 2 ∷ Op (t ∷ 1 ∷ []) away (Set (codes "n") (Int (pos n)))
    ∷ Commit (t ∷ 1 ∷ []) ∷ Close (t ∷ []) ∷ Prepare 1 (t ∷ []) ∷ Prepare 2 (t ∷ []) ∷ []

-- it is decided, which only its home knows
abbrev pub set_away : List Step
set_away = sets_away 1 4 ++ Decide one ∷ []

-- it is not decided
abbrev pub set_in_vain : List Step
set_in_vain = sets_away 1 4

-- a store that had the first top action of the history as decided before
abbrev pub one_is_known : Held
one_is_known = record nothing_held { decided = λ t. same_name t one }

-- an opening with such a store
abbrev pub decided_ahead : Opening
decided_ahead = record from_ten { stores = λ g. one_is_known }

-- that top action adds 5 and is prepared, and is not decided
abbrev pub adds_five : List Step
adds_five = Top 1 ∷ adds one 5 ∷ Close one ∷ Prepare 1 one ∷ []
