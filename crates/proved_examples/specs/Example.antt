-- What an example is, and the words in which the examples are written.
use Rattle.std.specs.Prelude.{ℕ, pos, List, [], ◌∷◌, ◌≡◌, map, codes, Option}
use Rattle.action_names.specs.Names.{Name}
use Rattle.values.specs.declared.value.Value.TheVariants.{Int}
use Rattle.values.specs.declared.content.Content.{Content}
use Rattle.values.specs.declared.content.Content.TheVariants.{Record}
use Rattle.atomic_types.specs.Operations as operation
use Rattle.atomic_types.specs.declared.operation.Operation.TheVariants.{Get, Set}
use Rattle.atomic_types.specs.declared.op.Reply.{Reply}
use Rattle.atomic_types.specs.declared.op.Reply.TheVariants as reply
use Rattle.run_model.specs.declared.step.ObjectId.{ObjectId}
use Rattle.run_model.specs.declared.step.Step.{Step}
use Rattle.run_model.specs.declared.step.Step.TheVariants.{Op}
use Rattle.run_model.specs.declared.answer.Answer.{Answer}
use Rattle.run_model.specs.declared.answer.Answer.TheVariants.{Began, Granted, Waits}
use Rattle.run_model.specs.declared.history.Event.{Event}
use Rattle.run_model.specs.Openings.{Opening, fresh}
use Rattle.run_model.specs.Runs.{answers_from, history_from}
use Rattle.run_model.specs.Keeping.{Performed}
use Rattle.run_model.specs.Places.{place_of, visible_by_place}

-- steps, one after another, each with its answer
abbrev pub Example : Type 0
Example = List (Step × Answer)

abbrev pub record_of : List ℕ → ℕ → Content
record_of name n = Record (record { name = name; value = Int (pos n) } ∷ [])

-- what the examples begin with: guardian 1 holds a balance of 100, guardian 2 a number n that is 0
abbrev pub two_records : Opening
two_records = fresh ((record_of (codes "balance") 100 ∷ []) ∷ (record_of (codes "n") 0 ∷ []) ∷ [])

abbrev pub steps_of : Example → List Step
steps_of example = map (λ line. line.0) example

-- the steps, asked one after another from the opening on, are answered as the example says
abbrev pub AnswersFrom : Opening → Example → Type 0
AnswersFrom opening example =
    answers_from opening [] (steps_of example) ≡ map (λ line. line.1) example

abbrev pub Answers : Example → Type 0
Answers example = AnswersFrom two_records example

-- the history that the steps leave
abbrev pub history_from_opening : Opening → Example → List Event
history_from_opening opening example = history_from opening [] (steps_of example)

abbrev pub history_of : Example → List Event
history_of example = history_from_opening two_records example

-- a visible operation: its place, its action, what was asked of which object, and the reply
abbrev pub Placed : Type 0
Placed = List (Option ℕ) × Name × ObjectId × operation.Op × Reply

abbrev pub placed : List Event → Performed → Placed
placed past o = (place_of o past, o.action, o.object, o.operation, o.reply)

-- what is visible to an action after the example, in order of place
abbrev pub Explains : Example → Name → List Placed → Type 0
Explains example a lines = let past = history_of example in
    map (λ o. placed past o) (visible_by_place a past) ≡ lines

abbrev pub action_1 : Name
action_1 = 1 ∷ []

abbrev pub action_1_1 : Name
action_1_1 = 1 ∷ 1 ∷ []

abbrev pub action_1_1_1 : Name
action_1_1_1 = 1 ∷ 1 ∷ 1 ∷ []

abbrev pub action_1_2 : Name
action_1_2 = 1 ∷ 2 ∷ []

abbrev pub action_2 : Name
action_2 = 2 ∷ []

abbrev pub action_2_1 : Name
action_2_1 = 2 ∷ 1 ∷ []

abbrev pub action_3 : Name
action_3 = 3 ∷ []

abbrev pub balance : ObjectId
balance = record { guardian = 1; number = 1 }

abbrev pub number_n : ObjectId
number_n = record { guardian = 2; number = 1 }

-- reads and writes of the two records
abbrev pub get_balance : Name → Step
get_balance a = Op a balance (Get (codes "balance"))

abbrev pub set_balance : Name → ℕ → Step
set_balance a v = Op a balance (Set (codes "balance") (Int (pos v)))

abbrev pub get_n : Name → Step
get_n a = Op a number_n (Get (codes "n"))

abbrev pub set_n : Name → ℕ → Step
set_n a v = Op a number_n (Set (codes "n") (Int (pos v)))

-- answers of one action or one value
abbrev pub began : Name → Answer
began a = Began (a ∷ [])

abbrev pub waits_for : Name → Answer
waits_for a = Waits (a ∷ [])

abbrev pub gives : ℕ → Answer
gives v = Granted (reply.Gives (Int (pos v)))

abbrev pub granted : Answer
granted = Granted reply.Done
