-- Answers in their short forms.
use Rattle.std.specs.Prelude.{◌≡◌, ◌+◌, ◌≤◌, ◌<◌, List, [], ◌∷◌, ◌++◌, Option, Some, None, length, map, slice_get, slice_range, take}
use Rattle.action_names.specs.Names.{Name}
use Rattle.values.specs.declared.value.Value.TheVariants.{Int}
use Rattle.atomic_types.specs.declared.op.Reply.{Reply}
use Rattle.atomic_types.specs.declared.op.Reply.TheVariants as replies
use Rattle.run_model.specs.declared.answer.Answer.{Answer}
use Rattle.run_model.specs.declared.answer.Answer.TheVariants as answers
use Rattle.packed_history.specs.declared.names.Begun.{Begun}
use Rattle.packed_history.specs.declared.names.Begun.TheVariants.{Top, Child}
use Rattle.packed_history.specs.declared.answers.ShortAnswer.{ShortAnswer}
use Rattle.packed_history.specs.declared.answers.ShortAnswer.TheVariants as short

-- what answers give, the oldest first
pub record Given : Type 0 where
  pub begun : List Begun
  pub replies : List Reply

abbrev pub nothing_given : Given
nothing_given = record { begun = []; replies = [] }

-- the name of what a step of a began
abbrev pub begun_name : Name → Begun → Name
begun_name a (Top n) = n ∷ []
begun_name a (Child n) = a ++ n ∷ []

-- what an answer gives is kept
abbrev pub HasAnswer : Given → ShortAnswer → Type 0
HasAnswer g (short.Began count start) = start + count ≤ length g.begun
HasAnswer g (short.Reply place) = place < length g.replies
HasAnswer g _ = Unit {0}

-- a reply that is kept; where there is none, that of a change stands for it
abbrev pub reply_by : Option Reply → Reply
reply_by None = replies.Done
reply_by (Some r) = r

-- the answer of a step of a in this short form
abbrev pub answer_in : Given → Name → ShortAnswer → Answer
answer_in g a (short.BeganTop n) = answers.Began ((n ∷ []) ∷ [])
answer_in g a (short.BeganChild n) = answers.Began ((a ++ n ∷ []) ∷ [])
answer_in g a (short.Began count start) =
    answers.Began (map (begun_name a) (slice_range g.begun start (start + count)))
answer_in g a short.Performed = answers.Granted replies.Done
answer_in g a (short.Number n) = answers.Granted (replies.Gives (Int n))
answer_in g a (short.Truth holds) = answers.Granted (replies.Truth holds)
answer_in g a (short.Signals signal) = answers.Granted (replies.Signals signal)
answer_in g a (short.Reply place) = answers.Granted (reply_by (slice_get g.replies place))
answer_in g a short.VoteYes = answers.VoteYes
answer_in g a short.VoteNo = answers.VoteNo
answer_in g a (short.Done n) = answers.Done n

-- what was kept before the answer
abbrev pub answers_before : Given → ShortAnswer → Given
answers_before g (short.Began count start) =
    record { begun = take start g.begun; replies = g.replies }
answers_before g (short.Reply place) = record { begun = g.begun; replies = take place g.replies }
answers_before g _ = g

-- the answer of a step of a is kept in this short form, behind what was kept before
pub record IsKeptAnswer (old new : Given) (a : Name) (short : ShortAnswer)
    (answer : Answer) : Type 0 where
  pub has : HasAnswer new short
  pub reads : answer_in new a short ≡ answer
  pub before : answers_before new short ≡ old
