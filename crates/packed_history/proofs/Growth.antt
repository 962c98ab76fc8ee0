-- What is kept later leaves what rows say.
use Rattle.std.proofs.Common.{◌≡◌, ℕ, ◌+◌, List, refl, ap, ap₂, sym, subst, ◌∙◌, arith}
use Rattle.std.specs.Option.{option_map}
use Rattle.std.specs.Prelude.{None, Option, Some, map, slice_get, slice_range, unwrap_or}
use Rattle.action_names.specs.Names.{Name}
use Rattle.run_model.specs.declared.answer.Answer.{Answer}
use Rattle.run_model.specs.declared.answer.Answer.TheVariants as answers
use Rattle.run_model.specs.declared.step.Step.{Step}
use Rattle.run_model.specs.declared.step.Step.TheVariants as steps
use Rattle.packed_history.specs.declared.answers.ShortAnswer.{ShortAnswer}
use Rattle.packed_history.specs.declared.answers.ShortAnswer.TheVariants as short
use Rattle.packed_history.specs.declared.arenas.Row.{Row}
use Rattle.packed_history.specs.declared.arenas.Row.TheVariants.{Short, Whole}
use Rattle.packed_history.specs.declared.plain.Plain.{Plain as PlainOp}
use Rattle.packed_history.specs.declared.steps.ShortStep.{ShortStep}
use Rattle.packed_history.specs.declared.steps.ShortStep.TheVariants.{Top, NestedTop, Call, Arms, Plain, Op, Commit, Close, Prepare, Decide, Abort, Tell, Crash, Recover}
use Rattle.packed_history.specs.Answers.{Given, HasAnswer, answer_in, answers_before, begun_name, reply_by}
use Rattle.packed_history.specs.Arenas.{HasRow, Parts, event_in, no_event, parts_before}
use Rattle.packed_history.specs.Plain.{HasPlain, HasWord, Plains, before_plain, plain_by, plain_operation}
use Rattle.packed_history.specs.Steps.{HasStep, Requests, asked, operation_by, step_in, steps_before}
use Rattle.packed_history.proofs.Fronts.{IsFront, front_get, front_length, front_range, front_same, front_take, front_then}

-- ---- plain operations

pub record HasMorePlain (old new : Plains) : Type 0 where
  pub words : IsFront old.words new.words
  pub plain : IsFront old.plain new.plain

same_plain : (p : Plains) → HasMorePlain p p
same_plain p = record { words = front_same p.words; plain = front_same p.plain }

plain_cut : (p : Plains) (place : ℕ) (q : Option PlainOp) → HasMorePlain (before_plain p place q) p
plain_cut p place None = same_plain p
plain_cut p place (Some q) = record { words = front_take q.start p.words; plain = front_take place p.plain }

word_has : (old new : List ℕ) (q : Option PlainOp) → IsFront old new → HasWord old q → HasWord new q
word_has old new None f h = tt
word_has old new (Some q) f h = let l = front_length old new f in omega (arith, l, h)

word_same : (old new : List ℕ) (q : Option PlainOp) → IsFront old new → HasWord old q → plain_operation new q ≡ plain_operation old q
word_same old new None f h = refl
word_same old new (Some q) f h =
    ap (λ w. option_map (λ o. (q.object, o)) (plain_by q.name w q.number)) (front_range old new f q.start (q.start + q.len) (omega arith) h)

plain_has : (old new : Plains) (place : ℕ) → HasMorePlain old new → HasPlain old place → HasPlain new place
plain_has old new place m h =
    let l = front_length old.plain new.plain m.plain in
    let P : Option PlainOp → Type 0 = λ q. HasWord new.words q in (
      omega (arith, l, h.0),
      subst P (sym (front_get old.plain new.plain m.plain place h.0)) (word_has old.words new.words (slice_get old.plain place) m.words h.1),
    )

plain_same : (old new : Plains) (place : ℕ) → HasMorePlain old new → HasPlain old place
    → plain_operation new.words (slice_get new.plain place) ≡ plain_operation old.words (slice_get old.plain place)
plain_same old new place m h =
    ap (plain_operation new.words) (front_get old.plain new.plain m.plain place h.0)
    ∙ word_same old.words new.words (slice_get old.plain place) m.words h.1

plain_then : (p q r : Plains) → HasMorePlain p q → HasMorePlain q r → HasMorePlain p r
plain_then p q r m n = record {
  words = front_then p.words q.words r.words m.words n.words;
  plain = front_then p.plain q.plain r.plain m.plain n.plain;
}

-- ---- steps

pub record HasMoreSteps (old new : Requests) : Type 0 where
  pub kinds : IsFront old.kinds new.kinds
  pub plain : HasMorePlain old.plain new.plain
  pub requests : IsFront old.requests new.requests

same_steps : (r : Requests) → HasMoreSteps r r
same_steps r = record { kinds = front_same r.kinds; plain = same_plain r.plain; requests = front_same r.requests }

steps_cut : (r : Requests) (s : ShortStep) → HasMoreSteps (steps_before r s) r
steps_cut r (Top g) = same_steps r
steps_cut r NestedTop = same_steps r
steps_cut r (Call g) = same_steps r
steps_cut r (Arms count start) = record { kinds = front_take start r.kinds; plain = same_plain r.plain; requests = front_same r.requests }
steps_cut r (Plain place) = record {
  kinds = front_same r.kinds;
  plain = plain_cut r.plain place (slice_get r.plain.plain place);
  requests = front_same r.requests;
}
steps_cut r (Op place) = record { kinds = front_same r.kinds; plain = same_plain r.plain; requests = front_take place r.requests }
steps_cut r Commit = same_steps r
steps_cut r Close = same_steps r
steps_cut r (Prepare g) = same_steps r
steps_cut r Decide = same_steps r
steps_cut r Abort = same_steps r
steps_cut r (Tell g) = same_steps r
steps_cut r (Crash g) = same_steps r
steps_cut r (Recover g) = same_steps r

step_has : (old new : Requests) (s : ShortStep) → HasMoreSteps old new → HasStep old s → HasStep new s
step_has old new (Top g) m h = tt
step_has old new NestedTop m h = tt
step_has old new (Call g) m h = tt
step_has old new (Arms count start) m h = let l = front_length old.kinds new.kinds m.kinds in omega (arith, l, h)
step_has old new (Plain place) m h = plain_has old.plain new.plain place m.plain h
step_has old new (Op place) m h = let l = front_length old.requests new.requests m.requests in omega (arith, l, h)
step_has old new Commit m h = tt
step_has old new Close m h = tt
step_has old new (Prepare g) m h = tt
step_has old new Decide m h = tt
step_has old new Abort m h = tt
step_has old new (Tell g) m h = tt
step_has old new (Crash g) m h = tt
step_has old new (Recover g) m h = tt

step_same : (old new : Requests) (a : Name) (s : ShortStep) → HasMoreSteps old new → HasStep old s → step_in new a s ≡ step_in old a s
step_same old new a (Top g) m h = refl
step_same old new a NestedTop m h = refl
step_same old new a (Call g) m h = refl
step_same old new a (Arms count start) m h =
    ap (λ kinds. steps.Arms a kinds) (front_range old.kinds new.kinds m.kinds start (start + count) (omega arith) h)
step_same old new a (Plain place) m h = ap (operation_by a) (plain_same old.plain new.plain place m.plain h)
step_same old new a (Op place) m h = ap (λ r. operation_by a (option_map asked r)) (front_get old.requests new.requests m.requests place h)
step_same old new a Commit m h = refl
step_same old new a Close m h = refl
step_same old new a (Prepare g) m h = refl
step_same old new a Decide m h = refl
step_same old new a Abort m h = refl
step_same old new a (Tell g) m h = refl
step_same old new a (Crash g) m h = refl
step_same old new a (Recover g) m h = refl

-- ---- answers

pub record HasMoreAnswers (old new : Given) : Type 0 where
  pub begun : IsFront old.begun new.begun
  pub replies : IsFront old.replies new.replies

same_answers : (g : Given) → HasMoreAnswers g g
same_answers g = record { begun = front_same g.begun; replies = front_same g.replies }

answers_cut : (g : Given) (s : ShortAnswer) → HasMoreAnswers (answers_before g s) g
answers_cut g (short.BeganTop n) = same_answers g
answers_cut g (short.BeganChild n) = same_answers g
answers_cut g (short.Began count start) = record { begun = front_take start g.begun; replies = front_same g.replies }
answers_cut g short.Performed = same_answers g
answers_cut g (short.Number n) = same_answers g
answers_cut g (short.Truth holds) = same_answers g
answers_cut g (short.Signals signal) = same_answers g
answers_cut g (short.Reply place) = record { begun = front_same g.begun; replies = front_take place g.replies }
answers_cut g short.VoteYes = same_answers g
answers_cut g short.VoteNo = same_answers g
answers_cut g (short.Done n) = same_answers g

answer_has : (old new : Given) (s : ShortAnswer) → HasMoreAnswers old new → HasAnswer old s → HasAnswer new s
answer_has old new (short.BeganTop n) m h = tt
answer_has old new (short.BeganChild n) m h = tt
answer_has old new (short.Began count start) m h = let l = front_length old.begun new.begun m.begun in omega (arith, l, h)
answer_has old new short.Performed m h = tt
answer_has old new (short.Number n) m h = tt
answer_has old new (short.Truth holds) m h = tt
answer_has old new (short.Signals signal) m h = tt
answer_has old new (short.Reply place) m h = let l = front_length old.replies new.replies m.replies in omega (arith, l, h)
answer_has old new short.VoteYes m h = tt
answer_has old new short.VoteNo m h = tt
answer_has old new (short.Done n) m h = tt

answer_same : (old new : Given) (a : Name) (s : ShortAnswer) → HasMoreAnswers old new → HasAnswer old s → answer_in new a s ≡ answer_in old a s
answer_same old new a (short.BeganTop n) m h = refl
answer_same old new a (short.BeganChild n) m h = refl
answer_same old new a (short.Began count start) m h =
    ap (λ begun. answers.Began (map (begun_name a) begun)) (front_range old.begun new.begun m.begun start (start + count) (omega arith) h)
answer_same old new a short.Performed m h = refl
answer_same old new a (short.Number n) m h = refl
answer_same old new a (short.Truth holds) m h = refl
answer_same old new a (short.Signals signal) m h = refl
answer_same old new a (short.Reply place) m h =
    ap (λ reply. answers.Granted (reply_by reply)) (front_get old.replies new.replies m.replies place h)
answer_same old new a short.VoteYes m h = refl
answer_same old new a short.VoteNo m h = refl
answer_same old new a (short.Done n) m h = refl

-- ---- rows

pub record HasMore (old new : Parts) : Type 0 where
  pub numbers : IsFront old.numbers new.numbers
  pub steps : HasMoreSteps old.steps new.steps
  pub answers : HasMoreAnswers old.answers new.answers
  pub whole : IsFront old.whole new.whole

pub more_then : (p q r : Parts) → HasMore p q → HasMore q r → HasMore p r
more_then p q r m n = record {
  numbers = front_then p.numbers q.numbers r.numbers m.numbers n.numbers;
  steps = record {
    kinds = front_then p.steps.kinds q.steps.kinds r.steps.kinds m.steps.kinds n.steps.kinds;
    plain = plain_then p.steps.plain q.steps.plain r.steps.plain m.steps.plain n.steps.plain;
    requests = front_then p.steps.requests q.steps.requests r.steps.requests m.steps.requests n.steps.requests;
  };
  answers = record {
    begun = front_then p.answers.begun q.answers.begun r.answers.begun m.answers.begun n.answers.begun;
    replies = front_then p.answers.replies q.answers.replies r.answers.replies m.answers.replies n.answers.replies;
  };
  whole = front_then p.whole q.whole r.whole m.whole n.whole;
}

pub parts_same : (p : Parts) → HasMore p p
parts_same p = record { numbers = front_same p.numbers; steps = same_steps p.steps; answers = same_answers p.answers; whole = front_same p.whole }

pub parts_cut : (p : Parts) (row : Row) → HasMore (parts_before p row) p
parts_cut p (Short depth start step answer) = record {
  numbers = front_take start p.numbers;
  steps = steps_cut p.steps step;
  answers = answers_cut p.answers answer;
  whole = front_same p.whole;
}
parts_cut p (Whole place) = record {
  numbers = front_same p.numbers;
  steps = same_steps p.steps;
  answers = same_answers p.answers;
  whole = front_take place p.whole;
}

pub row_has : (p q : Parts) (row : Row) → HasMore p q → HasRow p row → HasRow q row
row_has p q (Short depth start step answer) m h =
    let l = front_length p.numbers q.numbers m.numbers in
    (omega (arith, l, h.0), step_has p.steps q.steps step m.steps h.1, answer_has p.answers q.answers answer m.answers h.2)
row_has p q (Whole place) m h = let l = front_length p.whole q.whole m.whole in omega (arith, l, h)

pub row_same : (p q : Parts) (row : Row) → HasMore p q → HasRow p row → event_in q row ≡ event_in p row
row_same p q (Short depth start step answer) m h =
    let action = slice_range p.numbers start (start + depth) in
    let name = front_range p.numbers q.numbers m.numbers start (start + depth) (omega arith) h.0 in
    ap₂ (λ (s : Step) (a : Answer). record { step = s; answer = a })
    (ap (λ a. step_in q.steps a step) name ∙ step_same p.steps q.steps action step m.steps h.1)
    (ap (λ a. answer_in q.answers a answer) name ∙ answer_same p.answers q.answers action answer m.answers h.2)
row_same p q (Whole place) m h = ap (λ e. unwrap_or e no_event) (front_get p.whole q.whole m.whole place h)
