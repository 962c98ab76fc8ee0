-- What comes of an operation, by the answer of its step.
use Rattle.std.proofs.Common.{Err, IfOk, None, Ok, OnOk, Result, Some, ap, option_map, refl, subst, sym, ℕ, ◌∙◌, ◌≡◌}
use Rattle.atomic_types.specs.Operations as op
use Rattle.atomic_types.specs.declared.op.Reply.{Reply}
use Rattle.atomic_types.specs.declared.op.Reply.TheVariants as reply
use Rattle.atomic_types.specs.declared.op.Signal.{Signal}
use Rattle.action_names.specs.Names.{Name}
use Rattle.run_model.specs.declared.answer.Answer.{Answer}
use Rattle.run_model.specs.declared.step.Step.{Step}
use Rattle.run_model.specs.Answers.{answer_of}
use Rattle.run_model.specs.Openings.{opening_in}
use Rattle.run_model.specs.Runs.{World, world_after}
use Rattle.script_model.specs.declared.statement.Binding.{Binding}
use Rattle.script_model.specs.declared.statement.Binding.TheVariants as binding
use Rattle.script_model.specs.declared.statement.ObjectCall.{ObjectCall}
use Rattle.frames.specs.Bound.{Bound}
use Rattle.frames.specs.Binding.{bound_after}
use Rattle.frames.specs.Operating.{op_of}
use Rattle.activities.specs.declared.operations.Outcome.TheVariants as outcome
use Rattle.activities.specs.Continuing.{IsAfter}
use Rattle.activities.specs.Performing.{IsAfterAny, by_answer, by_fit, by_reply, op_step, outcome_of, step_for}

-- ---- a step that was made is the one that was meant

pub after_made : {E : Type 0} (r : Result Answer E) (step made : Step) (old new : World) → made ≡ step
    → IfOk r (λ answer. answer ≡ answer_of (opening_in old.lists) made old.past) → IfOk r (λ answer. new ≡ world_after old made answer)
    → OnOk r (IsAfter step old new)
after_made (Ok answer) step made old new e h k = subst (λ s. IsAfter s old new) e (k ∙ ap (world_after old made) h)
after_made (Err fault) step made old new e h k = tt

pub answer_made : {E : Type 0} (r : Result Answer E) (step made : Step) (w : World) → made ≡ step
    → IfOk r (λ answer. answer ≡ answer_of (opening_in w.lists) made w.past) → IfOk r (λ answer. answer ≡ answer_of (opening_in w.lists) step w.past)
answer_made r step made w e h = subst (λ s. IfOk r (λ answer. answer ≡ answer_of (opening_in w.lists) s w.past)) e h

-- ---- where an argument has no value, and where each has

module _ (name : Name) (home : ℕ) (before : Bound) (call : ObjectCall) where
  no_step : op_of before call.operation ≡ None → step_for name home before call ≡ None
  no_step e = ap (option_map (op_step name home call.object)) e

  some_step : (wanted : op.Op) → op_of before call.operation ≡ Some wanted
      → step_for name home before call ≡ Some (op_step name home call.object wanted)
  some_step wanted e = ap (option_map (op_step name home call.object)) e

  pub none_after : (w : World) → op_of before call.operation ≡ None → IsAfterAny (step_for name home before call) w w
  none_after w e = subst (λ s. IsAfterAny s w w) (sym (no_step e)) refl

  pub some_after : (wanted : op.Op) (old new : World) → op_of before call.operation ≡ Some wanted → IsAfter (op_step name home call.object wanted) old new
      → IsAfterAny (step_for name home before call) old new
  some_after wanted old new e h = subst (λ s. IsAfterAny s old new) (sym (some_step wanted e)) h

  pub none_comes : (w : World) (binding : Binding) → op_of before call.operation ≡ None
      → (outcome.Refused, before) ≡ outcome_of w before binding (step_for name home before call)
  none_comes w binding e = sym (ap (outcome_of w before binding) (no_step e))

  pub some_comes : (wanted : op.Op) (w : World) (binding : Binding) (answer : Answer) → op_of before call.operation ≡ Some wanted
      → answer ≡ answer_of (opening_in w.lists) (op_step name home call.object wanted) w.past
      → by_answer before binding answer ≡ outcome_of w before binding (step_for name home before call)
  some_comes wanted w binding answer e h =
      ap (by_answer before binding) h ∙ sym (ap (outcome_of w before binding) (some_step wanted e))

pub ruleset comings = (none_after, some_after, none_comes, some_comes)

-- ---- what comes of a reply

no_signal_bound : (b new : Bound) (k : Binding) (s : Signal) → bound_after b k (reply.Signals s) ≡ Some new → ⊥
no_signal_bound b new binding.Nothing s e = cc
no_signal_bound b new (binding.Int place) s e = cc
no_signal_bound b new (binding.Text place) s e = cc
no_signal_bound b new (binding.Truth place) s e = cc

-- a reply that was bound is granted
pub bound_comes : (b new : Bound) (k : Binding) (r : Reply) → bound_after b k r ≡ Some new → (outcome.Granted, new) ≡ by_reply b k r
bound_comes b new k (reply.Gives v) e = sym (ap (by_fit b) e)
bound_comes b new k (reply.Truth t) e = sym (ap (by_fit b) e)
bound_comes b new k reply.Done e = sym (ap (by_fit b) e)
bound_comes b new k (reply.Signals s) e = absurd (no_signal_bound b new k s e)

-- one that is no signal and does not fit is as if it was refused
pub unfit_comes : (b : Bound) (k : Binding) (r : Reply) → ((s : Signal) → r ≡ reply.Signals s → ⊥) → bound_after b k r ≡ None
    → (outcome.Refused, b) ≡ by_reply b k r
unfit_comes b k (reply.Gives v) n e = sym (ap (by_fit b) e)
unfit_comes b k (reply.Truth t) n e = sym (ap (by_fit b) e)
unfit_comes b k reply.Done n e = sym (ap (by_fit b) e)
unfit_comes b k (reply.Signals s) n e = absurd (n s refl)

pub ruleset replies = (bound_comes, unfit_comes)
