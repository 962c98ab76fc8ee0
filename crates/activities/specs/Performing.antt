-- What comes of an operation that a script asks for: which step is made, what it is told, and what is bound.
use Rattle.std.specs.Prelude.{◌≡◌, ℕ, Option, Some, None, option_map}
use Rattle.atomic_types.specs.Operations as op
use Rattle.atomic_types.specs.declared.op.Reply.{Reply}
use Rattle.atomic_types.specs.declared.op.Reply.TheVariants.{Signals}
use Rattle.action_names.specs.Names.{Name}
use Rattle.run_model.specs.declared.answer.Answer.{Answer}
use Rattle.run_model.specs.declared.answer.Answer.TheVariants as answer
use Rattle.run_model.specs.declared.step.Step.{Step}
use Rattle.run_model.specs.declared.step.Step.TheVariants.{Op}
use Rattle.run_model.specs.Answers.{answer_of}
use Rattle.run_model.specs.Openings.{opening_in}
use Rattle.run_model.specs.Runs.{World}
use Rattle.script_model.specs.declared.statement.Binding.{Binding}
use Rattle.script_model.specs.declared.statement.ObjectCall.{ObjectCall}
use Rattle.frames.specs.Bound.{Bound}
use Rattle.frames.specs.Binding.{bound_after}
use Rattle.frames.specs.Operating.{op_of}
use Rattle.activities.specs.declared.operations.Outcome.{Outcome}
use Rattle.activities.specs.declared.operations.Outcome.TheVariants as outcome
use Rattle.activities.specs.Continuing.{IsAfter}

-- the step by which an action makes an operation on an object of its home
abbrev pub op_step : Name → ℕ → ℕ → op.Op → Step
op_step name home object wanted = Op name (record { guardian = home; number = object }) wanted

-- the step that an operation of a script asks for; none where one of its arguments has no value
abbrev pub step_for : Name → ℕ → Bound → ObjectCall → Option Step
step_for name home before call =
    option_map (op_step name home call.object) (op_of before call.operation)

-- the world was left by the step, or by nothing where there is none
abbrev pub IsAfterAny : Option Step → World → World → Type 0
IsAfterAny None old new = new ≡ old
IsAfterAny (Some step) old new = IsAfter step old new

-- a reply that does not fit its binding is as if it was refused, and binds nothing
abbrev pub by_fit : Bound → Option Bound → Outcome × Bound
by_fit before None = (outcome.Refused, before)
by_fit before (Some after) = (outcome.Granted, after)

-- what comes of a reply; a signal binds nothing
abbrev pub by_reply : Bound → Binding → Reply → Outcome × Bound
by_reply before binding (Signals signal) = (outcome.Signalled, before)
by_reply before binding reply = by_fit before (bound_after before binding reply)

-- what comes of an answer
abbrev pub by_answer : Bound → Binding → Answer → Outcome × Bound
by_answer before binding (answer.Granted reply) = by_reply before binding reply
by_answer before binding (answer.Waits names) = (outcome.Waits, before)
by_answer before binding _ = (outcome.Refused, before)

-- what comes of the step and what is bound then; where there is no step, it is as if it was refused
abbrev pub outcome_of : World → Bound → Binding → Option Step → Outcome × Bound
outcome_of w before binding None = (outcome.Refused, before)
outcome_of w before binding (Some step) =
    by_answer before binding (answer_of (opening_in w.lists) step w.past)
