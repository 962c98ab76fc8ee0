use Rattle.std.proofs.Common.{List, Some, subst, ℕ}
use Rattle.std.specs.Prelude.{IfOk}
use Rattle.run_model.specs.declared.history.Event.{Event}
use Rattle.run_model.specs.declared.step.Step.TheVariants.{Op}
use Rattle.runtime.specs.Answering.{IsAnsweredFrom}
use Rattle.runtime.proofs.runtime.Runtime.op_wait_behind.Goals as goal

pub returns-clause-answered : goal.returns-clause-answered
returns-clause-answered g c =
    subst (λ o. IfOk c.until_answered.result (λ a. IsAnsweredFrom g.K.OfRun.opening (Some c.args.earlier.now)
    (Op c.args.action.now c.args.object o) a.answer a.receipt a.seen)) c.in_ok-operation.ensures
    (subst (λ (n : List ℕ). IfOk c.until_answered.result (λ a. IsAnsweredFrom g.K.OfRun.opening (Some c.args.earlier.now)
    (Op n c.args.object c.in_ok-operation.operation) a.answer a.receipt a.seen)) c.in_ok-copy.ensures.ok.1
    (subst (λ (r : List Event). IfOk c.until_answered.result (λ a. IsAnsweredFrom g.K.OfRun.opening (Some r)
    (Op c.in_ok-copy.field-0 c.args.object c.in_ok-operation.operation) a.answer a.receipt a.seen)) c.copy-copy.ensures.copied
    c.until_answered.ensures.answered))
