use Rattle.std.proofs.Common.{subst, ℕ, List}
use Rattle.std.specs.Prelude.{IfOk}
use Rattle.run_model.specs.declared.step.Step.TheVariants.{Op}
use Rattle.locked_run.specs.Acting.{IsAnswered}
use Rattle.runtime.proofs.Answering.{behind_none}
use Rattle.runtime.proofs.runtime.Runtime.op_wait_while.Goals as goal

pub returns-clause-answered : goal.returns-clause-answered
returns-clause-answered g c =
    let made = behind_none g.K.OfRun.opening (Op c.in_ok-copy.field-0 c.args.object c.in_ok-copy-2.field-0) c.until_answered.result c.until_answered.ensures.answered in
    subst (λ o. IfOk c.until_answered.result (λ a. IsAnswered g.K.OfRun.opening (Op c.args.action.now c.args.object o) a.answer a.receipt a.seen)) c.in_ok-copy-2.ensures
    (subst (λ (n : List ℕ). IfOk c.until_answered.result (λ a. IsAnswered g.K.OfRun.opening (Op n c.args.object c.in_ok-copy-2.field-0) a.answer a.receipt a.seen))
    c.in_ok-copy.ensures.ok.1 made)
