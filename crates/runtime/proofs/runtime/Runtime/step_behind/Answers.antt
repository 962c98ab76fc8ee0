use Rattle.std.proofs.Common.{List, Some, subst}
use Rattle.std.specs.Prelude.{IfOk}
use Rattle.run_model.specs.declared.history.Event.{Event}
use Rattle.runtime.specs.Answering.{IsAnsweredFrom}
use Rattle.runtime.proofs.runtime.Runtime.step_behind.Goals as goal

pub returns-clause-answered : goal.returns-clause-answered
returns-clause-answered g c =
    subst (λ (r : List Event). IfOk c.until_made.result (λ a. IsAnsweredFrom g.K.OfRun.opening (Some r) c.args.step.now a.answer a.receipt a.seen))
    c.copy-copy.ensures.copied c.until_made.ensures
