use Rattle.std.proofs.Common.{IfOk, IfSome, List, Option, subst}
use Rattle.run_model.specs.declared.history.Event.{Event}
use Rattle.runtime.specs.Answering.{IsAnsweredFrom}
use Rattle.runtime.proofs.runtime.Runtime.try_op.Goals as goal

pub returns-in_default-done-clause-answered : goal.returns-in_default-done-clause-answered
returns-in_default-done-clause-answered g c =
    subst (λ (e : Option (List Event)). IfOk c.unless_waiting-in_default-done.result (λ r. IfSome r (λ a.
    IsAnsweredFrom g.K.OfRun.opening e c.args.step.now a.answer a.receipt a.seen))) c.guardian_behind.ensures.same
    c.unless_waiting-in_default-done.ensures.answered
