use Rattle.std.proofs.Common.{IfOk, IfSome, List, Option, subst}
use Rattle.run_model.specs.declared.history.Event.{Event}
use Rattle.runtime.specs.Answering.{IsAnsweredFrom}
use Rattle.runtime.proofs.runtime.Runtime.try_step.Goals as goal

pub returns-in-None-clause-answered : goal.returns-in-None-clause-answered
returns-in-None-clause-answered g c =
    subst (λ (e : Option (List Event)). IfOk c.with_registry.result (λ r. IfSome r (λ a.
    IsAnsweredFrom g.K.OfRun.opening e c.args.step.now a.answer a.receipt a.seen))) c.own.ensures.same c.with_registry.ensures.answered
