use Rattle.std.proofs.Common.{IfOk, subst, sym}
use Rattle.runtime.proofs.Answering.{with_none}
use Rattle.runtime.specs.Answering.{IsAnsweredFrom}
use Rattle.sessions.proofs.session.Session.step_behind.Goals as goal

pub returns-in-Some-clause-answered : goal.returns-in-Some-clause-answered
returns-in-Some-clause-answered g c =
    subst (λ last. IfOk c.step_behind.result (λ a. IsAnsweredFrom g.K.OfRun.opening last c.args.step.now a.answer a.receipt a.seen)) (sym c.in-Some.is) c.step_behind.ensures.answered

pub returns-in-None-clause-answered : goal.returns-in-None-clause-answered
returns-in-None-clause-answered g c =
    let made = with_none g.K.OfRun.opening c.args.step.now c.step.result c.step.ensures in
    subst (λ last. IfOk c.step.result (λ a. IsAnsweredFrom g.K.OfRun.opening last c.args.step.now a.answer a.receipt a.seen)) (sym c.in-None.is) made
