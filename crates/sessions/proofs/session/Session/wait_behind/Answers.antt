use Rattle.std.proofs.Common.{IfOk, subst, sym}
use Rattle.run_model.specs.declared.step.Step.TheVariants.{Op}
use Rattle.runtime.proofs.Answering.{with_none}
use Rattle.runtime.specs.Answering.{IsAnsweredFrom}
use Rattle.sessions.proofs.Waiting.{all_give_up}
use Rattle.sessions.proofs.session.Session.wait_behind.Goals as goal

pub returns-in-Some-clause-waits : goal.returns-in-Some-clause-waits
returns-in-Some-clause-waits g c = all_give_up g.U.Patience.over c.op_wait_behind.result c.op_wait_behind.ensures.waits

pub returns-in-Some-clause-answered : goal.returns-in-Some-clause-answered
returns-in-Some-clause-answered g c =
    let step = Op c.args.action.now c.args.object c.args.operation.now in
    subst (λ last. IfOk c.op_wait_behind.result (λ a. IsAnsweredFrom g.K.OfRun.opening last step a.answer a.receipt a.seen)) (sym c.in-Some.is) c.op_wait_behind.ensures.answered

pub returns-in-None-clause-answered : goal.returns-in-None-clause-answered
returns-in-None-clause-answered g c =
    let step = Op c.args.action.now c.args.object c.args.operation.now in
    let made = with_none g.K.OfRun.opening step c.op_wait_while.result c.op_wait_while.ensures.answered in
    subst (λ last. IfOk c.op_wait_while.result (λ a. IsAnsweredFrom g.K.OfRun.opening last step a.answer a.receipt a.seen)) (sym c.in-None.is) made

pub returns-in-None-clause-waits : goal.returns-in-None-clause-waits
returns-in-None-clause-waits g c = all_give_up g.U.Patience.over c.op_wait_while.result c.op_wait_while.ensures.waits
