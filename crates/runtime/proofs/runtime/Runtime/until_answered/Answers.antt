use Rattle.std.proofs.Common.{List, Option, subst}
use Rattle.run_model.specs.declared.history.Event.{Event}
use Rattle.runtime.specs.Answering.{IsAnsweredFrom}
use Rattle.runtime.proofs.runtime.Runtime.until_answered.Goals as goal

pub returns-in-Some-2-clause-answered : goal.returns-in-Some-2-clause-answered
returns-in-Some-2-clause-answered g c =
    let found = rw c.in-Some-2.is at c.in_ok-answered.ensures.answered in
    subst (λ (e : Option (List Event)). IsAnsweredFrom g.K.OfRun.opening e c.args.step.now c.in-Some-2.answered.answer c.in-Some-2.answered.receipt c.in-Some-2.answered.seen)
    c.loop.invariant.same found
