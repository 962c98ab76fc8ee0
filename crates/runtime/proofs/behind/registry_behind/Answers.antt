use Rattle.locked_run.proofs.Behind.{answered_from}
use Rattle.runtime.proofs.Answering.{seen_after}
use Rattle.runtime.proofs.behind.registry_behind.Goals as goal

pub returns-clause-answered : goal.returns-clause-answered
returns-clause-answered g c =
    let answered = rw c.in-Some.is at c.in_ok-given.ensures.answered in
    let since = rw c.in-Some.is at c.in_ok-given.ensures.registry in
    seen_after g.K.OfRun.opening c.args.step.now c.args.earlier.now c.in-Some.given c.new.result c.seen-seen.result _ c.new.ensures
    c.seen-seen.ensures.seen answered.0 (answered_from c.args.earlier.now answered.0 since c.learn_there.ensures.behind)
