use Rattle.locked_run.proofs.Behind.{answered_from}
use Rattle.runtime.proofs.Answering.{seen_after}
use Rattle.runtime.proofs.behind.two_behind.Goals as goal

pub returns-clause-answered : goal.returns-clause-answered
returns-clause-answered g c =
    let answered = rw c.in-Some.is at c.in_ok-given.ensures.answered in
    let since = rw c.in-Some.is at c.in_ok-given.ensures.one.since in
    seen_after g.K.OfRun.opening c.args.step.now c.args.earlier.now c.in-Some.given c.new.result c.seen-seen.result _ c.new.ensures
    c.seen-seen.ensures.seen answered (answered_from c.args.earlier.now answered since c.learn.ensures.behind)
