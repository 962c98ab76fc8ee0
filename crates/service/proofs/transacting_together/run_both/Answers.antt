use Rattle.std.proofs.Common.{subst, ◌∙◌}
use Rattle.service.specs.Transacting.{Goes, ends_top}
use Rattle.service.proofs.Calls.{if_stopped, top_run, undecided_if}
use Rattle.service.proofs.transacting_together.run_both.Goals as goal

pub outcome-requires : goal.outcome-requires
outcome-requires g c = undecided_if c.both_in-done.result c.is_ok.result _ c.is_ok.ensures.value c.end_top-decided.ensures.asked

pub returns-clause-runs : goal.returns-clause-runs
returns-clause-runs g c =
    let run = g.W.MakesOwnSteps.run in
    top_run c.args.at (run c.args.service.now.world) (run c.both_in-done.new.service.world) (run c.end_top-decided.new.service.world)
    c.both_in-done.new.at.action _ c.both_in-done.new.at.left _ _ c.outcome.result c.both_in-done.ensures.action c.both_in-done.ensures.reached
    c.outcome.ensures.committed
    (λ e. let (ok, refused) = c.outcome.ensures.vote e in c.end_top-decided.ensures.down refused (c.is_ok.ensures.value ∙ ok))
    (λ fault e. if_stopped _ (c.outcome.ensures.step fault e) c.end_top-decided.ensures.stopped)
    c.both_in-done.ensures.works c.end_top-decided.ensures.ends

pub returns-clause-once : goal.returns-clause-once
returns-clause-once g c =
    let run = g.W.MakesOwnSteps.run in (
      c.both_in-done.result,
      c.outcome.ensures.given,
      record {
        worked = run c.both_in-done.new.service.world;
        ran = c.both_in-done.ensures.ran;
        ended =
            subst (λ a. Goes g.W.MakesOwnSteps.sees (ends_top a) (run c.both_in-done.new.service.world) (run c.end_top-decided.new.service.world))
            c.both_in-done.ensures.action c.end_top-decided.ensures.ends.concludes.goes;
      },
    )
