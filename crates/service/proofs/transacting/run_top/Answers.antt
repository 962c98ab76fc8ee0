use Rattle.std.proofs.Common.{refl, subst, ◌∙◌}
use Rattle.service.specs.Transacting.{Goes, ends_top}
use Rattle.service.proofs.Calls.{if_stopped, top_run, undecided_if}
use Rattle.service.proofs.transacting.run_top.Goals as goal

pub work_in-done-requires-clause-run : goal.work_in-done-requires-clause-run
work_in-done-requires-clause-run g c = refl

pub work_in-done-requires-clause-action : goal.work_in-done-requires-clause-action
work_in-done-requires-clause-action g c = refl

pub work_in-done-requires-clause-home : goal.work_in-done-requires-clause-home
work_in-done-requires-clause-home g c = refl

pub work_in-done-requires-clause-there : goal.work_in-done-requires-clause-there
work_in-done-requires-clause-there g c = c.requires.there

pub work_in-done-requires-clause-reached : goal.work_in-done-requires-clause-reached
work_in-done-requires-clause-reached g c = refl

pub work_in-done-requires-clause-left : goal.work_in-done-requires-clause-left
work_in-done-requires-clause-left g c = refl

pub outcome-requires : goal.outcome-requires
outcome-requires g c = undecided_if c.work_in-done.result c.is_ok.result _ c.is_ok.ensures.value c.end_top-decided.ensures.asked

pub returns-clause-runs : goal.returns-clause-runs
returns-clause-runs g c =
    let run = g.W.MakesOwnSteps.run in
    top_run c.args.at (run c.args.service.now.world) (run c.work_in-done.new.service.world) (run c.end_top-decided.new.service.world)
    c.work_in-done.new.at.action _ c.work_in-done.new.at.left _ _ c.outcome.result c.work_in-done.ensures.action c.work_in-done.ensures.reached
    c.outcome.ensures.committed
    (λ e. let (ok, refused) = c.outcome.ensures.vote e in c.end_top-decided.ensures.down refused (c.is_ok.ensures.value ∙ ok))
    (λ fault e. if_stopped _ (c.outcome.ensures.step fault e) c.end_top-decided.ensures.stopped)
    c.work_in-done.ensures.works c.end_top-decided.ensures.ends

pub returns-clause-once : goal.returns-clause-once
returns-clause-once g c =
    let run = g.W.MakesOwnSteps.run in (
      c.work_in-done.result,
      c.outcome.ensures.given,
      record {
        worked = run c.work_in-done.new.service.world;
        ran = c.work_in-done.ensures.does;
        ended =
            subst (λ a. Goes g.W.MakesOwnSteps.sees (ends_top a) (run c.work_in-done.new.service.world) (run c.end_top-decided.new.service.world))
            c.work_in-done.ensures.action c.end_top-decided.ensures.ends.concludes.goes;
      },
    )
