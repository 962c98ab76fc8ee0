use Rattle.std.proofs.Common.{refl}
use Rattle.activities.proofs.TwoPhases.{vote_tried}
use Rattle.activities.proofs.top_steps.TopStepsCommitSteps.try_prepare.Goals as goal

pub returns : goal.returns
returns g c = (
  refl,
  vote_tried g.W.ActivitySteps.alone g.W.ActivitySteps.fails c.args.top.now c.args.guardian c.prepare.result
      (g.W.ActivitySteps.run c.args.self.now.world.now) (g.W.ActivitySteps.run c.prepare.new.world)
      c.prepare.ensures.makes c.prepare.ensures.after c.prepare.ensures.yes c.prepare.ensures.failed c.prepare.ensures.over,
)
