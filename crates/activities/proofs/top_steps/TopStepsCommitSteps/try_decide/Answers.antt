use Rattle.std.proofs.Common.{ap, refl}
use Rattle.run_model.specs.declared.step.Step.TheVariants.{Decide}
use Rattle.activities.proofs.TwoPhases.{no_memory, step_tried}
use Rattle.activities.proofs.top_steps.TopStepsCommitSteps.try_decide.Goals as goal

pub returns-in_err-copy : goal.returns-in_err-copy
returns-in_err-copy g c = (
  refl,
  no_memory g.W.ActivitySteps.alone g.W.ActivitySteps.fails c.args.top.now (Decide c.args.top.now) c.from_residual.result
      (g.W.ActivitySteps.run c.args.self.now.world.now) c.from_residual.ensures.1,
)

pub returns : goal.returns
returns g c = (
  refl,
  step_tried g.W.ActivitySteps.alone g.W.ActivitySteps.fails c.args.top.now (Decide c.args.top.now) (Decide c.in_ok-copy.field-0) c.try_step.result
      (g.W.ActivitySteps.run c.args.self.now.world.now) (g.W.ActivitySteps.run c.try_step.new.world) (ap (λ b. Decide b) c.in_ok-copy.ensures.ok.1)
      c.try_step.ensures.makes c.try_step.ensures.told c.try_step.ensures.after c.try_step.ensures.done c.try_step.ensures.failed
      (c.try_step.ensures.over refl),
)
