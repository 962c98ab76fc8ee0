use Rattle.std.proofs.Common.{[], refl}
use Rattle.run_model.specs.declared.step.Step.TheVariants.{Prepare}
use Rattle.activities.proofs.Failing.{over_same, quiet_over}
use Rattle.activities.proofs.Making.{makes_named}
use Rattle.activities.proofs.open_action.prepare.Goals as goal

pub returns-in_err-vote-clause-makes : goal.returns-in_err-vote-clause-makes
returns-in_err-vote-clause-makes g c =
    makes_named c.args.top.now c.in_ok-copy.field-0 [] (g.W.ActivitySteps.run c.args.world.now) (g.W.ActivitySteps.run c.make.new.world) c.in_ok-copy.ensures.ok.1 c.make.ensures.makes

pub returns-clause-makes : goal.returns-clause-makes
returns-clause-makes g c =
    makes_named c.args.top.now c.in_ok-copy.field-0 [] (g.W.ActivitySteps.run c.args.world.now) (g.W.ActivitySteps.run c.make.new.world) c.in_ok-copy.ensures.ok.1 c.make.ensures.makes

pub returns-in_err-vote-clause-over : goal.returns-in_err-vote-clause-over
returns-in_err-vote-clause-over g c =
    over_same g.W.ActivitySteps.alone g.W.ActivitySteps.fails (g.W.ActivitySteps.run c.args.world.now) (g.W.ActivitySteps.run c.make.new.world) c.in_err-vote.ensures.err

pub returns-clause-over : goal.returns-clause-over
returns-clause-over g c =
    quiet_over g.W.ActivitySteps.alone g.W.ActivitySteps.fails (g.W.ActivitySteps.run c.args.world.now) (g.W.ActivitySteps.run c.make.new.world)
    (Prepare c.args.guardian c.in_ok-copy.field-0) c.make.result tt c.make.ensures.answered c.make.ensures.began c.make.ensures.err refl
