use Rattle.activities.proofs.Making.{result_begins, result_makes}
use Rattle.activities.proofs.open_action.make.Goals as goal

pub returns-clause-makes : goal.returns-clause-makes
returns-clause-makes g c =
    result_makes (g.W.ActivitySteps.run c.args.world.now) (g.W.ActivitySteps.run c.make_step.new.self) c.args.step c.make_step.result
    c.requires.step c.make_step.ensures.after c.make_step.ensures.err

pub returns-clause-began : goal.returns-clause-began
returns-clause-began g c =
    result_begins (g.W.ActivitySteps.run c.args.world.now) (g.W.ActivitySteps.run c.make_step.new.self) c.args.step c.make_step.result
    c.requires.step c.make_step.ensures.after
