use Rattle.activities.specs.Acting.{acting}
use Rattle.activities.proofs.TwoPhases.{commits}
use Rattle.activities.proofs.open_action.OpenAction.commit_with.Goals as goal

pub returns-clause-same_world : goal.returns-clause-same_world
returns-clause-same_world g c =
    (commits c.args.steps.now c.commit_by_two_phases.new.steps g.W.ActivitySteps.alone g.W.ActivitySteps.fails
    (λ s. g.W.ActivitySteps.run s.world.now) (λ s. s.world.ghost_name) (acting c.args.self.now) c.as_name.result.now c.iter.result
    c.commit_by_two_phases.result c.as_name.ensures c.iter.ensures.rest c.commit_by_two_phases.ensures).0

pub returns-clause-comes : goal.returns-clause-comes
returns-clause-comes g c =
    (commits c.args.steps.now c.commit_by_two_phases.new.steps g.W.ActivitySteps.alone g.W.ActivitySteps.fails
    (λ s. g.W.ActivitySteps.run s.world.now) (λ s. s.world.ghost_name) (acting c.args.self.now) c.as_name.result.now c.iter.result
    c.commit_by_two_phases.result c.as_name.ensures c.iter.ensures.rest c.commit_by_two_phases.ensures).1
