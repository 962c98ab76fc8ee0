use Rattle.std.proofs.Common.{[], ◌∷◌}
use Rattle.activities.proofs.Failing.{ends_over}
use Rattle.activities.proofs.Making.{makes_through}
use Rattle.activities.proofs.open_action.OpenAction.abort.Goals as goal

pub returns-clause-makes : goal.returns-clause-makes
returns-clause-makes g c =
    makes_through (c.args.self.now.name ∷ []) [] (g.W.ActivitySteps.run c.args.world.now) (g.W.ActivitySteps.run c.try_abort.new.world)
    (g.W.ActivitySteps.run c.tell.new.world) c.try_abort.ensures.makes c.tell.ensures.makes

pub returns-clause-over : goal.returns-clause-over
returns-clause-over g c =
    ends_over g.W.ActivitySteps.alone g.W.ActivitySteps.fails (c.args.self.now.name ∷ []) (g.W.ActivitySteps.run c.args.world.now)
    (g.W.ActivitySteps.run c.try_abort.new.world) (g.W.ActivitySteps.run c.tell.new.world) c.try_abort.ensures.over c.tell.ensures.over
