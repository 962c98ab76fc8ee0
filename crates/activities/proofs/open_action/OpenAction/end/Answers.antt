use Rattle.std.proofs.Common.{[], ◌∷◌}
use Rattle.activities.proofs.Failing.{over_ends}
use Rattle.activities.proofs.Making.{ends_then}
use Rattle.activities.proofs.open_action.OpenAction.end.Goals as goal

pub returns-in-Err-clause-makes : goal.returns-in-Err-clause-makes
returns-in-Err-clause-makes g c =
    ends_then c.args.self.now.name (g.W.ActivitySteps.run c.args.world.now) (g.W.ActivitySteps.run c.try_end.new.world) (g.W.ActivitySteps.run c.abort.new.world) c.try_end.ensures.makes c.abort.ensures.makes

pub returns-in-Err-clause-over : goal.returns-in-Err-clause-over
returns-in-Err-clause-over g c =
    over_ends g.W.ActivitySteps.alone g.W.ActivitySteps.fails (c.args.self.now.name ∷ [])
    (g.W.ActivitySteps.run c.args.world.now) (g.W.ActivitySteps.run c.try_end.new.world)
    (g.W.ActivitySteps.run c.abort.new.world) c.try_end.ensures.over c.abort.ensures.over
