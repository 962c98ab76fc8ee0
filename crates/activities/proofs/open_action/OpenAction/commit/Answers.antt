use Rattle.std.proofs.Common.{subst, true}
use Rattle.activities.specs.Making.{Tells}
use Rattle.activities.proofs.Failing.{over_through}
use Rattle.activities.proofs.Making.{ends_then, tells_then}
use Rattle.activities.proofs.open_action.OpenAction.commit.Goals as goal

pub returns-in_err-tell-clause-makes : goal.returns-in_err-tell-clause-makes
returns-in_err-tell-clause-makes g c =
    ends_then c.args.self.now.name (g.W.ActivitySteps.run c.args.world.now) (g.W.ActivitySteps.run c.try_commit.new.world) (g.W.ActivitySteps.run c.tell.new.world) c.try_commit.ensures.makes c.tell.ensures.makes

pub returns-clause-makes : goal.returns-clause-makes
returns-clause-makes g c =
    ends_then c.args.self.now.name (g.W.ActivitySteps.run c.args.world.now) (g.W.ActivitySteps.run c.try_commit.new.world) (g.W.ActivitySteps.run c.tell.new.world) c.try_commit.ensures.makes c.tell.ensures.makes

pub returns-clause-told : goal.returns-clause-told
returns-clause-told g c =
    tells_then true c.args.self.now.name (g.W.ActivitySteps.run c.args.world.now) (g.W.ActivitySteps.run c.try_commit.new.world) (g.W.ActivitySteps.run c.tell.new.world)
    (subst (λ b. Tells b c.args.self.now.name (g.W.ActivitySteps.run c.args.world.now) (g.W.ActivitySteps.run c.try_commit.new.world)) c.if-not-branch.false c.in_ok-try_commit.ensures.told) c.tell.ensures.makes

pub returns-clause-over : goal.returns-clause-over
returns-clause-over g c =
    over_through g.W.ActivitySteps.alone g.W.ActivitySteps.fails (g.W.ActivitySteps.run c.args.world.now) (g.W.ActivitySteps.run c.try_commit.new.world) (g.W.ActivitySteps.run c.tell.new.world) c.try_commit.ensures.over c.tell.ensures.over

pub returns-in_err-tell-clause-over : goal.returns-in_err-tell-clause-over
returns-in_err-tell-clause-over g c =
    over_through g.W.ActivitySteps.alone g.W.ActivitySteps.fails (g.W.ActivitySteps.run c.args.world.now) (g.W.ActivitySteps.run c.try_commit.new.world) (g.W.ActivitySteps.run c.tell.new.world) c.try_commit.ensures.over c.tell.ensures.over
