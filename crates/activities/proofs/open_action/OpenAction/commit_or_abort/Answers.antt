use Rattle.std.proofs.Common.{[], false, subst, ◌∷◌}
use Rattle.activities.specs.Making.{Tells}
use Rattle.activities.proofs.Failing.{committed_over, over_ends, over_less, over_through}
use Rattle.activities.proofs.Making.{ends_then, tells_then}
use Rattle.activities.proofs.open_action.OpenAction.commit_or_abort.Goals as goal

pub returns-in_err-abort-clause-makes : goal.returns-in_err-abort-clause-makes
returns-in_err-abort-clause-makes g c =
    ends_then c.args.self.now.name (g.W.ActivitySteps.run c.args.world.now) (g.W.ActivitySteps.run c.commit.new.world) (g.W.ActivitySteps.run c.abort.new.world) c.commit.ensures.makes c.abort.ensures.makes

pub returns-clause-makes : goal.returns-clause-makes
returns-clause-makes g c =
    ends_then c.args.self.now.name (g.W.ActivitySteps.run c.args.world.now) (g.W.ActivitySteps.run c.commit.new.world) (g.W.ActivitySteps.run c.abort.new.world) c.commit.ensures.makes c.abort.ensures.makes

pub returns-clause-told : goal.returns-clause-told
returns-clause-told g c =
    tells_then false c.args.self.now.name (g.W.ActivitySteps.run c.args.world.now) (g.W.ActivitySteps.run c.commit.new.world) (g.W.ActivitySteps.run c.abort.new.world)
    (subst (λ b. Tells b c.args.self.now.name (g.W.ActivitySteps.run c.args.world.now) (g.W.ActivitySteps.run c.commit.new.world)) c.if-branch.false c.in_ok-commit.ensures.told) c.abort.ensures.makes

pub returns-then-branch-clause-ended : goal.returns-then-branch-clause-ended
returns-then-branch-clause-ended g c =
    committed_over g.W.ActivitySteps.alone g.W.ActivitySteps.fails c.args.self.now.name (g.W.ActivitySteps.run c.args.world.now) (g.W.ActivitySteps.run c.commit.new.world) c.commit.ensures.over
    (subst (λ b. Tells b c.args.self.now.name (g.W.ActivitySteps.run c.args.world.now) (g.W.ActivitySteps.run c.commit.new.world)) c.if-branch.true c.in_ok-commit.ensures.told)

pub returns-clause-ended : goal.returns-clause-ended
returns-clause-ended g c =
    over_ends g.W.ActivitySteps.alone g.W.ActivitySteps.fails (c.args.self.now.name ∷ [])
    (g.W.ActivitySteps.run c.args.world.now) (g.W.ActivitySteps.run c.commit.new.world)
    (g.W.ActivitySteps.run c.abort.new.world) c.commit.ensures.over c.abort.ensures.over

pub returns-clause-over : goal.returns-clause-over
returns-clause-over g c =
    over_through g.W.ActivitySteps.alone g.W.ActivitySteps.fails (g.W.ActivitySteps.run c.args.world.now) (g.W.ActivitySteps.run c.commit.new.world) (g.W.ActivitySteps.run c.abort.new.world) c.commit.ensures.over
    (over_less g.W.ActivitySteps.alone g.W.ActivitySteps.fails (c.args.self.now.name ∷ []) (g.W.ActivitySteps.run c.commit.new.world) (g.W.ActivitySteps.run c.abort.new.world) c.abort.ensures.over)

pub returns-in_err-abort-clause-over : goal.returns-in_err-abort-clause-over
returns-in_err-abort-clause-over g c =
    over_through g.W.ActivitySteps.alone g.W.ActivitySteps.fails (g.W.ActivitySteps.run c.args.world.now) (g.W.ActivitySteps.run c.commit.new.world) (g.W.ActivitySteps.run c.abort.new.world) c.commit.ensures.over
    (over_less g.W.ActivitySteps.alone g.W.ActivitySteps.fails (c.args.self.now.name ∷ []) (g.W.ActivitySteps.run c.commit.new.world) (g.W.ActivitySteps.run c.abort.new.world) c.abort.ensures.over)
