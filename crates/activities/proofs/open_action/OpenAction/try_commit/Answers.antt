use Rattle.std.proofs.Common.{refl}
use Rattle.activities.proofs.Making.{ends_named, if_ok_each, tells_named}
use Rattle.activities.proofs.open_action.OpenAction.try_commit.Goals as goal

pub returns-in_ok-copy-clause-makes : goal.returns-in_ok-copy-clause-makes
returns-in_ok-copy-clause-makes g c =
    ends_named c.args.self.now.name c.in_ok-copy.field-0 (g.W.ActivitySteps.run c.args.world.now) (g.W.ActivitySteps.run c.try_step.new.world) c.in_ok-copy.ensures.ok.1 c.try_step.ensures.makes

pub returns-in_ok-copy-clause-told : goal.returns-in_ok-copy-clause-told
returns-in_ok-copy-clause-told g c =
    if_ok_each c.try_step.result c.try_step.ensures.told
    (λ done t. tells_named done c.args.self.now.name c.in_ok-copy.field-0 (g.W.ActivitySteps.run c.args.world.now) (g.W.ActivitySteps.run c.try_step.new.world) c.in_ok-copy.ensures.ok.1 (t c.in_ok-copy.field-0 refl refl))
