use Rattle.std.proofs.Common.{refl, subst, [], ◌∷◌}
use Rattle.activities.specs.Making.{Makes}
use Rattle.activities.specs.Performing.{op_step}
use Rattle.activities.proofs.Failing.{quiet_over}
use Rattle.activities.proofs.Making.{result_begins, result_makes}
use Rattle.activities.proofs.open_action.OpenAction.perform.Goals as goal

pub returns-clause-makes : goal.returns-clause-makes
returns-clause-makes g c =
    let old = g.W.ActivitySteps.run c.args.world.now in
    let new = g.W.ActivitySteps.run c.operate.new.self in
    subst (λ n. Makes (n ∷ []) [] old new) c.as_name.ensures
    (result_makes old new (op_step c.as_name.result.now c.args.self.now.home c.args.object c.args.operation) c.operate.result tt c.operate.ensures.after
    c.operate.ensures.err)

pub returns-clause-over : goal.returns-clause-over
returns-clause-over g c =
    let old = g.W.ActivitySteps.run c.args.world.now in
    let new = g.W.ActivitySteps.run c.operate.new.self in
    let step = op_step c.as_name.result.now c.args.self.now.home c.args.object c.args.operation in
    quiet_over g.W.ActivitySteps.alone g.W.ActivitySteps.fails old new step c.operate.result tt c.operate.ensures.answered
    (result_begins old new step c.operate.result tt c.operate.ensures.after) c.operate.ensures.err refl
