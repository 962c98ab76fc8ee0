use Rattle.std.proofs.Common.{refl, [], ◌∙◌, ◌∷◌}
use Rattle.activities.proofs.Failing.{ends_over, over_named}
use Rattle.activities.proofs.Making.{makes_named, then_makes}
use Rattle.activities.proofs.open_action.abort_at_home.Goals as goal

pub returns-in_err-try_step-clause-makes : goal.returns-in_err-try_step-clause-makes
returns-in_err-try_step-clause-makes g c =
    let old = g.W.ActivitySteps.run c.args.world.now in
    let mid = g.W.ActivitySteps.run c.try_abort.new.world in
    then_makes c.args.action c.into_name.result old mid (g.W.ActivitySteps.run c.try_step.new.world) (c.into_name.ensures ∙ c.new-action.ensures)
    (makes_named c.args.action c.new-action.result [] old mid c.new-action.ensures c.try_abort.ensures.makes) c.try_step.ensures.makes

pub returns-in_err-try_step-clause-over : goal.returns-in_err-try_step-clause-over
returns-in_err-try_step-clause-over g c =
    let old = g.W.ActivitySteps.run c.args.world.now in
    let mid = g.W.ActivitySteps.run c.try_abort.new.world in
    ends_over g.W.ActivitySteps.alone g.W.ActivitySteps.fails (c.args.action ∷ []) old mid (g.W.ActivitySteps.run c.try_step.new.world)
    (over_named g.W.ActivitySteps.alone g.W.ActivitySteps.fails c.args.action c.new-action.result old mid c.new-action.ensures c.try_abort.ensures.over)
    (c.try_step.ensures.over refl)

pub returns-clause-makes : goal.returns-clause-makes
returns-clause-makes g c =
    let old = g.W.ActivitySteps.run c.args.world.now in
    let mid = g.W.ActivitySteps.run c.try_abort.new.world in
    then_makes c.args.action c.into_name.result old mid (g.W.ActivitySteps.run c.try_step.new.world) (c.into_name.ensures ∙ c.new-action.ensures)
    (makes_named c.args.action c.new-action.result [] old mid c.new-action.ensures c.try_abort.ensures.makes) c.try_step.ensures.makes

pub returns-clause-over : goal.returns-clause-over
returns-clause-over g c =
    let old = g.W.ActivitySteps.run c.args.world.now in
    let mid = g.W.ActivitySteps.run c.try_abort.new.world in
    ends_over g.W.ActivitySteps.alone g.W.ActivitySteps.fails (c.args.action ∷ []) old mid (g.W.ActivitySteps.run c.try_step.new.world)
    (over_named g.W.ActivitySteps.alone g.W.ActivitySteps.fails c.args.action c.new-action.result old mid c.new-action.ensures c.try_abort.ensures.over)
    (c.try_step.ensures.over refl)
