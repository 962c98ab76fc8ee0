use Rattle.std.proofs.Common.{ap, subst, sym, ◌≡◌}
use Rattle.run_model.specs.Actions.{maker_in}
use Rattle.activities.specs.Making.{Makes, commits_of}
use Rattle.activities.specs.OwnSteps.{IsOfAction, about}
use Rattle.activities.specs.Serial.{after}
use Rattle.activities.proofs.Alone.{alone_after}
use Rattle.activities.proofs.Failing.{abort_over, quiet_over}
use Rattle.activities.proofs.Making.{result_begins, result_makes}
use Rattle.activities.proofs.open_action.try_abort.Goals as goal

pub returns-in_err-make_step-clause-makes : goal.returns-in_err-make_step-clause-makes
returns-in_err-make_step-clause-makes g c =
    let old = g.W.ActivitySteps.run c.args.world.now in
    let new = g.W.ActivitySteps.run c.make_step.new.self in
    subst (λ s. Makes (about s) (commits_of s) old new) c.abort.ensures (result_makes old new c.abort.result.now c.make_step.result
    (subst IsOfAction (sym c.abort.ensures) tt) c.make_step.ensures.after c.make_step.ensures.err)

pub returns-in_err-make_step-clause-over : goal.returns-in_err-make_step-clause-over
returns-in_err-make_step-clause-over g c =
    let old = g.W.ActivitySteps.run c.args.world.now in
    let new = g.W.ActivitySteps.run c.make_step.new.self in
    let step = c.abort.result.now in
    let of = subst IsOfAction (sym c.abort.ensures) tt in
    abort_over g.W.ActivitySteps.alone g.W.ActivitySteps.fails old new step c.args.action.now c.make_step.result c.abort.ensures c.make_step.ensures.failed
    c.make_step.ensures.after c.make_step.ensures.alone
    (quiet_over g.W.ActivitySteps.alone g.W.ActivitySteps.fails old new step c.make_step.result of c.make_step.ensures.answered
    (result_begins old new step c.make_step.result of c.make_step.ensures.after) c.make_step.ensures.err (ap maker_in c.abort.ensures))

pub returns-clause-makes : goal.returns-clause-makes
returns-clause-makes g c =
    let old = g.W.ActivitySteps.run c.args.world.now in
    let new = g.W.ActivitySteps.run c.make_step.new.self in
    subst (λ s. Makes (about s) (commits_of s) old new) c.abort.ensures (result_makes old new c.abort.result.now c.make_step.result
    (subst IsOfAction (sym c.abort.ensures) tt) c.make_step.ensures.after c.make_step.ensures.err)

pub returns-clause-over : goal.returns-clause-over
returns-clause-over g c =
    let old = g.W.ActivitySteps.run c.args.world.now in
    let new = g.W.ActivitySteps.run c.make_step.new.self in
    let step = c.abort.result.now in
    let of = subst IsOfAction (sym c.abort.ensures) tt in
    abort_over g.W.ActivitySteps.alone g.W.ActivitySteps.fails old new step c.args.action.now c.make_step.result c.abort.ensures c.make_step.ensures.failed
    c.make_step.ensures.after c.make_step.ensures.alone
    (quiet_over g.W.ActivitySteps.alone g.W.ActivitySteps.fails old new step c.make_step.result of c.make_step.ensures.answered
    (result_begins old new step c.make_step.result of c.make_step.ensures.after) c.make_step.ensures.err (ap maker_in c.abort.ensures))

pub returns-clause-after : goal.returns-clause-after
returns-clause-after g c = λ alone.
    let old = g.W.ActivitySteps.run c.args.world.now in
    let new = g.W.ActivitySteps.run c.make_step.new.self in
    subst (λ s. new ≡ after s old) c.abort.ensures
    (alone_after c.abort.result.now c.in_ok-make_step.field-0 old new c.in_ok-make_step.ensures.after (c.in_ok-make_step.ensures.alone alone))
