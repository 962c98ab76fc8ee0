use Rattle.std.proofs.Common.{Err, IfErr, IfOk, Ok, Result, ap, le_refl, refl, subst, ◌≡◌}
use Rattle.activities.specs.declared.flow.Flow.{Flow}
use Rattle.activities.specs.Acting.{ComesSo, acting, doing, done}
use Rattle.activities.specs.Ends.{commits}
use Rattle.activities.specs.Serial.{Done, budget}
use Rattle.activities.proofs.ArmsGone.{ok_no_err}
use Rattle.activities.proofs.Failing.{cause_at_end, over_ends_named}
use Rattle.activities.proofs.Making.{if_ok_each, then_tells}
use Rattle.activities.proofs.Meaning.{of_script, run_ends}
use Rattle.activities.proofs.apart.run_arm.Goals as goal

-- what an arm came to, by what its body came to
by_body : {E : Type 0} {P R : Flow → Type 0} {Q : Flow → Flow → Type 0} (A : Type 0) (ran ended : Result Flow E) → IfOk ran (λ flow. A → P flow)
    → IfOk ran (λ flow. IfOk ended (λ end. A → Q flow end)) → IfErr ran (λ fault. ended ≡ Err fault)
    → ((flow end : Flow) → P flow → Q flow end → R end) → IfOk ended (λ end. A → R end)
by_body A (Ok flow) (Ok end) p q e k = λ a. k flow end (p a) (q a)
by_body A ran (Err fault) p q e k = tt
by_body A (Err fault) (Ok end) p q e k = absurd (ok_no_err (Ok end) end fault refl e)

pub returns-clause-told : goal.returns-clause-told
returns-clause-told g c =
    if_ok_each c.end_arm-ended.result c.end_arm-ended.ensures.told
    (λ flow told. then_tells (commits flow) c.args.arm.action.name c.body-ran.new.action.name (g.W.ActivitySteps.run c.args.world.now)
    (g.W.ActivitySteps.run c.body-ran.new.world) (g.W.ActivitySteps.run c.end_arm-ended.new.world) c.body-ran.ensures.name c.body-ran.ensures.makes told)

pub returns-clause-means : goal.returns-clause-means
returns-clause-means g c =
    let script = c.args.script.now in
    let arm = c.args.arm in
    let old = g.W.ActivitySteps.run c.args.world.now in
    let mid = g.W.ActivitySteps.run c.body-ran.new.world in
    let new = g.W.ActivitySteps.run c.end_arm-ended.new.world in
    let activity = c.new-activity.result in
    let body = c.as_slice.result.now in
    by_body g.W.ActivitySteps.alone c.body-ran.result c.end_arm-ended.result c.body-ran.ensures.means c.end_arm-ended.ensures.means c.end_arm-ended.ensures.fault
    (λ flow end came ended.
    let r : Done = done mid c.body-ran.new.self.left c.body-ran.new.action c.body-ran.new.frames flow in
    let own : ComesSo script activity.left r (λ go. go body (doing old activity.left arm.action arm.frames)) =
    of_script activity.script.now script activity.left r (λ x go. go body (doing old activity.left arm.action arm.frames)) c.new-activity.ensures.script came in
    let from : ComesSo script budget r (λ go. go body (doing old budget arm.action arm.frames)) =
    subst (λ n. ComesSo script n r (λ go. go body (doing old n arm.action arm.frames))) c.new-activity.ensures.left own in
    let whole : ComesSo script budget r (λ go. go arm.body (doing old budget arm.action arm.frames)) =
    subst (λ b. ComesSo script budget r (λ go. go b (doing old budget arm.action arm.frames))) c.as_slice.ensures from in
    record {
      comes = ap (λ (x : Done). (x.doing.world, x.doing.acting, x.flow))
          (run_ends script budget (acting arm.action) arm.frames arm.body (doing old budget arm.action arm.frames) r (record { world = new; flow = end }) whole ended
          budget (le_refl budget));
    })

pub returns-clause-failed : goal.returns-clause-failed
returns-clause-failed g c =
    cause_at_end g.W.ActivitySteps.fails c.body-ran.result c.end_arm-ended.result c.body-ran.ensures.failed c.end_arm-ended.ensures.fault
    c.end_arm-ended.ensures.failed

pub returns-clause-over : goal.returns-clause-over
returns-clause-over g c =
    over_ends_named g.W.ActivitySteps.alone g.W.ActivitySteps.fails c.args.arm.action.name c.body-ran.new.action.name (g.W.ActivitySteps.run c.args.world.now)
    (g.W.ActivitySteps.run c.body-ran.new.world) (g.W.ActivitySteps.run c.end_arm-ended.new.world) c.body-ran.ensures.name c.body-ran.ensures.over c.end_arm-ended.ensures.over
