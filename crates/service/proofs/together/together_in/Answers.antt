use Rattle.std.proofs.Common.{Option, inl, inr, refl, subst, sym, ◌∙◌}
use Rattle.service.specs.Together.{RanNot}
use Rattle.service.specs.Transacting.{Works}
use Rattle.service.specs.declared.fault.CallFault.{CallFault}
use Rattle.service.proofs.ArmEnds.{includes_same, part_same}
use Rattle.service.proofs.ArmsBegin.{begins_by_both, one_there, other_there}
use Rattle.service.proofs.BothRan.{both_gave, both_worked}
use Rattle.service.proofs.CalledOff.{none_committed_off, settled_as, works_called_off}
use Rattle.service.proofs.Calls.{works_start}
use Rattle.service.proofs.Ended.{error_with}
use Rattle.service.proofs.EndedArms.{arm_reached, arm_room}
use Rattle.service.proofs.Undone.{if_error, none_committed_same}
use Rattle.service.proofs.together.together_in.Goals as goal

-- ---- no arms began

pub returns-in_err-first-clause-works : goal.returns-in_err-first-clause-works
returns-in_err-first-clause-works g c =
    let run = g.W.MakesOwnSteps.run in
    works_start c.args.at.now.action (run c.args.service.now.world) (run c.begin_arms.new.service.world) c.args.at.now.left c.args.at.now.left
    (sym c.in_err-first.ensures.call.same) refl

pub returns-in_err-first-clause-not : goal.returns-in_err-first-clause-not
returns-in_err-first-clause-not g c =
    let run = g.W.MakesOwnSteps.run in
    let old = run c.args.service.now.world in
    let new = run c.begin_arms.new.service.world in
    error_with c.from_residual.result c.in_err-first.field-0.0 (λ fault. RanNot g.W.MakesOwnSteps.sees c.args.at.now.action old new fault)
    c.from_residual.ensures.1 (inl (c.in_err-first.ensures.call.why, c.in_err-first.ensures.call.same))

pub returns-in_err-first-clause-undone : goal.returns-in_err-first-clause-undone
returns-in_err-first-clause-undone g c =
    let run = g.W.MakesOwnSteps.run in
    if_error c.from_residual.result _
    (none_committed_same c.args.at.now.action (run c.args.service.now.world) (run c.begin_arms.new.service.world) c.in_err-first.ensures.call.same)

pub returns-in_err-first-clause-same : goal.returns-in_err-first-clause-same
returns-in_err-first-clause-same g c = if_error c.from_residual.result _ (refl, refl)

-- ---- the arms may run

pub run_in_arms-requires-clause-first : goal.run_in_arms-requires-clause-first
run_in_arms-requires-clause-first g c κs within =
    one_there g.W.MakesOwnSteps.run g.W.MakesOwnSteps.sees g.W.MakesOwnSteps.leaves c.args.at.now.action c.args.service.now.world
    c.begin_arms.new.service.world (c.in_ok-first.first, c.in_ok-first.second) c.in_ok-first.ensures.call c.args.at.now.home c.requires.there
    c.in_ok-first.ensures.homes.0

pub run_in_arms-requires-clause-second : goal.run_in_arms-requires-clause-second
run_in_arms-requires-clause-second g c κs within =
    other_there g.W.MakesOwnSteps.run g.W.MakesOwnSteps.sees g.W.MakesOwnSteps.leaves c.args.at.now.action c.args.service.now.world
    c.begin_arms.new.service.world (c.in_ok-first.first, c.in_ok-first.second) c.in_ok-first.ensures.call c.args.at.now.home c.requires.there
    c.in_ok-first.ensures.homes.1

-- ---- both ran

pub join-requires-clause-one : goal.join-requires-clause-one
join-requires-clause-one g c =
    let given = c.args.at.now.reached.items in
    let at = c.in_ok-first.first in
    arm_reached at c.run_in_arms.new.first _ _ _ _ _ c.in-Ok.ensures.run.one_ran given
    (includes_same given at.reached.items c.in_ok-first.ensures.reached.0)

pub join-requires-clause-other : goal.join-requires-clause-other
join-requires-clause-other g c =
    let given = c.args.at.now.reached.items in
    let at = c.in_ok-first.second in
    arm_reached at c.run_in_arms.new.second _ _ _ _ _ c.in-Ok.ensures.run.other_ran given
    (includes_same given at.reached.items c.in_ok-first.ensures.reached.1)

pub join-requires-clause-one_room : goal.join-requires-clause-one_room
join-requires-clause-one_room g c h =
    arm_room c.in_ok-first.first c.run_in_arms.new.first _ _ _ _ _ c.in-Ok.ensures.run.one_ran c.in-Ok.gave refl (sym c.is_ok.ensures.value ∙ h)

pub join-requires-clause-other_room : goal.join-requires-clause-other_room
join-requires-clause-other_room g c h =
    arm_room c.in_ok-first.second c.run_in_arms.new.second _ _ _ _ _ c.in-Ok.ensures.run.other_ran c.in-Ok.also_gave refl
    (sym c.is_ok-in-Ok.ensures.value ∙ h)

pub returns-in-Ok-clause-works : goal.returns-in-Ok-clause-works
returns-in-Ok-clause-works g c =
    let run = g.W.MakesOwnSteps.run in
    let sees = g.W.MakesOwnSteps.sees in
    let a = c.args.at.now.action in
    let home = c.args.at.now.home in
    let left = c.args.at.now.left in
    let old = c.args.service.now.world in
    let begun = c.begin_arms.new.service.world in
    let new = run c.run_in_arms.new.service.world in
    let first = c.in_ok-first.first in
    let second = c.in_ok-first.second in
    let arms = c.in_ok-first.ensures in
    let ran = c.in-Ok.ensures.run in
    subst (λ (is : Option CallFault). ∥ Works sees a (run old) new left is ∥₁) (sym c.join.ensures.left)
    (both_worked a (run old) (run begun) ran.since ran.one_run ran.other_run new first c.run_in_arms.new.first second c.run_in_arms.new.second _ _ _ _ _ _
    ran.one_ran ran.other_ran ran.joined (begins_by_both run sees g.W.MakesOwnSteps.leaves a old begun (first, second) arms.call) home left
    c.requires.there arms.homes.0 arms.homes.1 arms.left.0 arms.left.1)

pub returns-in-Ok-clause-ran : goal.returns-in-Ok-clause-ran
returns-in-Ok-clause-ran g c =
    let run = g.W.MakesOwnSteps.run in
    let sees = g.W.MakesOwnSteps.sees in
    let a = c.args.at.now.action in
    let old = c.args.service.now.world in
    let begun = c.begin_arms.new.service.world in
    let new = run c.run_in_arms.new.service.world in
    let first = c.in_ok-first.first in
    let second = c.in_ok-first.second in
    let ran = c.in-Ok.ensures.run in
    both_gave a (run old) (run begun) ran.since ran.one_run ran.other_run new first c.run_in_arms.new.first second c.run_in_arms.new.second _ _ _ _ _ _
    ran.one_ran ran.other_ran ran.joined
    (begins_by_both run sees g.W.MakesOwnSteps.leaves a old begun (first, second) c.in_ok-first.ensures.call) c.in-Ok.gave c.in-Ok.also_gave refl refl

-- ---- both were called off

pub returns-in-Err-clause-works : goal.returns-in-Err-clause-works
returns-in-Err-clause-works g c =
    let run = g.W.MakesOwnSteps.run in
    let sees = g.W.MakesOwnSteps.sees in
    let a = c.args.at.now.action in
    let home = c.args.at.now.home in
    let left = c.args.at.now.left in
    let old = c.args.service.now.world in
    let begun = c.begin_arms.new.service.world in
    let new = run c.call_off.new.service.world in
    let first = c.in_ok-first.first in
    let second = c.in_ok-first.second in
    let as_begun = c.run_in_arms.new in
    ∣ works_called_off a first.action second.action home (run old) (run begun) new left c.call_off.new.at.left
    (begins_by_both run sees g.W.MakesOwnSteps.leaves a old begun (first, second) c.in_ok-first.ensures.call)
    (settled_as as_begun.first.action as_begun.second.action first.action second.action home (run as_begun.service.world) (run begun) new left
    c.call_off.new.at.left (part_same as_begun.first first (λ place. place.action) c.in-Err.ensures.first)
    (part_same as_begun.second second (λ place. place.action) c.in-Err.ensures.second) c.in-Err.ensures.err c.call_off.ensures.ends)
    c.requires.there ∣₁

pub returns-in-Err-clause-not : goal.returns-in-Err-clause-not
returns-in-Err-clause-not g c =
    let run = g.W.MakesOwnSteps.run in
    let sees = g.W.MakesOwnSteps.sees in
    let a = c.args.at.now.action in
    let home = c.args.at.now.home in
    let left = c.args.at.now.left in
    let old = c.args.service.now.world in
    let begun = c.begin_arms.new.service.world in
    let new = run c.call_off.new.service.world in
    let first = c.in_ok-first.first in
    let second = c.in_ok-first.second in
    let as_begun = c.run_in_arms.new in
    let ends =
    settled_as as_begun.first.action as_begun.second.action first.action second.action home (run as_begun.service.world) (run begun) new left
    c.call_off.new.at.left (part_same as_begun.first first (λ place. place.action) c.in-Err.ensures.first)
    (part_same as_begun.second second (λ place. place.action) c.in-Err.ensures.second) c.in-Err.ensures.err c.call_off.ensures.ends in
    inr (record {
      first = first.action;
      second = second.action;
      begun = run begun;
      begins = begins_by_both run sees g.W.MakesOwnSteps.leaves a old begun (first, second) c.in_ok-first.ensures.call;
      aborted = ends.goes;
      failed = (c.in-Err.fault, refl);
    })

pub returns-in-Err-clause-undone : goal.returns-in-Err-clause-undone
returns-in-Err-clause-undone g c =
    let run = g.W.MakesOwnSteps.run in
    let sees = g.W.MakesOwnSteps.sees in
    let a = c.args.at.now.action in
    let home = c.args.at.now.home in
    let left = c.args.at.now.left in
    let old = c.args.service.now.world in
    let begun = c.begin_arms.new.service.world in
    let new = run c.call_off.new.service.world in
    let first = c.in_ok-first.first in
    let second = c.in_ok-first.second in
    let as_begun = c.run_in_arms.new in
    none_committed_off a first.action second.action home (run old) (run begun) new left c.call_off.new.at.left
    (begins_by_both run sees g.W.MakesOwnSteps.leaves a old begun (first, second) c.in_ok-first.ensures.call)
    (settled_as as_begun.first.action as_begun.second.action first.action second.action home (run as_begun.service.world) (run begun) new left
    c.call_off.new.at.left (part_same as_begun.first first (λ place. place.action) c.in-Err.ensures.first)
    (part_same as_begun.second second (λ place. place.action) c.in-Err.ensures.second) c.in-Err.ensures.err c.call_off.ensures.ends)

pub returns-in-Err-clause-same : goal.returns-in-Err-clause-same
returns-in-Err-clause-same g c = (c.in-Err.ensures.one, c.in-Err.ensures.other)
