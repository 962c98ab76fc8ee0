use Rattle.std.proofs.Common.{Err, Ok, Option, subst, sym}
use Rattle.service.specs.Together.{IsEndOf}
use Rattle.service.specs.Transacting.{EndedAndTold, Settles, settles}
use Rattle.service.specs.declared.fault.CallFault.{CallFault}
use Rattle.service.proofs.ArmEnds.{ended_err, ended_failed, ended_ok, part_same}
use Rattle.service.proofs.together.end_arm.Goals as goal

pub returns-in_ok-commit_arm-in-Ok : goal.returns-in_ok-commit_arm-in-Ok
returns-in_ok-commit_arm-in-Ok g c =
    let run = g.W.MakesOwnSteps.run in
    let old = run c.args.service.now.world in
    let new = run c.commit_arm.new.service.world in
    let at = c.args.at.now in
    let now = c.commit_arm.new.at in
    subst (λ done. IsEndOf g.W.MakesOwnSteps.sees g.E.From.from_gives at now old new done (Ok c.in-Ok.value)) (sym c.in-Ok.is)
    (ended_ok at now old new c.commit_arm.ensures.action c.commit_arm.ensures.reached c.in-Ok.value c.commit_arm.ensures.ends
    c.in_ok-commit_arm-in-Ok.ensures.committed c.in_ok-commit_arm-in-Ok.ensures.room)

pub returns-in_err-commit_arm-in-Ok : goal.returns-in_err-commit_arm-in-Ok
returns-in_err-commit_arm-in-Ok g c =
    let run = g.W.MakesOwnSteps.run in
    let old = run c.args.service.now.world in
    let new = run c.commit_arm.new.service.world in
    let at = c.args.at.now in
    let now = c.commit_arm.new.at in
    let result = c.from_residual.result in
    subst (λ done. IsEndOf g.W.MakesOwnSteps.sees g.E.From.from_gives at now old new done result) (sym c.in-Ok.is)
    (ended_failed at now old new c.commit_arm.ensures.action c.commit_arm.ensures.reached c.in-Ok.value result c.in_err-commit_arm-in-Ok.field-0.0
    c.commit_arm.ensures.ends c.from_residual.ensures.1 c.in_err-commit_arm-in-Ok.ensures.stopped c.in_err-commit_arm-in-Ok.ensures.undone)

pub returns-in-Err : goal.returns-in-Err
returns-in-Err g c =
    let run = g.W.MakesOwnSteps.run in
    let sees = g.W.MakesOwnSteps.sees in
    let old = run c.args.service.now.world in
    let new = run c.abort_and_tell-left.new.service.world in
    let at = c.args.at.now in
    let now = c.keep.new.self in
    let told = EndedAndTold at.action at.home new in
    subst (λ done. IsEndOf sees g.E.From.from_gives at now old new done (Err c.in-Err.error)) (sym c.in-Err.is)
    (ended_err at now old new c.keep.ensures.action (part_same now.reached at.reached (λ numbers. numbers.items) c.keep.ensures.reached) c.in-Err.error
    (subst (λ (is : Option CallFault). Settles sees (settles at.action) old new at.left is told) (sym c.keep.ensures.left)
    (subst (λ (was : Option CallFault). Settles sees (settles at.action) old new was c.abort_and_tell-left.result told) c.take-left.ensures.value
    c.abort_and_tell-left.ensures)))
