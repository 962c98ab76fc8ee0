use Rattle.std.proofs.Common.{Option, subst, sym, ◌∙◌}
use Rattle.std.proofs.lemmas.Result.{on_ok_weaker}
use Rattle.service.specs.Together.{HasRoomAgain}
use Rattle.service.specs.Transacting.{EndedAndTold, Settles, finishes}
use Rattle.service.specs.declared.fault.CallFault.{CallFault}
use Rattle.service.proofs.ArmEnds.{again_at, if_room, part_same}
use Rattle.service.proofs.together.commit_arm.Goals as goal

pub returns-clause-ends : goal.returns-clause-ends
returns-clause-ends g c =
    let run = g.W.MakesOwnSteps.run in
    let sees = g.W.MakesOwnSteps.sees in
    let old = run c.args.service.now.world in
    let new = run c.commit_if-committed.new.service.world in
    let at = c.args.at.now in
    let told = EndedAndTold at.action at.home new in
    subst (λ (is : Option CallFault). Settles sees (finishes at.action) old new at.left is told) (sym c.keep.ensures.left)
    (subst (λ (was : Option CallFault). Settles sees (finishes at.action) old new was c.commit_if-committed.result.1 told) c.take-left.ensures.value
    c.commit_if-committed.ensures.ends)

pub returns-clause-reached : goal.returns-clause-reached
returns-clause-reached g c =
    part_same c.keep.new.self.reached c.reserve-room.new.self (λ numbers. numbers.items) c.keep.ensures.reached ∙ c.reserve-room.ensures.items

pub returns-clause-room : goal.returns-clause-room
returns-clause-room g c =
    let room = c.reserve-room.new.self in
    if_room c.commit_if-committed.result.0 c.reserve-room.result (HasRoomAgain c.keep.new.self.reached) c.commit_if-committed.ensures.room
    (on_ok_weaker c.reserve-room.result
    (λ h.
    subst (λ numbers. HasRoomAgain numbers) (sym c.keep.ensures.reached)
    (again_at room c.len.result (c.len.ensures ∙ sym c.reserve-room.ensures.len) h))
    c.reserve-room.ensures.ok)
