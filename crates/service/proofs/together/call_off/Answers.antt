use Rattle.std.proofs.Common.{Option, subst, sym}
use Rattle.service.specs.Together.{settles_both}
use Rattle.service.specs.Transacting.{EndedAndTold, Settles, settles}
use Rattle.service.specs.declared.fault.CallFault.{CallFault}
use Rattle.service.proofs.CalledOff.{both_settle}
use Rattle.service.proofs.together.call_off.Goals as goal

pub returns-clause-ends : goal.returns-clause-ends
returns-clause-ends g c =
    let run = g.W.MakesOwnSteps.run in
    let sees = g.W.MakesOwnSteps.sees in
    let old = run c.args.service.now.world in
    let mid = run c.abort_and_tell-left.new.service.world in
    let new = run c.abort_and_tell-left-2.new.service.world in
    let one = c.args.one.now in
    let other = c.args.other.now in
    let home = c.args.at.now.home in
    let left = c.args.at.now.left in
    subst (λ (is : Option CallFault). Settles sees (settles_both one other) old new left is (EndedAndTold one home new × EndedAndTold other home new))
    (sym c.keep.ensures.left)
    (both_settle one other home old mid new left c.abort_and_tell-left.result c.abort_and_tell-left-2.result
    (subst (λ (was : Option CallFault). Settles sees (settles one) old mid was c.abort_and_tell-left.result (EndedAndTold one home mid))
    c.take-left.ensures.value c.abort_and_tell-left.ensures) c.abort_and_tell-left-2.ensures)
