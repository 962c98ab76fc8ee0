use Rattle.std.proofs.Common.{Option, subst, sym}
use Rattle.service.specs.Transacting.{EndedAndTold, Settles, settles}
use Rattle.service.specs.declared.fault.CallFault.{CallFault}
use Rattle.service.proofs.subactions.abort_sub.Goals as goal

pub returns-clause-ends : goal.returns-clause-ends
returns-clause-ends g c =
    let old = g.W.MakesOwnSteps.run c.args.service.now.world in
    let new = g.W.MakesOwnSteps.run c.abort_and_tell.new.service.world in
    let action = c.args.sub.action in
    subst (λ (is : Option CallFault). Settles g.W.MakesOwnSteps.sees (settles action) old new c.args.sub.left is (EndedAndTold action c.args.guardian new))
    (sym c.keep.ensures.left) c.abort_and_tell.ensures
