use Rattle.std.proofs.Common.{Option, subst, sym, ◌∙◌}
use Rattle.service.specs.Transacting.{EndedAndTold, Settles, finishes}
use Rattle.service.specs.declared.fault.CallFault.{CallFault}
use Rattle.service.proofs.subactions.commit_sub.Goals as goal

pub returns-in_err-committed-clause-ends : goal.returns-in_err-committed-clause-ends
returns-in_err-committed-clause-ends g c =
    let old = g.W.MakesOwnSteps.run c.args.service.now.world in
    let new = g.W.MakesOwnSteps.run c.commit_and_tell-committed.new.service.world in
    let action = c.args.sub.action in
    subst (λ (is : Option CallFault). Settles g.W.MakesOwnSteps.sees (finishes action) old new c.args.sub.left is (EndedAndTold action c.args.guardian new))
    (sym c.keep.ensures.left) c.commit_and_tell-committed.ensures.ends

pub returns-clause-ends : goal.returns-clause-ends
returns-clause-ends g c =
    let old = g.W.MakesOwnSteps.run c.args.service.now.world in
    let new = g.W.MakesOwnSteps.run c.commit_and_tell-committed.new.service.world in
    let action = c.args.sub.action in
    subst (λ (is : Option CallFault). Settles g.W.MakesOwnSteps.sees (finishes action) old new c.args.sub.left is (EndedAndTold action c.args.guardian new))
    (sym (c.reach.ensures.left ∙ c.keep.ensures.left)) c.commit_and_tell-committed.ensures.ends
