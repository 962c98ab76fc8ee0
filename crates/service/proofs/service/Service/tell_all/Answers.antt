use Rattle.std.proofs.Common.{refl, subst}
use Rattle.std.proofs.lemmas.List.{take_all}
use Rattle.run_model.specs.declared.step.Step.TheVariants as steps
use Rattle.service.specs.Calling.{Told}
use Rattle.service.specs.Ending.{AreCutShort, HaveHappened, tells}
use Rattle.service.proofs.Ended.{call_cut, call_happened, cut_here, error_with, one_more, told_happens}
use Rattle.service.proofs.service.Service.tell_all.Goals as goal

pub loop-guardian-init : goal.loop-guardian-init
loop-guardian-init g c = refl

pub returns-in_err-tell-clause-cut : goal.returns-in_err-tell-clause-cut
returns-in_err-tell-clause-cut g c =
    let run = g.W.MakesOwnSteps.run in
    let leaves = g.W.MakesOwnSteps.leaves in
    let fault = c.in_err-tell.field-0.0 in
    let first = c.args.self.now.world in
    let mid = c.loop-guardian.self.world in
    let last = c.tell.new.self.world in
    error_with c.from_residual.result fault (λ e. AreCutShort run g.W.MakesOwnSteps.sees leaves (tells c.args.action.now c.args.guardians.now) first last e)
    c.from_residual.ensures.1
    (cut_here run g.W.MakesOwnSteps.sees leaves (λ g. steps.Tell g c.args.action.now) c.args.guardians.now c.loop-guardian.guardian-index c.loop-guardian-test.true _ refl
    first mid last fault c.loop-guardian.invariant (call_cut run g.W.MakesOwnSteps.sees leaves _ Told mid last fault c.in_err-tell.ensures))

pub loop-guardian-preserved : goal.loop-guardian-preserved
loop-guardian-preserved g c =
    let run = g.W.MakesOwnSteps.run in
    let leaves = g.W.MakesOwnSteps.leaves in
    let mid = c.loop-guardian.self.world in
    let last = c.tell.new.self.world in
    one_more run g.W.MakesOwnSteps.sees leaves (λ g. steps.Tell g c.args.action.now) c.args.guardians.now c.loop-guardian.guardian-index c.loop-guardian-test.true _ refl
    c.args.self.now.world mid last c.loop-guardian.invariant
    (call_happened run g.W.MakesOwnSteps.sees leaves _ Told mid last c.in_ok-tell.field-0 c.in_ok-tell.ensures (told_happens c.in_ok-tell.field-0))

pub returns-clause-told : goal.returns-clause-told
returns-clause-told g c =
    let run = g.W.MakesOwnSteps.run in
    let leaves = g.W.MakesOwnSteps.leaves in
    subst (λ xs. HaveHappened run g.W.MakesOwnSteps.sees leaves (tells c.args.action.now xs) c.args.self.now.world c.loop-guardian.self.world)
    (take_all _ _ c.loop-guardian-test.false) c.loop-guardian.invariant
