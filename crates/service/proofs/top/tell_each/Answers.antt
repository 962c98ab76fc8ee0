use Rattle.std.proofs.Common.{List, Option, [], ap, refl, subst, sym, take, ℕ, ◌+◌, ◌∙◌}
use Rattle.std.proofs.lemmas.List.{take_all, take_more}
use Rattle.std.specs.Option.{option_or}
use Rattle.std.specs.Result.{result_err}
use Rattle.service.specs.Transacting.{AllTold, Settles, settles}
use Rattle.service.specs.declared.fault.CallFault.{CallFault}
use Rattle.service.proofs.Concluded.{one_more_told}
use Rattle.service.proofs.Going.{settles_same}
use Rattle.service.proofs.top.tell_each.Goals as goal

pub loop-guardian-init : goal.loop-guardian-init
loop-guardian-init g c =
    let now = g.W.MakesOwnSteps.run c.args.service.now.world in
    settles_same (settles c.args.top.now) now now c.args.left (AllTold c.args.top.now [] now) refl refl

pub loop-guardian-preserved : goal.loop-guardian-preserved
loop-guardian-preserved g c =
    let run = g.W.MakesOwnSteps.run in
    let top = c.args.top.now in
    let gs = c.args.guardians.now in
    let old = c.args.service.now.world in
    let mid = c.loop-guardian.service.world in
    let new = c.tell.new.self.world in
    let i = c.loop-guardian.guardian-index in
    subst (λ (is : Option CallFault). Settles g.W.MakesOwnSteps.sees (settles top) (run old) (run new) c.args.left is (AllTold top (take (i + 1) gs) (run new)))
    (sym (c.or-left.ensures ∙ ap (λ (o : Option CallFault). option_or c.loop-guardian.left o) c.err.ensures.value))
    (subst (λ (told : List ℕ). Settles g.W.MakesOwnSteps.sees (settles top) (run old) (run new) c.args.left (option_or c.loop-guardian.left (result_err c.tell.result)) (AllTold top told (run new)))
    (sym (take_more gs i 0 c.loop-guardian-test.true))
    (one_more_told run g.W.MakesOwnSteps.sees g.W.MakesOwnSteps.leaves top (take i gs) _ old mid new c.tell.result c.args.left c.loop-guardian.left c.loop-guardian.invariant
    c.tell.ensures))

pub returns : goal.returns
returns g c =
    let run = g.W.MakesOwnSteps.run in
    let top = c.args.top.now in
    let old = c.args.service.now.world in
    let new = c.loop-guardian.service.world in
    subst (λ (told : List ℕ). Settles g.W.MakesOwnSteps.sees (settles top) (run old) (run new) c.args.left c.loop-guardian.left (AllTold top told (run new)))
    (take_all _ _ c.loop-guardian-test.false) c.loop-guardian.invariant
