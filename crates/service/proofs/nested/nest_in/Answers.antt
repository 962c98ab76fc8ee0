use Rattle.std.proofs.Common.{Option, inl, inr, refl, subst, sym, true, ◌≡◌}
use Rattle.run_model.specs.declared.step.Step.TheVariants as steps
use Rattle.service.specs.Transacting.{Transacts, Works, began_at}
use Rattle.service.specs.declared.fault.CallFault.{CallFault}
use Rattle.service.proofs.Calls.{began_there, nested_transacted, nested_worked, unbegun, works_start}
use Rattle.service.proofs.Working.{ran_in}
use Rattle.service.proofs.nested.nest_in.Goals as goal

pub run_top-outcome-requires : goal.run_top-outcome-requires
run_top-outcome-requires g c =
    let run = g.W.MakesOwnSteps.run in
    let begun = c.begin_nested.new.service.world in
    record {
      there =
          subst (λ h. began_at h c.in-Ok.top.action (run begun).past ≡ true) (sym c.in-Ok.ensures.there)
          (began_there run g.W.MakesOwnSteps.sees g.W.MakesOwnSteps.leaves (steps.NestedTop c.args.at.now.action) c.args.at.now.home c.args.service.now.world begun c.in-Ok.top
          c.in-Ok.ensures.call c.requires.there);
    }

pub returns-in-Ok-clause-works : goal.returns-in-Ok-clause-works
returns-in-Ok-clause-works g c =
    let run = g.W.MakesOwnSteps.run in
    let a = c.args.at.now.action in
    let old = c.args.service.now.world in
    let new = run c.run_top-outcome.new.service.world in
    subst (λ (is : Option CallFault). ∥ Works g.W.MakesOwnSteps.sees a (run old) new c.args.at.now.left is ∥₁) (sym c.keep.ensures.left)
    (nested_worked run g.W.MakesOwnSteps.sees g.W.MakesOwnSteps.leaves c.args.at.now.home old c.begin_nested.new.service.world new c.in-Ok.top c.run_top-outcome.result
    c.in-Ok.ensures.first c.run_top-outcome.ensures.runs a c.args.at.now.left c.in-Ok.ensures.call c.in-Ok.ensures.left c.requires.there)

pub returns-in-Ok-clause-ended : goal.returns-in-Ok-clause-ended
returns-in-Ok-clause-ended g c =
    let run = g.W.MakesOwnSteps.run in
    let a = c.args.at.now.action in
    let old = c.args.service.now.world in
    let new = run c.run_top-outcome.new.service.world in
    subst (λ (is : Option CallFault). Transacts g.W.MakesOwnSteps.sees (steps.NestedTop a) (run old) new c.run_top-outcome.result.outcome c.args.at.now.left is)
    (sym c.keep.ensures.left)
    (nested_transacted run g.W.MakesOwnSteps.sees g.W.MakesOwnSteps.leaves c.args.at.now.home old c.begin_nested.new.service.world new c.in-Ok.top c.run_top-outcome.result
    c.in-Ok.ensures.first c.run_top-outcome.ensures.runs a c.args.at.now.left c.in-Ok.ensures.call c.in-Ok.ensures.left c.requires.there)

pub returns-in-Err-clause-works : goal.returns-in-Err-clause-works
returns-in-Err-clause-works g c =
    works_start c.args.at.now.action (g.W.MakesOwnSteps.run c.args.service.now.world) (g.W.MakesOwnSteps.run c.begin_nested.new.service.world)
    c.args.at.now.left c.begin_nested.new.at.left (sym c.in-Err.ensures.call.same) (sym c.in-Err.ensures.err)

pub returns-in-Err-clause-ended : goal.returns-in-Err-clause-ended
returns-in-Err-clause-ended g c =
    unbegun g.W.MakesOwnSteps.run g.W.MakesOwnSteps.sees g.W.MakesOwnSteps.leaves (steps.NestedTop c.args.at.now.action) c.args.service.now.world c.begin_nested.new.service.world
    c.in-Err.fault c.args.at.now.left c.begin_nested.new.at.left c.in-Err.ensures.call c.in-Err.ensures.err

pub returns-in-Ok-clause-once : goal.returns-in-Ok-clause-once
returns-in-Ok-clause-once g c =
    let run = g.W.MakesOwnSteps.run in
    inr (ran_in run g.W.MakesOwnSteps.sees g.W.MakesOwnSteps.leaves g.J.Work.does (steps.NestedTop c.args.at.now.action) c.args.service.now.world c.begin_nested.new.service.world
    (run c.run_top-outcome.new.service.world) c.in-Ok.top c.args.work.now c.run_top-outcome.new.work c.run_top-outcome.result.outcome c.in-Ok.ensures.call c.run_top-outcome.ensures.once)

pub returns-in-Err-clause-once : goal.returns-in-Err-clause-once
returns-in-Err-clause-once g c = inl (c.in-Err.fault, refl, c.in-Err.ensures.call.same, refl)
