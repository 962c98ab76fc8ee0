use Rattle.std.proofs.Common.{None, inl, inr, refl, subst, sym, true, ◌≡◌}
use Rattle.run_model.specs.declared.step.Step.TheVariants as steps
use Rattle.run_laws.proofs.Names.{eqb_self}
use Rattle.service.specs.Transacting.{began_at}
use Rattle.service.proofs.Calls.{began_there, begins_by, top_transacted, unbegun}
use Rattle.service.proofs.service.Service.transact_together.Goals as goal

pub run_both-requires-clause-there : goal.run_both-requires-clause-there
run_both-requires-clause-there g c κs within =
    let run = g.W.MakesOwnSteps.run in
    let begun = c.begin_top.new.service.world in
    subst (λ h. began_at h c.in-Ok.at.action (run begun).past ≡ true) (sym c.in-Ok.ensures.home)
    (began_there run g.W.MakesOwnSteps.sees g.W.MakesOwnSteps.leaves (steps.Top c.args.home) c.args.home c.args.self.now.world begun c.in-Ok.at
    c.in-Ok.ensures.call (eqb_self c.args.home))

pub returns-in-Ok-clause-ended : goal.returns-in-Ok-clause-ended
returns-in-Ok-clause-ended g c =
    let run = g.W.MakesOwnSteps.run in
    top_transacted run g.W.MakesOwnSteps.sees g.W.MakesOwnSteps.leaves c.args.home c.args.self.now.world c.begin_top.new.service.world (run c.run_both.new.service.world) c.in-Ok.at
    c.run_both.result c.in-Ok.ensures.reached c.run_both.ensures.runs c.in-Ok.ensures.call c.in-Ok.ensures.left

pub returns-in-Err-clause-ended : goal.returns-in-Err-clause-ended
returns-in-Err-clause-ended g c =
    unbegun g.W.MakesOwnSteps.run g.W.MakesOwnSteps.sees g.W.MakesOwnSteps.leaves (steps.Top c.args.home) c.args.self.now.world c.begin_top.new.service.world c.in-Err.fault None None
    c.in-Err.ensures.call refl

pub returns-in-Ok-clause-once : goal.returns-in-Ok-clause-once
returns-in-Ok-clause-once g c =
    let run = g.W.MakesOwnSteps.run in
    let begun = c.begin_top.new.service.world in
    let (done, of, runs) = c.run_both.ensures.once in
    inr (
      done,
      of,
      record {
        top = c.in-Ok.at.action;
        begun = run begun;
        begins =
            begins_by run g.W.MakesOwnSteps.sees g.W.MakesOwnSteps.leaves (steps.Top c.args.home) c.args.self.now.world begun c.in-Ok.at c.in-Ok.ensures.call;
        runs = runs;
      },
    )

pub returns-in-Err-clause-once : goal.returns-in-Err-clause-once
returns-in-Err-clause-once g c = inl (c.in-Err.fault, refl, c.in-Err.ensures.call.same, refl, refl)
