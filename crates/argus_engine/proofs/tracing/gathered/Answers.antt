use Rattle.std.proofs.Common.{Ok, ap₂, subst}
use Rattle.run_model.specs.Openings.{opening_in}
use Rattle.traces.specs.Traces.{histories_in}
use Rattle.tracer.specs.declared.gathering.Gathered.{Gathered}
use Rattle.tracer.specs.Gathered.{Says}
use Rattle.argus_engine.proofs.Verdicts.{fails, gathers}
use Rattle.argus_engine.proofs.tracing.gathered.Goals as goal

pub returns-in-Yes-clause-said : goal.returns-in-Yes-clause-said
returns-in-Yes-clause-said g c = λ bytes trace.
    let run = g.M.MakesSteps.run in
    let hs = histories_in c.args.trace.registry.items c.args.trace.guardians.items in
    let said : Says c.in_ok-count.field-0 (opening_in (run c.in_ok-world.world).lists) hs (run c.gather.new.maker).past =
    subst (λ h. Says c.in_ok-count.field-0 (opening_in (run c.in_ok-world.world).lists) h (run c.gather.new.maker).past)
    (ap₂ histories_in c.deref.ensures.value c.deref-2.ensures.value) c.in_ok-count.ensures.gathered in
    let good = subst (λ (x : Gathered). Says x (opening_in (run c.in_ok-world.world).lists) hs (run c.gather.new.maker).past) c.in-Yes.is said in
    gathers bytes _ c.args.trace.setup hs (run c.in_ok-world.world) (run c.gather.new.maker) trace (c.requires.begins _ (Ok c.in_ok-world.world) c.in_ok-world.ensures)
    c.in-Yes.count good.0 good.2 c.in_ok-count.ensures.served c.in_ok-count.ensures.opening c.in_ok-format-in-Yes.ensures.ok

pub returns-clause-said : goal.returns-clause-said
returns-clause-said g c = λ bytes trace.
    let run = g.M.MakesSteps.run in
    let hs = histories_in c.args.trace.registry.items c.args.trace.guardians.items in
    let said : Says c.in_ok-count.field-0 (opening_in (run c.in_ok-world.world).lists) hs (run c.gather.new.maker).past =
    subst (λ h. Says c.in_ok-count.field-0 (opening_in (run c.in_ok-world.world).lists) h (run c.gather.new.maker).past)
    (ap₂ histories_in c.deref.ensures.value c.deref-2.ensures.value) c.in_ok-count.ensures.gathered in
    fails bytes _ c.args.trace.setup hs (run c.in_ok-world.world) (run c.gather.new.maker) trace (c.requires.begins _ (Ok c.in_ok-world.world) c.in_ok-world.ensures)
    c.in-No.stamp (subst (λ (x : Gathered). Says x (opening_in (run c.in_ok-world.world).lists) hs (run c.gather.new.maker).past) c.in-No.is said) c.in_ok-format-in-No.ensures.ok
