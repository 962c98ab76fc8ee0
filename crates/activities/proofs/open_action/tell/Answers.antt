use Rattle.std.proofs.Common.{[], ◌∷◌, subst, ap, refl}
use Rattle.std.proofs.lemmas.Map.Iter.{rest_all, rest_more}
use Rattle.std.specs.Map.Iter.{deref}
use Rattle.run_model.specs.declared.step.Step.TheVariants.{Tell}
use Rattle.activities.specs.Continuing.{IsAfter}
use Rattle.activities.specs.Serial.{once_told}
use Rattle.activities.proofs.Committing.{tell_done, tell_goes}
use Rattle.activities.proofs.Failing.{over_nowhere, over_through}
use Rattle.activities.proofs.Making.{makes_nowhere, then_makes}
use Rattle.activities.proofs.open_action.tell.Goals as goal

pub loop-guardian-init : goal.loop-guardian-init
loop-guardian-init g c = record {
  makes = makes_nowhere (c.args.action.now ∷ []) [] (g.W.ActivitySteps.run c.args.world.now);
  means = λ alone. ap (λ gs. once_told c.args.action.now gs (g.W.ActivitySteps.run c.args.world.now)) c.into_iter-guardian-iterator.ensures.into_iter_gives.0;
  over = over_nowhere g.W.ActivitySteps.alone g.W.ActivitySteps.fails (g.W.ActivitySteps.run c.args.world.now);
}

pub loop-guardian-preserved : goal.loop-guardian-preserved
loop-guardian-preserved g c = record {
  makes = then_makes c.args.action.now c.in_ok-copy.field-0 (g.W.ActivitySteps.run c.args.world.now) (g.W.ActivitySteps.run c.loop-guardian.world) (g.W.ActivitySteps.run c.try_step.new.world) c.in_ok-copy.ensures.ok.1 c.loop-guardian.invariant.makes
      c.try_step.ensures.makes;
  means = λ alone.
      tell_goes c.args.action.now c.in-Some.guardian.now _ _ c.args.guardians.now.keys (g.W.ActivitySteps.run c.args.world.now) (g.W.ActivitySteps.run c.loop-guardian.world) (g.W.ActivitySteps.run c.try_step.new.world)
      (rest_more deref _ _ _ c.in-Some.guardian c.in-Some.is c.next.ensures.steps)
      (subst (λ a. IsAfter (Tell c.in-Some.guardian.now a) (g.W.ActivitySteps.run c.loop-guardian.world) (g.W.ActivitySteps.run c.try_step.new.world)) c.in_ok-copy.ensures.ok.1 (c.in_ok-try_step.ensures.after alone))
      (c.loop-guardian.invariant.means alone);
  over = over_through g.W.ActivitySteps.alone g.W.ActivitySteps.fails (g.W.ActivitySteps.run c.args.world.now) (g.W.ActivitySteps.run c.loop-guardian.world)
      (g.W.ActivitySteps.run c.try_step.new.world) c.loop-guardian.invariant.over (c.try_step.ensures.over refl);
}

pub returns-in_err-try_step-clause-makes : goal.returns-in_err-try_step-clause-makes
returns-in_err-try_step-clause-makes g c =
    then_makes c.args.action.now c.in_ok-copy.field-0 (g.W.ActivitySteps.run c.args.world.now) (g.W.ActivitySteps.run c.loop-guardian.world) (g.W.ActivitySteps.run c.try_step.new.world) c.in_ok-copy.ensures.ok.1 c.loop-guardian.invariant.makes
    c.try_step.ensures.makes

pub returns-clause-means : goal.returns-clause-means
returns-clause-means g c =
    λ alone.
    tell_done c.args.action.now _ c.args.guardians.now.keys (g.W.ActivitySteps.run c.args.world.now) (g.W.ActivitySteps.run c.loop-guardian.world)
    (rest_all deref _ _ _ c.in-None.is c.next.ensures.steps) (c.loop-guardian.invariant.means alone)

pub returns-in_err-try_step-clause-over : goal.returns-in_err-try_step-clause-over
returns-in_err-try_step-clause-over g c =
    over_through g.W.ActivitySteps.alone g.W.ActivitySteps.fails (g.W.ActivitySteps.run c.args.world.now) (g.W.ActivitySteps.run c.loop-guardian.world)
    (g.W.ActivitySteps.run c.try_step.new.world) c.loop-guardian.invariant.over (c.try_step.ensures.over refl)
