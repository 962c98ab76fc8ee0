use Rattle.std.proofs.Common.{subst}
use Rattle.run_laws.specs.Serving.{IsServed}
use Rattle.run_laws.proofs.Serving.{runs_are_served}
use Rattle.run_model.specs.Openings.{opening_in}
use Rattle.guardian.specs.Guardians.{InParts, IsWhole}
use Rattle.stable_store.specs.Calls.{View}
use Rattle.recovery_laws.specs.Runs.{AreOfRun}
use Rattle.world.specs.Stops.{IsKeptBetweenSteps, contents_of}
use Rattle.world.specs.Worlds.{seen_of}
use Rattle.world.proofs.Stops.{kept_between_steps, stores_are_of_run}
use Rattle.world.proofs.world.World.history.Goals as goal

pub returns-clause-served : goal.returns-clause-served
returns-clause-served g c = subst (λ w. IsServed (opening_in w.run.lists) w.run.past) c.self.view_is (runs_are_served _ _ c.self.invariant.is_run)

pub returns-clause-stores : goal.returns-clause-stores
returns-clause-stores g c =
    let stored : InParts _ → View = λ x. seen_of g.S.Stable.seen x in
    subst (λ w. AreOfRun (opening_in w.run.lists) w.run.past (contents_of stored w.guardians)) c.self.view_is
    (stores_are_of_run (λ x s. IsWhole g.S.Stable.seen x s) stored _ _ _ _ c.self.invariant)

pub returns-clause-stop : goal.returns-clause-stop
returns-clause-stop g c =
    let stored : InParts _ → View = λ x. seen_of g.S.Stable.seen x in
    subst (λ w. IsKeptBetweenSteps stored (opening_in w.run.lists) w.run.past w.guardians) c.self.view_is
    (kept_between_steps (λ x s. IsWhole g.S.Stable.seen x s) stored _ _ _ _ c.self.invariant)
