use contract.BorrowLft.{⊑_meet, ⊑_static}
use Rattle.std.proofs.Common.{IfOk, OnOk, ap, arith, drop, length, subst, sym, take, ◌++◌, ◌≡◌, ◌∙◌}
use Rattle.std.specs.Arc.{arc_value}
use Rattle.run_laws.specs.Laws.{OrphanWhereRefused}
use Rattle.run_laws.proofs.Serving.{runs_are_served}
use Rattle.run_model.specs.Answers.{answer_of}
use Rattle.run_model.specs.Openings.{opening_in}
use Rattle.run_model.specs.Runs.{IsRun}
use Rattle.guardian.specs.Guardians.{InParts, IsWhole}
use Rattle.registry.specs.Registries.{StandsIn}
use Rattle.stable_store.specs.Calls.{View}
use Rattle.layer_contracts.specs.Stores.{fault_in}
use Rattle.world_steps.specs.Standings.{HasFailed, IsWorld, StoresLeft}
use Rattle.world.specs.Stops.{IsKeptThroughStops, StayUp}
use Rattle.world.specs.Worlds.{seen_of}
use Rattle.world.proofs.Reading.{back_is}
use Rattle.world.proofs.Running.{step_orphans}
use Rattle.world.proofs.Stops.{kept_through_stops, stay_up}
use Rattle.world.proofs.world.World.step.Goals as goal

pub step-requires : goal.step-requires
step-requires g c = λ κs within.
    let stored : InParts _ → View = λ x. seen_of g.S.Stable.seen x in
    let registry = c.self.inside.registry in
    let past = c.self.inside.history in
    let world : IsWorld (λ x s. IsWhole g.S.Stable.seen x s) stored (λ f. StandsIn registry f) (opening_in registry.opening) past c.self.inside.guardians.items =
    subst (λ o. IsWorld (λ x s. IsWhole g.S.Stable.seen x s) stored (λ f. StandsIn registry f) o past c.self.inside.guardians.items) c.self.invariant.forest.opening c.self.invariant in
    let lent = subst (λ gs. IsWorld (λ x s. IsWhole g.S.Stable.seen x s) stored (λ f. StandsIn registry f) (opening_in registry.opening) past gs) (sym c.deref_mut.ensures.value) world in
    let store = ⊑_meet _ _ _ within (⊑_static _) in
    (⊑_static _, (⊑_meet _ _ _ store store, lent))

pub returns-clause-orphans : goal.returns-clause-orphans
returns-clause-orphans g c =
    let lists = arc_value c.self.inside.opening in
    let same : opening_in c.self.inside.registry.opening ≡ opening_in lists = sym c.self.invariant.forest.opening in
    subst (λ w. IfOk c.step.result (λ answer. OrphanWhereRefused c.args.step.now answer w.run.past)) c.self.view_is
    (step_orphans (record { lists = lists; past = c.self.inside.history }) c.args.step.now c.step.result c.self.invariant.is_run
    (subst (λ o. IfOk c.step.result (λ answer. answer ≡ answer_of o c.args.step.now c.self.inside.history)) same c.step.ensures.answer))

pub returns-clause-served : goal.returns-clause-served
returns-clause-served g c =
    let lists = arc_value c.self.inside.opening in
    let same : opening_in c.self.inside.registry.opening ≡ opening_in lists = sym c.self.invariant.forest.opening in
    runs_are_served _ _ (subst (λ o. IsRun o c.step.new.history) same c.step.ensures.world.is_run)

pub returns-clause-stores : goal.returns-clause-stores
returns-clause-stores g c =
    let stored : InParts _ → View = λ x. seen_of g.S.Stable.seen x in
    let lists = arc_value c.self.inside.opening in
    let past = c.self.inside.history in
    let step = c.args.step.now in
    let same : opening_in c.self.inside.registry.opening ≡ opening_in lists = sym c.self.invariant.forest.opening in
    let new = c.step.new.guardians in
    let back = back_is c.self.inside.guardians.len new (drop (length new) c.self.inside.guardians.items) (omega (arith, c.step.auto.guardians, c.deref_mut.ensures.len)) in
    let fault = fault_in c.step.result in
    subst (λ w. StoresLeft stored (opening_in w.run.lists) w.run.past step w.guardians
    (take c.self.inside.guardians.len (new ++ drop (length new) c.self.inside.guardians.items)) fault) c.self.view_is
    (subst (λ gs. StoresLeft stored (opening_in lists) past step c.self.inside.guardians.items gs fault) (sym back)
    (subst (λ o. StoresLeft stored o past step c.self.inside.guardians.items new fault) same
    (subst (λ gs. StoresLeft stored (opening_in c.self.inside.registry.opening) past step gs new fault) c.deref_mut.ensures.value c.step.ensures.stores)))

pub returns-clause-cause : goal.returns-clause-cause
returns-clause-cause g c =
    λ is.
    let stored : InParts _ → View = λ x. seen_of g.S.Stable.seen x in
    let new = c.step.new.guardians in
    let back = back_is c.self.inside.guardians.len new (drop (length new) c.self.inside.guardians.items) (omega (arith, c.step.auto.guardians, c.deref_mut.ensures.len)) in
    subst (λ w. HasFailed stored w.guardians (take c.self.inside.guardians.len (new ++ drop (length new) c.self.inside.guardians.items))) c.self.view_is
    (subst (λ gs. HasFailed stored c.self.inside.guardians.items gs) (sym back)
    (subst (λ gs. HasFailed stored gs new) c.deref_mut.ensures.value (c.step.ensures.cause is)))

pub returns-clause-stop : goal.returns-clause-stop
returns-clause-stop g c =
    let stored : InParts _ → View = λ x. seen_of g.S.Stable.seen x in
    let lists = arc_value c.self.inside.opening in
    let past = c.self.inside.history in
    let step = c.args.step.now in
    let same : opening_in c.self.inside.registry.opening ≡ opening_in lists = sym c.self.invariant.forest.opening in
    let new = c.step.new.guardians in
    let gs = c.self.inside.guardians.items in
    let count = c.step.ensures.world.count ∙ ap (λ o. length o.setup) same ∙ sym c.self.invariant.count in
    let back = back_is c.self.inside.guardians.len new (drop (length new) gs) (omega (arith, c.step.auto.guardians, c.deref_mut.ensures.len)) in
    let fault = fault_in c.step.result in
    subst (λ w. IsKeptThroughStops stored (opening_in w.run.lists) w.run.past step w.guardians (take c.self.inside.guardians.len (new ++ drop (length new) gs)))
    c.self.view_is
    (subst (λ news. IsKeptThroughStops stored (opening_in lists) past step gs news) (sym back)
    (kept_through_stops (λ x s. IsWhole g.S.Stable.seen x s) stored (opening_in lists) past step _ gs new c.self.invariant count fault
    (subst (λ o. StoresLeft stored o past step gs new fault) same
    (subst (λ gs. StoresLeft stored (opening_in c.self.inside.registry.opening) past step gs new fault) c.deref_mut.ensures.value c.step.ensures.stores))))

pub returns-clause-up : goal.returns-clause-up
returns-clause-up g c =
    let stored : InParts _ → View = λ x. seen_of g.S.Stable.seen x in
    let lists = arc_value c.self.inside.opening in
    let past = c.self.inside.history in
    let step = c.args.step.now in
    let same : opening_in c.self.inside.registry.opening ≡ opening_in lists = sym c.self.invariant.forest.opening in
    let new = c.step.new.guardians in
    let gs = c.self.inside.guardians.items in
    let count = c.step.ensures.world.count ∙ ap (λ o. length o.setup) same ∙ sym c.self.invariant.count in
    let back = back_is c.self.inside.guardians.len new (drop (length new) gs) (omega (arith, c.step.auto.guardians, c.deref_mut.ensures.len)) in
    let fault = fault_in c.step.result in
    subst (λ w. OnOk c.step.result (StayUp stored w.guardians (take c.self.inside.guardians.len (new ++ drop (length new) gs)))) c.self.view_is
    (subst (λ news. OnOk c.step.result (StayUp stored gs news)) (sym back)
    (stay_up (λ x s. IsWhole g.S.Stable.seen x s) stored (opening_in lists) past step _ gs new c.self.invariant count c.step.result
    (subst (λ o. StoresLeft stored o past step gs new fault) same
    (subst (λ gs. StoresLeft stored (opening_in c.self.inside.registry.opening) past step gs new fault) c.deref_mut.ensures.value c.step.ensures.stores))))

pub invariant_of-self : goal.invariant_of-self
invariant_of-self g c =
    let stored : InParts _ → View = λ x. seen_of g.S.Stable.seen x in
    let lists = arc_value c.self.inside.opening in
    let same : opening_in c.self.inside.registry.opening ≡ opening_in lists = sym c.self.invariant.forest.opening in
    let new = c.step.new.guardians in
    let back = back_is c.self.inside.guardians.len new (drop (length new) c.self.inside.guardians.items) (omega (arith, c.step.auto.guardians, c.deref_mut.ensures.len)) in
    subst (λ gs. IsWorld (λ x s. IsWhole g.S.Stable.seen x s) stored (λ f. StandsIn c.step.new.forest f) (opening_in lists) c.step.new.history gs) (sym back)
    (subst (λ o. IsWorld (λ x s. IsWhole g.S.Stable.seen x s) stored (λ f. StandsIn c.step.new.forest f) o c.step.new.history new) same c.step.ensures.world)
