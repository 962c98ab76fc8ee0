use Rattle.std.proofs.Common.{None, ap, sym, ◌∙◌}
use Rattle.run_model.specs.declared.history.Event.{Event}
use Rattle.stable_store.specs.Calls.{View}
use Rattle.layer_contracts.specs.Guardians.{GuardianState, lent_two}
use Rattle.layer_contracts.specs.Forests.{ForestState}
use Rattle.layer_contracts.specs.Messages.{is_operation}
use Rattle.run_model.proofs.Events.{step_is}
use Rattle.layer_contracts.proofs.Stores.{stays_same}
use Rattle.world_steps.specs.Keeping.{Brings, Plans, StoreLeft}
use Rattle.world_steps.proofs.Left.{brought_rising, first_lent, first_one, left_at, left_there, planned_here, planned_there}
use Rattle.world_steps.proofs.Operating.{forest_stays}
use Rattle.world_steps.proofs.Stores.{left_carried, left_early, with_fault}
use Rattle.world_steps.proofs.keeping.keep_one.Goals as goal

pub plan_there-requires : goal.plan_there-requires
plan_there-requires g c =
    record { accepted = c.requires.answered.2.answered.accepted }

pub plan_at-requires-clause-rising : goal.plan_at-requires-clause-rising
plan_at-requires-clause-rising g c =
    let f : ForestState = c.requires.answered.0 in
    let x : GuardianState = c.requires.answered.1 in
    let here = c.requires.answered.2 in
    let e : Event = c.args.event.now in
    let brought : Brings f x x e x c.in_ok-keeps.keeps c.brought_to.new.message =
    c.in_ok-keeps.ensures f x x x here.lent here.lent.first (first_one x x) here.lent.opening.first here.answered in
    brought_rising f x x x e c.in_ok-keeps.keeps c.brought_to.new.message brought

pub install_there-requires-clause-planned : goal.install_there-requires-clause-planned
install_there-requires-clause-planned g c =
    let f : ForestState = c.requires.answered.0 in
    let x : GuardianState = c.requires.answered.1 in
    let here = c.requires.answered.2 in
    planned_there (g.R.Forest.stands c.plan_there.new.forest) (g.R.Forest.is_planned c.plan_there.new.forest) f c.args.event.now
    c.life_of_new-life.result (c.plan_there.ensures.same f here.lent.forest)
    (c.in_ok-plan_there.ensures.planned f here.lent.forest (lent_two x x, here.answered.answer))

pub carry_out-requires-clause-planned : goal.carry_out-requires-clause-planned
carry_out-requires-clause-planned g c =
    let f : ForestState = c.requires.answered.0 in
    let x : GuardianState = c.requires.answered.1 in
    let here = c.requires.answered.2 in
    let e : Event = c.args.event.now in
    let brought : Brings f x x e x c.in_ok-keeps.keeps c.brought_to.new.message =
    c.in_ok-keeps.ensures f x x x here.lent here.lent.first (first_one x x) here.lent.opening.first here.answered in
    let planned : Plans (g.G.Guardian.is_planned c.plan_at.new.guardian) f x x e x c.in_ok-keeps.keeps = c.in_ok-plan_at.ensures.planned f x x x (g.met.R.Forest.is_one c.plan_there.new.forest f (c.plan_there.ensures.same f here.lent.forest)) here.lent.first brought in
    let stood = c.plan_at.ensures.same x here.lent.first in
    planned_here (g.G.Guardian.stands c.plan_at.new.guardian) (g.G.Guardian.is_planned c.plan_at.new.guardian) f x x x e c.in_ok-keeps.keeps stood planned

pub returns-then-is_operation-clause-done : goal.returns-then-is_operation-clause-done
returns-then-is_operation-clause-done g c = λ f x here.
    let is = ap is_operation (step_is c.event.view_is) ∙ sym c.is_operation.ensures ∙ c.if-is_operation.true in
    let after = c.in_ok-operate.ensures.kept f x x x
    (record { forest = here.lent.forest; here = here.lent.first; lent = first_one x x; opening = here.lent.opening.first; answered = here.answered }) in
    record {
      forest = forest_stays f x x c.args.event.now here.answered is (g.R.Forest.stands c.args.forest.now) c.in_ok-operate.field-0 here.lent.forest;
      first = after;
      second = after;
    }

pub returns-clause-done : goal.returns-clause-done
returns-clause-done g c = λ f x here.
    let e : Event = c.args.event.now in
    let brought : Brings f x x e x c.in_ok-keeps.keeps c.brought_to.new.message =
    c.in_ok-keeps.ensures f x x x here.lent here.lent.first (first_one x x) here.lent.opening.first here.answered in
    let planned : Plans (g.G.Guardian.is_planned c.plan_at.new.guardian) f x x e x c.in_ok-keeps.keeps = c.in_ok-plan_at.ensures.planned f x x x (g.met.R.Forest.is_one c.plan_there.new.forest f (c.plan_there.ensures.same f here.lent.forest)) here.lent.first brought in
    let stood = c.plan_at.ensures.same x here.lent.first in
    let n = c.in_ok-number.number in
    let after = left_at (g.G.Guardian.stands c.plan_at.new.guardian) (g.G.Guardian.stands c.carry_out.new.guardian) (g.G.Guardian.is_planned c.plan_at.new.guardian) f x x x e n c.in_ok-keeps.keeps here.lent.opening.first
    (first_lent x x) stood planned c.in_ok-number.ensures.kept in
    record {
      forest =
          left_there (g.R.Forest.stands c.plan_there.new.forest) (g.R.Forest.stands c.install_there.new.forest) (g.R.Forest.is_planned c.plan_there.new.forest) f x x e
          c.life_of_new-life.result n
          (c.life_of_new-life.ensures f x x here.lent) (c.plan_there.ensures.same f here.lent.forest)
          (c.in_ok-plan_there.ensures.planned f here.lent.forest (lent_two x x, here.answered.answer)) c.install_there.ensures.kept
          c.install_there.ensures.same;
      first = after;
      second = after;
    }

pub returns-in_err-keeps-clause-store : goal.returns-in_err-keeps-clause-store
returns-in_err-keeps-clause-store g c = λ f x here.
    let old : View = g.G.Guardian.stored c.args.guardian.now in
    left_early f x x x c.args.event.now old c.from_residual-in_err-keeps.result old c.from_residual-in_err-keeps.ensures.1 (stays_same old)
    (c.number.ensures.whole x here.lent.first)

pub returns-in_err-plan_there-clause-store : goal.returns-in_err-plan_there-clause-store
returns-in_err-plan_there-clause-store g c = λ f x here.
    let old : View = g.G.Guardian.stored c.args.guardian.now in
    left_early f x x x c.args.event.now old c.from_residual-in_err-plan_there.result old c.from_residual-in_err-plan_there.ensures.1 (stays_same old)
    (c.number.ensures.whole x here.lent.first)

pub returns-in_err-plan_at-clause-store : goal.returns-in_err-plan_at-clause-store
returns-in_err-plan_at-clause-store g c = λ f x here.
    let old : View = g.G.Guardian.stored c.args.guardian.now in
    left_early f x x x c.args.event.now old c.from_residual-in_err-plan_at.result (g.G.Guardian.stored c.plan_at.new.guardian) c.from_residual-in_err-plan_at.ensures.1 c.plan_at.ensures.store
    (c.number.ensures.whole x here.lent.first)

pub returns-in_err-number-clause-store : goal.returns-in_err-number-clause-store
returns-in_err-number-clause-store g c = λ f x here.
    let e : Event = c.args.event.now in
    let brought : Brings f x x e x c.in_ok-keeps.keeps c.brought_to.new.message =
    c.in_ok-keeps.ensures f x x x here.lent here.lent.first (first_one x x) here.lent.opening.first here.answered in
    let planned : Plans (g.G.Guardian.is_planned c.plan_at.new.guardian) f x x e x c.in_ok-keeps.keeps = c.in_ok-plan_at.ensures.planned f x x x (g.met.R.Forest.is_one c.plan_there.new.forest f (c.plan_there.ensures.same f here.lent.forest)) here.lent.first brought in
    let stood = c.plan_at.ensures.same x here.lent.first in
    let old : View = g.G.Guardian.stored c.args.guardian.now in
    let mid : View = g.G.Guardian.stored c.plan_at.new.guardian in
    let new : View = g.G.Guardian.stored c.carry_out.new.guardian in
    with_fault c.from_residual-in_err-number.result _ (λ fault. StoreLeft f x x e x old new fault) c.from_residual-in_err-number.ensures.1
    (left_carried f x x x e old (g.G.Guardian.stands c.plan_at.new.guardian) (g.G.Guardian.is_planned c.plan_at.new.guardian) mid new _ c.in_ok-keeps.keeps stood c.plan_at.ensures.store planned c.in_err-number.ensures.store)

pub returns-clause-store : goal.returns-clause-store
returns-clause-store g c = λ f x here.
    let e : Event = c.args.event.now in
    let brought : Brings f x x e x c.in_ok-keeps.keeps c.brought_to.new.message =
    c.in_ok-keeps.ensures f x x x here.lent here.lent.first (first_one x x) here.lent.opening.first here.answered in
    let planned : Plans (g.G.Guardian.is_planned c.plan_at.new.guardian) f x x e x c.in_ok-keeps.keeps = c.in_ok-plan_at.ensures.planned f x x x (g.met.R.Forest.is_one c.plan_there.new.forest f (c.plan_there.ensures.same f here.lent.forest)) here.lent.first brought in
    let stood = c.plan_at.ensures.same x here.lent.first in
    let old : View = g.G.Guardian.stored c.args.guardian.now in
    let mid : View = g.G.Guardian.stored c.plan_at.new.guardian in
    let new : View = g.G.Guardian.stored c.carry_out.new.guardian in
    left_carried f x x x e old (g.G.Guardian.stands c.plan_at.new.guardian) (g.G.Guardian.is_planned c.plan_at.new.guardian) mid new None c.in_ok-keeps.keeps stood c.plan_at.ensures.store planned
    c.in_ok-number.ensures.store
