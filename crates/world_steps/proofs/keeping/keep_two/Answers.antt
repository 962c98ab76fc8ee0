use Rattle.std.proofs.Common.{None, ap, false, sym, true, ◌==◌, ◌∙◌, ◌≡◌}
use Rattle.run_model.specs.declared.history.Event.{Event}
use Rattle.run_model.specs.LocalHistories.{events_there, names_guardian}
use Rattle.stable_store.specs.Calls.{View}
use Rattle.layer_contracts.specs.Guardians.{GuardianState, lent_two}
use Rattle.layer_contracts.specs.Forests.{ForestState}
use Rattle.layer_contracts.specs.Messages.{is_operation}
use Rattle.run_model.proofs.Events.{step_is}
use Rattle.layer_contracts.proofs.Stores.{stays_same, stays_then}
use Rattle.world_steps.specs.Keeping.{Brings, IsLentAt, Plans, StoreLeft}
use Rattle.world_steps.proofs.Left.{brought_rising, differ_as, first_lent, first_one, left_at, left_there, planned_here, planned_there, quiet_here, second_lent, second_one}
use Rattle.world_steps.proofs.Naming.{is_as_named}
use Rattle.world_steps.proofs.Operating.{forest_stays, one_named, passed_at}
use Rattle.world_steps.proofs.Stores.{left_carried, left_early, left_quiet, quiet_first, quiet_other, with_fault}
use Rattle.world_steps.proofs.keeping.keep_two.Goals as goal

pub plan_there-requires : goal.plan_there-requires
plan_there-requires g c =
    record { accepted = c.requires.answered.3.answered.accepted }

pub plan_at-requires-clause-rising : goal.plan_at-requires-clause-rising
plan_at-requires-clause-rising g c =
    let f : ForestState = c.requires.answered.0 in
    let a : GuardianState = c.requires.answered.1 in
    let b : GuardianState = c.requires.answered.2 in
    let here = c.requires.answered.3 in
    let e : Event = c.args.event.now in
    let to_first : Brings f a b e a c.in_ok-keeps_first.keeps_first c.brought_to.new.message =
    c.in_ok-keeps_first.ensures f a b a here.lent here.lent.first (first_one a b) here.lent.opening.first here.answered in
    brought_rising f a b a e c.in_ok-keeps_first.keeps_first c.brought_to.new.message to_first

pub plan_at-requires-2-clause-rising : goal.plan_at-requires-2-clause-rising
plan_at-requires-2-clause-rising g c =
    let f : ForestState = c.requires.answered.0 in
    let a : GuardianState = c.requires.answered.1 in
    let b : GuardianState = c.requires.answered.2 in
    let here = c.requires.answered.3 in
    let e : Event = c.args.event.now in
    let apart : (a.number == b.number) ≡ false = c.requires.answered.4 in
    let to_second : Brings f a b e b c.in_ok-keeps_second.keeps_second c.brought_to-2.new.message =
    c.in_ok-keeps_second.ensures f a b b here.lent here.lent.second (second_one a b apart) here.lent.opening.second here.answered in
    brought_rising f a b b e c.in_ok-keeps_second.keeps_second c.brought_to-2.new.message to_second

pub install_there-requires-clause-planned : goal.install_there-requires-clause-planned
install_there-requires-clause-planned g c =
    let f : ForestState = c.requires.answered.0 in
    let a : GuardianState = c.requires.answered.1 in
    let b : GuardianState = c.requires.answered.2 in
    let here = c.requires.answered.3 in
    planned_there (g.R.Forest.stands c.plan_there.new.forest) (g.R.Forest.is_planned c.plan_there.new.forest) f c.args.event.now
    c.life_of_new-life.result (c.plan_there.ensures.same f here.lent.forest)
    (c.in_ok-plan_there.ensures.planned f here.lent.forest (lent_two a b, here.answered.answer))

pub install_there-requires-else-may_fail_at-clause-planned : goal.install_there-requires-else-may_fail_at-clause-planned
install_there-requires-else-may_fail_at-clause-planned g c =
    let f : ForestState = c.requires.answered.0 in
    let a : GuardianState = c.requires.answered.1 in
    let b : GuardianState = c.requires.answered.2 in
    let here = c.requires.answered.3 in
    planned_there (g.R.Forest.stands c.plan_there.new.forest) (g.R.Forest.is_planned c.plan_there.new.forest) f c.args.event.now
    c.life_of_new-life.result (c.plan_there.ensures.same f here.lent.forest)
    (c.in_ok-plan_there.ensures.planned f here.lent.forest (lent_two a b, here.answered.answer))

pub carry_out-requires-clause-planned : goal.carry_out-requires-clause-planned
carry_out-requires-clause-planned g c =
    let f : ForestState = c.requires.answered.0 in
    let a : GuardianState = c.requires.answered.1 in
    let b : GuardianState = c.requires.answered.2 in
    let here = c.requires.answered.3 in
    let e : Event = c.args.event.now in
    let to_first : Brings f a b e a c.in_ok-keeps_first.keeps_first c.brought_to.new.message =
    c.in_ok-keeps_first.ensures f a b a here.lent here.lent.first (first_one a b) here.lent.opening.first here.answered in
    let one : Plans (g.G.Guardian.is_planned c.plan_at.new.guardian) f a b e a c.in_ok-keeps_first.keeps_first = c.in_ok-plan_at.ensures.planned f a b a (g.met.R.Forest.is_one c.plan_there.new.forest f (c.plan_there.ensures.same f here.lent.forest)) here.lent.first to_first in
    let stood = c.plan_at.ensures.same a here.lent.first in
    planned_here (g.G.Guardian.stands c.plan_at.new.guardian) (g.G.Guardian.is_planned c.plan_at.new.guardian) f a b a e c.in_ok-keeps_first.keeps_first stood one

pub carry_out-requires-else-may_fail_at-clause-planned : goal.carry_out-requires-else-may_fail_at-clause-planned
carry_out-requires-else-may_fail_at-clause-planned g c =
    let f : ForestState = c.requires.answered.0 in
    let a : GuardianState = c.requires.answered.1 in
    let b : GuardianState = c.requires.answered.2 in
    let here = c.requires.answered.3 in
    let e : Event = c.args.event.now in
    let apart : (a.number == b.number) ≡ false = c.requires.answered.4 in
    let to_second : Brings f a b e b c.in_ok-keeps_second.keeps_second c.brought_to-2.new.message =
    c.in_ok-keeps_second.ensures f a b b here.lent here.lent.second (second_one a b apart) here.lent.opening.second here.answered in
    let other : Plans (g.G.Guardian.is_planned c.plan_at-2.new.guardian) f a b e b c.in_ok-keeps_second.keeps_second = c.in_ok-plan_at-2.ensures.planned f a b b (g.met.R.Forest.is_one c.plan_there.new.forest f (c.plan_there.ensures.same f here.lent.forest)) here.lent.second to_second in
    let stood_also = c.plan_at-2.ensures.same b here.lent.second in
    planned_here (g.G.Guardian.stands c.plan_at-2.new.guardian) (g.G.Guardian.is_planned c.plan_at-2.new.guardian) f a b b e c.in_ok-keeps_second.keeps_second stood_also other

pub install-requires-clause-planned : goal.install-requires-clause-planned
install-requires-clause-planned g c =
    let f : ForestState = c.requires.answered.0 in
    let a : GuardianState = c.requires.answered.1 in
    let b : GuardianState = c.requires.answered.2 in
    let here = c.requires.answered.3 in
    let e : Event = c.args.event.now in
    let apart : (a.number == b.number) ≡ false = c.requires.answered.4 in
    let to_second : Brings f a b e b c.in_ok-keeps_second.keeps_second c.brought_to-2.new.message =
    c.in_ok-keeps_second.ensures f a b b here.lent here.lent.second (second_one a b apart) here.lent.opening.second here.answered in
    let other : Plans (g.G.Guardian.is_planned c.plan_at-2.new.guardian) f a b e b c.in_ok-keeps_second.keeps_second = c.in_ok-plan_at-2.ensures.planned f a b b (g.met.R.Forest.is_one c.plan_there.new.forest f (c.plan_there.ensures.same f here.lent.forest)) here.lent.second to_second in
    let stood_also = c.plan_at-2.ensures.same b here.lent.second in
    planned_here (g.G.Guardian.stands c.plan_at-2.new.guardian) (g.G.Guardian.is_planned c.plan_at-2.new.guardian) f a b b e c.in_ok-keeps_second.keeps_second stood_also other

pub install-requires-else-may_fail_at-clause-planned : goal.install-requires-else-may_fail_at-clause-planned
install-requires-else-may_fail_at-clause-planned g c =
    let f : ForestState = c.requires.answered.0 in
    let a : GuardianState = c.requires.answered.1 in
    let b : GuardianState = c.requires.answered.2 in
    let here = c.requires.answered.3 in
    let e : Event = c.args.event.now in
    let to_first : Brings f a b e a c.in_ok-keeps_first.keeps_first c.brought_to.new.message =
    c.in_ok-keeps_first.ensures f a b a here.lent here.lent.first (first_one a b) here.lent.opening.first here.answered in
    let one : Plans (g.G.Guardian.is_planned c.plan_at.new.guardian) f a b e a c.in_ok-keeps_first.keeps_first = c.in_ok-plan_at.ensures.planned f a b a (g.met.R.Forest.is_one c.plan_there.new.forest f (c.plan_there.ensures.same f here.lent.forest)) here.lent.first to_first in
    let stood = c.plan_at.ensures.same a here.lent.first in
    planned_here (g.G.Guardian.stands c.plan_at.new.guardian) (g.G.Guardian.is_planned c.plan_at.new.guardian) f a b a e c.in_ok-keeps_first.keeps_first stood one

pub install-requires-clause-quiet : goal.install-requires-clause-quiet
install-requires-clause-quiet g c =
    let f : ForestState = c.requires.answered.0 in
    let a : GuardianState = c.requires.answered.1 in
    let b : GuardianState = c.requires.answered.2 in
    let here = c.requires.answered.3 in
    let e : Event = c.args.event.now in
    let apart : (a.number == b.number) ≡ false = c.requires.answered.4 in
    let to_first : Brings f a b e a c.in_ok-keeps_first.keeps_first c.brought_to.new.message =
    c.in_ok-keeps_first.ensures f a b a here.lent here.lent.first (first_one a b) here.lent.opening.first here.answered in
    let one : Plans (g.G.Guardian.is_planned c.plan_at.new.guardian) f a b e a c.in_ok-keeps_first.keeps_first = c.in_ok-plan_at.ensures.planned f a b a (g.met.R.Forest.is_one c.plan_there.new.forest f (c.plan_there.ensures.same f here.lent.forest)) here.lent.first to_first in
    let stood = c.plan_at.ensures.same a here.lent.first in
    let to_second : Brings f a b e b c.in_ok-keeps_second.keeps_second c.brought_to-2.new.message =
    c.in_ok-keeps_second.ensures f a b b here.lent here.lent.second (second_one a b apart) here.lent.opening.second here.answered in
    let other : Plans (g.G.Guardian.is_planned c.plan_at-2.new.guardian) f a b e b c.in_ok-keeps_second.keeps_second = c.in_ok-plan_at-2.ensures.planned f a b b (g.met.R.Forest.is_one c.plan_there.new.forest f (c.plan_there.ensures.same f here.lent.forest)) here.lent.second to_second in
    let stood_also = c.plan_at-2.ensures.same b here.lent.second in
    quiet_here (g.G.Guardian.stands c.plan_at-2.new.guardian) b e.step c.in_ok-keeps_second.keeps_second stood_also
    (quiet_other (g.G.Guardian.is_planned c.plan_at.new.guardian) (g.G.Guardian.is_planned c.plan_at-2.new.guardian) f a b a b e c.in_ok-keeps_first.keeps_first c.in_ok-keeps_second.keeps_second (sym (c.may_fail_at.ensures a stood) ∙ c.if-may_fail_at.true) apart one other)

pub install-requires-else-may_fail_at-clause-quiet : goal.install-requires-else-may_fail_at-clause-quiet
install-requires-else-may_fail_at-clause-quiet g c =
    let f : ForestState = c.requires.answered.0 in
    let a : GuardianState = c.requires.answered.1 in
    let b : GuardianState = c.requires.answered.2 in
    let here = c.requires.answered.3 in
    let e : Event = c.args.event.now in
    let to_first : Brings f a b e a c.in_ok-keeps_first.keeps_first c.brought_to.new.message =
    c.in_ok-keeps_first.ensures f a b a here.lent here.lent.first (first_one a b) here.lent.opening.first here.answered in
    let one : Plans (g.G.Guardian.is_planned c.plan_at.new.guardian) f a b e a c.in_ok-keeps_first.keeps_first = c.in_ok-plan_at.ensures.planned f a b a (g.met.R.Forest.is_one c.plan_there.new.forest f (c.plan_there.ensures.same f here.lent.forest)) here.lent.first to_first in
    let stood = c.plan_at.ensures.same a here.lent.first in
    quiet_here (g.G.Guardian.stands c.plan_at.new.guardian) a e.step c.in_ok-keeps_first.keeps_first stood
    (quiet_first e.step a.number c.in_ok-keeps_first.keeps_first (sym (c.may_fail_at.ensures a stood) ∙ c.if-may_fail_at.false))

pub returns-in_err-keeps_first-clause-first_store : goal.returns-in_err-keeps_first-clause-first_store
returns-in_err-keeps_first-clause-first_store g c = λ f a b here.
    let old : View = g.G.Guardian.stored c.args.first.now in
    left_early f a b a c.args.event.now old c.from_residual-in_err-keeps_first.result old c.from_residual-in_err-keeps_first.ensures.1 (stays_same old)
    (c.number.ensures.whole a here.lent.first)

pub returns-in_err-keeps_first-clause-second_store : goal.returns-in_err-keeps_first-clause-second_store
returns-in_err-keeps_first-clause-second_store g c = λ f a b here.
    let old : View = g.G.Guardian.stored c.args.second.now in
    left_early f a b b c.args.event.now old c.from_residual-in_err-keeps_first.result old c.from_residual-in_err-keeps_first.ensures.1 (stays_same old)
    (c.number-2.ensures.whole b here.lent.second)

pub returns-in_err-keeps_second-clause-first_store : goal.returns-in_err-keeps_second-clause-first_store
returns-in_err-keeps_second-clause-first_store g c = λ f a b here.
    let old : View = g.G.Guardian.stored c.args.first.now in
    left_early f a b a c.args.event.now old c.from_residual-in_err-keeps_second.result old c.from_residual-in_err-keeps_second.ensures.1 (stays_same old)
    (c.number.ensures.whole a here.lent.first)

pub returns-in_err-keeps_second-clause-second_store : goal.returns-in_err-keeps_second-clause-second_store
returns-in_err-keeps_second-clause-second_store g c = λ f a b here.
    let old : View = g.G.Guardian.stored c.args.second.now in
    left_early f a b b c.args.event.now old c.from_residual-in_err-keeps_second.result old c.from_residual-in_err-keeps_second.ensures.1 (stays_same old)
    (c.number-2.ensures.whole b here.lent.second)

pub returns-in_err-plan_there-clause-first_store : goal.returns-in_err-plan_there-clause-first_store
returns-in_err-plan_there-clause-first_store g c = λ f a b here.
    let old : View = g.G.Guardian.stored c.args.first.now in
    left_early f a b a c.args.event.now old c.from_residual-in_err-plan_there.result old c.from_residual-in_err-plan_there.ensures.1 (stays_same old)
    (c.number.ensures.whole a here.lent.first)

pub returns-in_err-plan_there-clause-second_store : goal.returns-in_err-plan_there-clause-second_store
returns-in_err-plan_there-clause-second_store g c = λ f a b here.
    let old : View = g.G.Guardian.stored c.args.second.now in
    left_early f a b b c.args.event.now old c.from_residual-in_err-plan_there.result old c.from_residual-in_err-plan_there.ensures.1 (stays_same old)
    (c.number-2.ensures.whole b here.lent.second)

pub returns-in_err-plan_at-clause-first_store : goal.returns-in_err-plan_at-clause-first_store
returns-in_err-plan_at-clause-first_store g c = λ f a b here.
    let old : View = g.G.Guardian.stored c.args.first.now in
    left_early f a b a c.args.event.now old c.from_residual-in_err-plan_at.result (g.G.Guardian.stored c.plan_at.new.guardian) c.from_residual-in_err-plan_at.ensures.1 c.plan_at.ensures.store
    (c.number.ensures.whole a here.lent.first)

pub returns-in_err-plan_at-clause-second_store : goal.returns-in_err-plan_at-clause-second_store
returns-in_err-plan_at-clause-second_store g c = λ f a b here.
    let old : View = g.G.Guardian.stored c.args.second.now in
    left_early f a b b c.args.event.now old c.from_residual-in_err-plan_at.result old c.from_residual-in_err-plan_at.ensures.1 (stays_same old)
    (c.number-2.ensures.whole b here.lent.second)

pub returns-in_err-plan_at-2-clause-first_store : goal.returns-in_err-plan_at-2-clause-first_store
returns-in_err-plan_at-2-clause-first_store g c = λ f a b here.
    let old : View = g.G.Guardian.stored c.args.first.now in
    left_early f a b a c.args.event.now old c.from_residual-in_err-plan_at-2.result (g.G.Guardian.stored c.plan_at.new.guardian) c.from_residual-in_err-plan_at-2.ensures.1 c.plan_at.ensures.store
    (c.number.ensures.whole a here.lent.first)

pub returns-in_err-plan_at-2-clause-second_store : goal.returns-in_err-plan_at-2-clause-second_store
returns-in_err-plan_at-2-clause-second_store g c = λ f a b here.
    let old : View = g.G.Guardian.stored c.args.second.now in
    left_early f a b b c.args.event.now old c.from_residual-in_err-plan_at-2.result (g.G.Guardian.stored c.plan_at-2.new.guardian) c.from_residual-in_err-plan_at-2.ensures.1 c.plan_at-2.ensures.store
    (c.number-2.ensures.whole b here.lent.second)

pub returns-in_err-number-clause-first_store : goal.returns-in_err-number-clause-first_store
returns-in_err-number-clause-first_store g c = λ f a b here.
    let e : Event = c.args.event.now in
    let to_first : Brings f a b e a c.in_ok-keeps_first.keeps_first c.brought_to.new.message =
    c.in_ok-keeps_first.ensures f a b a here.lent here.lent.first (first_one a b) here.lent.opening.first here.answered in
    let one : Plans (g.G.Guardian.is_planned c.plan_at.new.guardian) f a b e a c.in_ok-keeps_first.keeps_first = c.in_ok-plan_at.ensures.planned f a b a (g.met.R.Forest.is_one c.plan_there.new.forest f (c.plan_there.ensures.same f here.lent.forest)) here.lent.first to_first in
    let stood = c.plan_at.ensures.same a here.lent.first in
    let old : View = g.G.Guardian.stored c.args.first.now in
    let mid : View = g.G.Guardian.stored c.plan_at.new.guardian in
    let new : View = g.G.Guardian.stored c.carry_out.new.guardian in
    with_fault c.from_residual-in_err-number.result _ (λ fault. StoreLeft f a b e a old new fault) c.from_residual-in_err-number.ensures.1
    (left_carried f a b a e old (g.G.Guardian.stands c.plan_at.new.guardian) (g.G.Guardian.is_planned c.plan_at.new.guardian) mid new _ c.in_ok-keeps_first.keeps_first stood c.plan_at.ensures.store one c.in_err-number.ensures.store)

pub returns-in_err-number-clause-second_store : goal.returns-in_err-number-clause-second_store
returns-in_err-number-clause-second_store g c = λ f a b here.
    let e : Event = c.args.event.now in
    let some = c.requires.answered in
    let apart : (a.number == b.number) ≡ false =
    differ_as (g.G.Guardian.stands c.args.first.now) (g.G.Guardian.stands c.args.second.now) some.1 some.2 a b c.number.result c.number-2.result
    c.number.ensures.number c.number-2.ensures.number some.3.lent.first some.3.lent.second here.lent.first here.lent.second some.4 in
    let to_first : Brings f a b e a c.in_ok-keeps_first.keeps_first c.brought_to.new.message =
    c.in_ok-keeps_first.ensures f a b a here.lent here.lent.first (first_one a b) here.lent.opening.first here.answered in
    let one : Plans (g.G.Guardian.is_planned c.plan_at.new.guardian) f a b e a c.in_ok-keeps_first.keeps_first = c.in_ok-plan_at.ensures.planned f a b a (g.met.R.Forest.is_one c.plan_there.new.forest f (c.plan_there.ensures.same f here.lent.forest)) here.lent.first to_first in
    let stood = c.plan_at.ensures.same a here.lent.first in
    let to_second : Brings f a b e b c.in_ok-keeps_second.keeps_second c.brought_to-2.new.message =
    c.in_ok-keeps_second.ensures f a b b here.lent here.lent.second (second_one a b apart) here.lent.opening.second here.answered in
    let other : Plans (g.G.Guardian.is_planned c.plan_at-2.new.guardian) f a b e b c.in_ok-keeps_second.keeps_second = c.in_ok-plan_at-2.ensures.planned f a b b (g.met.R.Forest.is_one c.plan_there.new.forest f (c.plan_there.ensures.same f here.lent.forest)) here.lent.second to_second in
    let stood_also = c.plan_at-2.ensures.same b here.lent.second in
    let old : View = g.G.Guardian.stored c.args.second.now in
    let mid : View = g.G.Guardian.stored c.plan_at-2.new.guardian in
    left_quiet f a b b e old (g.G.Guardian.is_planned c.plan_at-2.new.guardian) mid _ c.in_ok-keeps_second.keeps_second other
    (quiet_other (g.G.Guardian.is_planned c.plan_at.new.guardian) (g.G.Guardian.is_planned c.plan_at-2.new.guardian) f a b a b e c.in_ok-keeps_first.keeps_first c.in_ok-keeps_second.keeps_second (sym (c.may_fail_at.ensures a stood) ∙ c.if-may_fail_at.true) apart one other)
    c.plan_at-2.ensures.store

pub returns-in_err-number-2-clause-first_store : goal.returns-in_err-number-2-clause-first_store
returns-in_err-number-2-clause-first_store g c = λ f a b here.
    let e : Event = c.args.event.now in
    let to_first : Brings f a b e a c.in_ok-keeps_first.keeps_first c.brought_to.new.message =
    c.in_ok-keeps_first.ensures f a b a here.lent here.lent.first (first_one a b) here.lent.opening.first here.answered in
    let one : Plans (g.G.Guardian.is_planned c.plan_at.new.guardian) f a b e a c.in_ok-keeps_first.keeps_first = c.in_ok-plan_at.ensures.planned f a b a (g.met.R.Forest.is_one c.plan_there.new.forest f (c.plan_there.ensures.same f here.lent.forest)) here.lent.first to_first in
    let stood = c.plan_at.ensures.same a here.lent.first in
    let old : View = g.G.Guardian.stored c.args.first.now in
    let mid : View = g.G.Guardian.stored c.plan_at.new.guardian in
    left_quiet f a b a e old (g.G.Guardian.is_planned c.plan_at.new.guardian) mid _ c.in_ok-keeps_first.keeps_first one
    (quiet_first e.step a.number c.in_ok-keeps_first.keeps_first (sym (c.may_fail_at.ensures a stood) ∙ c.if-may_fail_at.false))
    c.plan_at.ensures.store

pub returns-in_err-number-2-clause-second_store : goal.returns-in_err-number-2-clause-second_store
returns-in_err-number-2-clause-second_store g c = λ f a b here.
    let e : Event = c.args.event.now in
    let some = c.requires.answered in
    let apart : (a.number == b.number) ≡ false =
    differ_as (g.G.Guardian.stands c.args.first.now) (g.G.Guardian.stands c.args.second.now) some.1 some.2 a b c.number.result c.number-2.result
    c.number.ensures.number c.number-2.ensures.number some.3.lent.first some.3.lent.second here.lent.first here.lent.second some.4 in
    let to_second : Brings f a b e b c.in_ok-keeps_second.keeps_second c.brought_to-2.new.message =
    c.in_ok-keeps_second.ensures f a b b here.lent here.lent.second (second_one a b apart) here.lent.opening.second here.answered in
    let other : Plans (g.G.Guardian.is_planned c.plan_at-2.new.guardian) f a b e b c.in_ok-keeps_second.keeps_second = c.in_ok-plan_at-2.ensures.planned f a b b (g.met.R.Forest.is_one c.plan_there.new.forest f (c.plan_there.ensures.same f here.lent.forest)) here.lent.second to_second in
    let stood_also = c.plan_at-2.ensures.same b here.lent.second in
    let old : View = g.G.Guardian.stored c.args.second.now in
    let mid : View = g.G.Guardian.stored c.plan_at-2.new.guardian in
    let new : View = g.G.Guardian.stored c.carry_out-else-may_fail_at.new.guardian in
    with_fault c.from_residual-in_err-number-2.result _ (λ fault. StoreLeft f a b e b old new fault) c.from_residual-in_err-number-2.ensures.1
    (left_carried f a b b e old (g.G.Guardian.stands c.plan_at-2.new.guardian) (g.G.Guardian.is_planned c.plan_at-2.new.guardian) mid new _ c.in_ok-keeps_second.keeps_second stood_also c.plan_at-2.ensures.store other c.in_err-number-2.ensures.store)

pub returns-in_ok-number-clause-first_store : goal.returns-in_ok-number-clause-first_store
returns-in_ok-number-clause-first_store g c = λ f a b here.
    let e : Event = c.args.event.now in
    let to_first : Brings f a b e a c.in_ok-keeps_first.keeps_first c.brought_to.new.message =
    c.in_ok-keeps_first.ensures f a b a here.lent here.lent.first (first_one a b) here.lent.opening.first here.answered in
    let one : Plans (g.G.Guardian.is_planned c.plan_at.new.guardian) f a b e a c.in_ok-keeps_first.keeps_first = c.in_ok-plan_at.ensures.planned f a b a (g.met.R.Forest.is_one c.plan_there.new.forest f (c.plan_there.ensures.same f here.lent.forest)) here.lent.first to_first in
    let stood = c.plan_at.ensures.same a here.lent.first in
    let old : View = g.G.Guardian.stored c.args.first.now in
    let mid : View = g.G.Guardian.stored c.plan_at.new.guardian in
    let new : View = g.G.Guardian.stored c.carry_out.new.guardian in
    left_carried f a b a e old (g.G.Guardian.stands c.plan_at.new.guardian) (g.G.Guardian.is_planned c.plan_at.new.guardian) mid new None c.in_ok-keeps_first.keeps_first stood c.plan_at.ensures.store one
    c.in_ok-number.ensures.store

pub returns-in_ok-number-clause-second_store : goal.returns-in_ok-number-clause-second_store
returns-in_ok-number-clause-second_store g c = λ f a b here.
    let e : Event = c.args.event.now in
    let some = c.requires.answered in
    let apart : (a.number == b.number) ≡ false =
    differ_as (g.G.Guardian.stands c.args.first.now) (g.G.Guardian.stands c.args.second.now) some.1 some.2 a b c.number.result c.number-2.result
    c.number.ensures.number c.number-2.ensures.number some.3.lent.first some.3.lent.second here.lent.first here.lent.second some.4 in
    let to_first : Brings f a b e a c.in_ok-keeps_first.keeps_first c.brought_to.new.message =
    c.in_ok-keeps_first.ensures f a b a here.lent here.lent.first (first_one a b) here.lent.opening.first here.answered in
    let one : Plans (g.G.Guardian.is_planned c.plan_at.new.guardian) f a b e a c.in_ok-keeps_first.keeps_first = c.in_ok-plan_at.ensures.planned f a b a (g.met.R.Forest.is_one c.plan_there.new.forest f (c.plan_there.ensures.same f here.lent.forest)) here.lent.first to_first in
    let stood = c.plan_at.ensures.same a here.lent.first in
    let to_second : Brings f a b e b c.in_ok-keeps_second.keeps_second c.brought_to-2.new.message =
    c.in_ok-keeps_second.ensures f a b b here.lent here.lent.second (second_one a b apart) here.lent.opening.second here.answered in
    let other : Plans (g.G.Guardian.is_planned c.plan_at-2.new.guardian) f a b e b c.in_ok-keeps_second.keeps_second = c.in_ok-plan_at-2.ensures.planned f a b b (g.met.R.Forest.is_one c.plan_there.new.forest f (c.plan_there.ensures.same f here.lent.forest)) here.lent.second to_second in
    let stood_also = c.plan_at-2.ensures.same b here.lent.second in
    let old : View = g.G.Guardian.stored c.args.second.now in
    let mid : View = g.G.Guardian.stored c.plan_at-2.new.guardian in
    let new : View = g.G.Guardian.stored c.install.new.guardian in
    left_quiet f a b b e old (g.G.Guardian.is_planned c.plan_at-2.new.guardian) new None c.in_ok-keeps_second.keeps_second other
    (quiet_other (g.G.Guardian.is_planned c.plan_at.new.guardian) (g.G.Guardian.is_planned c.plan_at-2.new.guardian) f a b a b e c.in_ok-keeps_first.keeps_first c.in_ok-keeps_second.keeps_second (sym (c.may_fail_at.ensures a stood) ∙ c.if-may_fail_at.true) apart one other)
    (stays_then old mid new c.plan_at-2.ensures.store c.install.ensures.store)

pub returns-in_ok-number-2-clause-first_store : goal.returns-in_ok-number-2-clause-first_store
returns-in_ok-number-2-clause-first_store g c = λ f a b here.
    let e : Event = c.args.event.now in
    let to_first : Brings f a b e a c.in_ok-keeps_first.keeps_first c.brought_to.new.message =
    c.in_ok-keeps_first.ensures f a b a here.lent here.lent.first (first_one a b) here.lent.opening.first here.answered in
    let one : Plans (g.G.Guardian.is_planned c.plan_at.new.guardian) f a b e a c.in_ok-keeps_first.keeps_first = c.in_ok-plan_at.ensures.planned f a b a (g.met.R.Forest.is_one c.plan_there.new.forest f (c.plan_there.ensures.same f here.lent.forest)) here.lent.first to_first in
    let stood = c.plan_at.ensures.same a here.lent.first in
    let old : View = g.G.Guardian.stored c.args.first.now in
    let mid : View = g.G.Guardian.stored c.plan_at.new.guardian in
    let new : View = g.G.Guardian.stored c.install-else-may_fail_at.new.guardian in
    left_quiet f a b a e old (g.G.Guardian.is_planned c.plan_at.new.guardian) new None c.in_ok-keeps_first.keeps_first one
    (quiet_first e.step a.number c.in_ok-keeps_first.keeps_first (sym (c.may_fail_at.ensures a stood) ∙ c.if-may_fail_at.false))
    (stays_then old mid new c.plan_at.ensures.store c.install-else-may_fail_at.ensures.store)

pub returns-in_ok-number-2-clause-second_store : goal.returns-in_ok-number-2-clause-second_store
returns-in_ok-number-2-clause-second_store g c = λ f a b here.
    let e : Event = c.args.event.now in
    let some = c.requires.answered in
    let apart : (a.number == b.number) ≡ false =
    differ_as (g.G.Guardian.stands c.args.first.now) (g.G.Guardian.stands c.args.second.now) some.1 some.2 a b c.number.result c.number-2.result
    c.number.ensures.number c.number-2.ensures.number some.3.lent.first some.3.lent.second here.lent.first here.lent.second some.4 in
    let to_second : Brings f a b e b c.in_ok-keeps_second.keeps_second c.brought_to-2.new.message =
    c.in_ok-keeps_second.ensures f a b b here.lent here.lent.second (second_one a b apart) here.lent.opening.second here.answered in
    let other : Plans (g.G.Guardian.is_planned c.plan_at-2.new.guardian) f a b e b c.in_ok-keeps_second.keeps_second = c.in_ok-plan_at-2.ensures.planned f a b b (g.met.R.Forest.is_one c.plan_there.new.forest f (c.plan_there.ensures.same f here.lent.forest)) here.lent.second to_second in
    let stood_also = c.plan_at-2.ensures.same b here.lent.second in
    let old : View = g.G.Guardian.stored c.args.second.now in
    let mid : View = g.G.Guardian.stored c.plan_at-2.new.guardian in
    let new : View = g.G.Guardian.stored c.carry_out-else-may_fail_at.new.guardian in
    left_carried f a b b e old (g.G.Guardian.stands c.plan_at-2.new.guardian) (g.G.Guardian.is_planned c.plan_at-2.new.guardian) mid new None c.in_ok-keeps_second.keeps_second stood_also c.plan_at-2.ensures.store other
    c.in_ok-number-2.ensures.store

pub operate-requires-clause-answered : goal.operate-requires-clause-answered
operate-requires-clause-answered g c =
    let f : ForestState = c.requires.answered.0 in
    let a : GuardianState = c.requires.answered.1 in
    let b : GuardianState = c.requires.answered.2 in
    let here = c.requires.answered.3 in
    (f, a, b, a, record { forest = here.lent.forest; here = here.lent.first; lent = first_one a b; opening = here.lent.opening.first; answered = here.answered })

pub returns-then-is_named-clause-done : goal.returns-then-is_named-clause-done
returns-then-is_named-clause-done g c = λ f a b here.
    let e : Event = c.args.event.now in
    let some = c.requires.answered in
    let apart : (a.number == b.number) ≡ false =
    differ_as (g.G.Guardian.stands c.args.first.now) (g.G.Guardian.stands c.args.second.now) some.1 some.2 a b c.number.result c.number-2.result
    c.number.ensures.number c.number-2.ensures.number some.3.lent.first some.3.lent.second here.lent.first here.lent.second some.4 in
    let is : is_operation e.step ≡ true = ap is_operation (step_is c.event.view_is) ∙ sym c.is_operation.ensures ∙ c.if-is_operation.true in
    let named : names_guardian e.step (events_there f.registry) a.number ≡ true =
    sym (is_as_named c.requires.named f here.lent.forest _ _ c.is_named.ensures
    ∙ ap (λ k. names_guardian e.step (events_there f.registry) k) (c.number-then-is_operation.ensures.number a here.lent.first)) ∙ c.if-is_named.true in
    let beside : IsLentAt (g.R.Forest.stands c.args.forest.now) (g.G.Guardian.stands c.args.second.now) f a b e b =
    record { forest = here.lent.forest; here = here.lent.second; lent = second_one a b apart; opening = here.lent.opening.second; answered = here.answered } in
    record {
      forest = forest_stays f a b e here.answered is (g.R.Forest.stands c.args.forest.now) c.in_ok-operate.field-0 here.lent.forest;
      first =
          c.in_ok-operate.ensures.kept f a b a
          (record { forest = here.lent.forest; here = here.lent.first; lent = first_one a b; opening = here.lent.opening.first; answered = here.answered });
      second = passed_at beside is c.in_ok-operate.field-0 (one_named e.step (events_there f.registry) a.number b.number is named apart);
    }

pub returns-then-is_operation-clause-done : goal.returns-then-is_operation-clause-done
returns-then-is_operation-clause-done g c = λ f a b here.
    let e : Event = c.args.event.now in
    let some = c.requires.answered in
    let apart : (a.number == b.number) ≡ false =
    differ_as (g.G.Guardian.stands c.args.first.now) (g.G.Guardian.stands c.args.second.now) some.1 some.2 a b c.number.result c.number-2.result
    c.number.ensures.number c.number-2.ensures.number some.3.lent.first some.3.lent.second here.lent.first here.lent.second some.4 in
    let is : is_operation e.step ≡ true = ap is_operation (step_is c.event.view_is) ∙ sym c.is_operation.ensures ∙ c.if-is_operation.true in
    let other : names_guardian e.step (events_there f.registry) a.number ≡ false =
    sym (is_as_named c.requires.named f here.lent.forest _ _ c.is_named.ensures
    ∙ ap (λ k. names_guardian e.step (events_there f.registry) k) (c.number-then-is_operation.ensures.number a here.lent.first)) ∙ c.if-is_named.false in
    let beside : IsLentAt (g.R.Forest.stands c.args.forest.now) (g.G.Guardian.stands c.args.first.now) f a b e a =
    record { forest = here.lent.forest; here = here.lent.first; lent = first_one a b; opening = here.lent.opening.first; answered = here.answered } in
    record {
      forest = forest_stays f a b e here.answered is (g.R.Forest.stands c.args.forest.now) c.in_ok-operate-2.field-0 here.lent.forest;
      first = passed_at beside is c.in_ok-operate-2.field-0 other;
      second =
          c.in_ok-operate-2.ensures.kept f a b b
          (record { forest = here.lent.forest; here = here.lent.second; lent = second_one a b apart; opening = here.lent.opening.second; answered = here.answered });
    }

pub returns-in_ok-number-clause-done : goal.returns-in_ok-number-clause-done
returns-in_ok-number-clause-done g c = λ f a b here.
    let e : Event = c.args.event.now in
    let some = c.requires.answered in
    let apart : (a.number == b.number) ≡ false =
    differ_as (g.G.Guardian.stands c.args.first.now) (g.G.Guardian.stands c.args.second.now) some.1 some.2 a b c.number.result c.number-2.result
    c.number.ensures.number c.number-2.ensures.number some.3.lent.first some.3.lent.second here.lent.first here.lent.second some.4 in
    let to_first : Brings f a b e a c.in_ok-keeps_first.keeps_first c.brought_to.new.message =
    c.in_ok-keeps_first.ensures f a b a here.lent here.lent.first (first_one a b) here.lent.opening.first here.answered in
    let one : Plans (g.G.Guardian.is_planned c.plan_at.new.guardian) f a b e a c.in_ok-keeps_first.keeps_first = c.in_ok-plan_at.ensures.planned f a b a (g.met.R.Forest.is_one c.plan_there.new.forest f (c.plan_there.ensures.same f here.lent.forest)) here.lent.first to_first in
    let stood = c.plan_at.ensures.same a here.lent.first in
    let to_second : Brings f a b e b c.in_ok-keeps_second.keeps_second c.brought_to-2.new.message =
    c.in_ok-keeps_second.ensures f a b b here.lent here.lent.second (second_one a b apart) here.lent.opening.second here.answered in
    let other : Plans (g.G.Guardian.is_planned c.plan_at-2.new.guardian) f a b e b c.in_ok-keeps_second.keeps_second = c.in_ok-plan_at-2.ensures.planned f a b b (g.met.R.Forest.is_one c.plan_there.new.forest f (c.plan_there.ensures.same f here.lent.forest)) here.lent.second to_second in
    let stood_also = c.plan_at-2.ensures.same b here.lent.second in
    let n = c.in_ok-number.number in
    record {
      forest =
          left_there (g.R.Forest.stands c.plan_there.new.forest) (g.R.Forest.stands c.install_there.new.forest) (g.R.Forest.is_planned c.plan_there.new.forest) f a b e
          c.life_of_new-life.result n
          (c.life_of_new-life.ensures f a b here.lent) (c.plan_there.ensures.same f here.lent.forest)
          (c.in_ok-plan_there.ensures.planned f here.lent.forest (lent_two a b, here.answered.answer)) c.install_there.ensures.kept
          c.install_there.ensures.same;
      first =
          left_at (g.G.Guardian.stands c.plan_at.new.guardian) (g.G.Guardian.stands c.carry_out.new.guardian) (g.G.Guardian.is_planned c.plan_at.new.guardian) f a b a e n c.in_ok-keeps_first.keeps_first here.lent.opening.first
          (first_lent a b) stood one c.in_ok-number.ensures.kept;
      second =
          left_at (g.G.Guardian.stands c.plan_at-2.new.guardian) (g.G.Guardian.stands c.install.new.guardian) (g.G.Guardian.is_planned c.plan_at-2.new.guardian) f a b b e n c.in_ok-keeps_second.keeps_second here.lent.opening.second
          (second_lent a b apart) stood_also other c.install.ensures.kept;
    }

pub returns-in_ok-number-2-clause-done : goal.returns-in_ok-number-2-clause-done
returns-in_ok-number-2-clause-done g c = λ f a b here.
    let e : Event = c.args.event.now in
    let some = c.requires.answered in
    let apart : (a.number == b.number) ≡ false =
    differ_as (g.G.Guardian.stands c.args.first.now) (g.G.Guardian.stands c.args.second.now) some.1 some.2 a b c.number.result c.number-2.result
    c.number.ensures.number c.number-2.ensures.number some.3.lent.first some.3.lent.second here.lent.first here.lent.second some.4 in
    let to_first : Brings f a b e a c.in_ok-keeps_first.keeps_first c.brought_to.new.message =
    c.in_ok-keeps_first.ensures f a b a here.lent here.lent.first (first_one a b) here.lent.opening.first here.answered in
    let one : Plans (g.G.Guardian.is_planned c.plan_at.new.guardian) f a b e a c.in_ok-keeps_first.keeps_first = c.in_ok-plan_at.ensures.planned f a b a (g.met.R.Forest.is_one c.plan_there.new.forest f (c.plan_there.ensures.same f here.lent.forest)) here.lent.first to_first in
    let stood = c.plan_at.ensures.same a here.lent.first in
    let to_second : Brings f a b e b c.in_ok-keeps_second.keeps_second c.brought_to-2.new.message =
    c.in_ok-keeps_second.ensures f a b b here.lent here.lent.second (second_one a b apart) here.lent.opening.second here.answered in
    let other : Plans (g.G.Guardian.is_planned c.plan_at-2.new.guardian) f a b e b c.in_ok-keeps_second.keeps_second = c.in_ok-plan_at-2.ensures.planned f a b b (g.met.R.Forest.is_one c.plan_there.new.forest f (c.plan_there.ensures.same f here.lent.forest)) here.lent.second to_second in
    let stood_also = c.plan_at-2.ensures.same b here.lent.second in
    let n = c.in_ok-number-2.number in
    record {
      forest =
          left_there (g.R.Forest.stands c.plan_there.new.forest) (g.R.Forest.stands c.install_there-else-may_fail_at.new.forest) (g.R.Forest.is_planned c.plan_there.new.forest) f a b e
          c.life_of_new-life.result n
          (c.life_of_new-life.ensures f a b here.lent) (c.plan_there.ensures.same f here.lent.forest)
          (c.in_ok-plan_there.ensures.planned f here.lent.forest (lent_two a b, here.answered.answer)) c.install_there-else-may_fail_at.ensures.kept
          c.install_there-else-may_fail_at.ensures.same;
      first =
          left_at (g.G.Guardian.stands c.plan_at.new.guardian) (g.G.Guardian.stands c.install-else-may_fail_at.new.guardian) (g.G.Guardian.is_planned c.plan_at.new.guardian) f a b a e n c.in_ok-keeps_first.keeps_first here.lent.opening.first
          (first_lent a b) stood one c.install-else-may_fail_at.ensures.kept;
      second =
          left_at (g.G.Guardian.stands c.plan_at-2.new.guardian) (g.G.Guardian.stands c.carry_out-else-may_fail_at.new.guardian) (g.G.Guardian.is_planned c.plan_at-2.new.guardian) f a b b e n c.in_ok-keeps_second.keeps_second here.lent.opening.second
          (second_lent a b apart) stood_also other c.in_ok-number-2.ensures.kept;
    }
