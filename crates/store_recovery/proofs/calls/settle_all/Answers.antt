use Rattle.std.proofs.Common.{ap, subst, sym, true≢false, Err, Ok, ◌∙◌, ◌≢◌}
use Rattle.store_recovery.specs.Steps.{SettlesOne}
use Rattle.store_recovery.specs.declared.refused.Refused.TheVariants.{NotOurs}
use Rattle.store_recovery.proofs.InTurn.{all_settled, error_by, fewer, hold_on, none_settled, one_settled, part_settled, settle_refused}
use Rattle.store_recovery.proofs.Promised.{counts_none}
use Rattle.store_recovery.proofs.Stops.{error_is}
use Rattle.store_recovery.proofs.calls.settle_all.Goals as goal
use Rattle.store_recovery.proofs.calls.settle_all.Goals.{After-from_residual}

pub loop-init : goal.loop-init
loop-init g c = none_settled g.S.Stable.seen c.args.stores.now

pub loop-preserved : goal.loop-preserved
loop-preserved g c =
    one_settled g.S.Stable.seen g.S.Stable.may_fail c.args.stores.now c.loop.stores c.settle.new.stores c.in_ok-settle.field-0 c.loop.invariant
    c.in_ok-settle.ensures.settles c.in_ok-settle.ensures.settled c.in_ok-settle.ensures.kept

pub loop-smaller : goal.loop-smaller
loop-smaller g c =
    fewer g.S.Stable.seen g.S.Stable.may_fail c.loop.stores c.settle.new.stores
    (subst (λ b. SettlesOne g.S.Stable.seen g.S.Stable.may_fail c.loop.stores c.settle.new.stores (Ok b)) c.if-branch.true c.in_ok-settle.ensures.settles)

pub returns-clause-called : goal.returns-clause-called
returns-clause-called g c =
    all_settled g.S.Stable.seen c.args.stores.now c.settle.new.stores
    (one_settled g.S.Stable.seen g.S.Stable.may_fail c.args.stores.now c.loop.stores c.settle.new.stores c.in_ok-settle.field-0 c.loop.invariant
    c.in_ok-settle.ensures.settles c.in_ok-settle.ensures.settled c.in_ok-settle.ensures.kept)

pub returns-clause-in_part : goal.returns-clause-in_part
returns-clause-in_part g c =
    part_settled g.S.Stable.seen g.S.Stable.may_fail c.args.stores.now c.loop.stores c.settle.new.stores (Ok c.in_ok-settle.field-0) c.loop.invariant
    c.in_ok-settle.ensures.settles

pub returns-in_err-settle-clause-in_part : goal.returns-in_err-settle-clause-in_part
returns-in_err-settle-clause-in_part g c =
    part_settled g.S.Stable.seen g.S.Stable.may_fail c.args.stores.now c.loop.stores c.settle.new.stores (Err c.in_err-settle.field-0.0) c.loop.invariant
    c.in_err-settle.ensures.settles

-- each store holds a content
never_ours : (g : _) (c : After-from_residual g) → c.in_err-settle.field-0.0 ≢ NotOurs
never_ours g c = λ is.
    absurd (true≢false (sym (hold_on g.S.Stable.seen c.args.stores.now c.loop.stores c.loop.invariant.kept ∙ c.requires)
    ∙ c.in_err-settle.ensures.ours.0 (ap (λ e. Err e) is)))

pub returns-in_err-settle-clause-called : goal.returns-in_err-settle-clause-called
returns-in_err-settle-clause-called g c =
    let why = c.in_err-settle.field-0.0 in
    settle_refused g.S.Stable.seen c.args.stores.now c.loop.stores c.settle.new.stores why c.from_residual.result c.loop.invariant c.in_err-settle.ensures.kept
    c.in_err-settle.ensures.stops (λ is. c.in_err-settle.ensures.counted (ap (λ e. Err e) is))
    (counts_none g.S.Stable.seen g.S.Stable.may_fail c.loop.stores c.settle.new.stores why c.in_err-settle.ensures.settles) (never_ours g c)
    (error_is c.from_residual.result why c.from_residual.ensures.1)

pub returns-in_err-settle-clause-ours : goal.returns-in_err-settle-clause-ours
returns-in_err-settle-clause-ours g c =
    error_by c.from_residual.result c.in_err-settle.field-0.0 (λ why. why ≢ NotOurs) (error_is c.from_residual.result c.in_err-settle.field-0.0 c.from_residual.ensures.1)
    (never_ours g c)
