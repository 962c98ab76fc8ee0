use Rattle.std.proofs.Common.{ap, Err}
use Rattle.store_recovery.proofs.Promised.{answers, counts, keep, keep_themselves, same_bases, same_settled, stops}
use Rattle.store_recovery.proofs.Stops.{error_is, stay_so}
use Rattle.store_recovery.specs.Faults.{refused_by}
use Rattle.store_recovery.specs.Steps.{SettlesOne}
use Rattle.store_recovery.proofs.settling.settle.Goals as goal
use Rattle.store_recovery.proofs.settling.settle.Goals.{After-from_residual}

pub returns-then-not-all_hold-clause-kept : goal.returns-then-not-all_hold-clause-kept
returns-then-not-all_hold-clause-kept g c = keep_themselves g.S.Stable.seen c.args.stores.now

pub returns-then-not-all_hold-clause-stops : goal.returns-then-not-all_hold-clause-stops
returns-then-not-all_hold-clause-stops g c = stay_so g.S.Stable.seen c.args.stores.now

pub returns-in_default-clause-kept : goal.returns-in_default-clause-kept
returns-in_default-clause-kept g c = keep_themselves g.S.Stable.seen c.args.stores.now

pub returns-in_default-clause-stops : goal.returns-in_default-clause-stops
returns-in_default-clause-stops g c = stay_so g.S.Stable.seen c.args.stores.now

pub returns-clause-settled : goal.returns-clause-settled
returns-clause-settled g c = same_settled g.S.Stable.seen g.S.Stable.may_fail c.args.stores.now _ _ c.settle_at.ensures.settles

pub returns-clause-bases : goal.returns-clause-bases
returns-clause-bases g c = same_bases g.S.Stable.seen g.S.Stable.may_fail c.args.stores.now _ _ c.settle_at.ensures.settles

pub returns-clause-kept : goal.returns-clause-kept
returns-clause-kept g c = keep g.S.Stable.seen g.S.Stable.may_fail c.args.stores.now _ _ c.settle_at.ensures.settles

pub returns-clause-stops : goal.returns-clause-stops
returns-clause-stops g c = stops g.S.Stable.seen g.S.Stable.may_fail c.args.stores.now _ _ c.settle_at.ensures.settles

pub returns-in_err-settle_at-clause-settled : goal.returns-in_err-settle_at-clause-settled
returns-in_err-settle_at-clause-settled g c = same_settled g.S.Stable.seen g.S.Stable.may_fail c.args.stores.now _ _ c.settle_at.ensures.settles

pub returns-in_err-settle_at-clause-bases : goal.returns-in_err-settle_at-clause-bases
returns-in_err-settle_at-clause-bases g c = same_bases g.S.Stable.seen g.S.Stable.may_fail c.args.stores.now _ _ c.settle_at.ensures.settles

pub returns-in_err-settle_at-clause-kept : goal.returns-in_err-settle_at-clause-kept
returns-in_err-settle_at-clause-kept g c = keep g.S.Stable.seen g.S.Stable.may_fail c.args.stores.now _ _ c.settle_at.ensures.settles

pub returns-in_err-settle_at-clause-stops : goal.returns-in_err-settle_at-clause-stops
returns-in_err-settle_at-clause-stops g c = stops g.S.Stable.seen g.S.Stable.may_fail c.args.stores.now _ _ c.settle_at.ensures.settles

-- what the call answers for the store's error
answered : (g : _) (c : After-from_residual g) → SettlesOne g.S.Stable.seen g.S.Stable.may_fail c.args.stores.now c.settle_at.new.stores c.from_residual.result
answered g c =
    let fault = c.in_err-settle_at.field-0.0 in
    answers g.S.Stable.seen g.S.Stable.may_fail c.args.stores.now c.settle_at.new.stores fault c.from_residual.result c.in_err-settle_at.ensures.settles
    (λ is. c.in_err-settle_at.ensures.ours (ap (λ e. Err e) is)) (error_is c.from_residual.result (refused_by fault) c.from_residual.ensures.1)

pub returns-in_err-settle_at-clause-settles : goal.returns-in_err-settle_at-clause-settles
returns-in_err-settle_at-clause-settles g c = answered g c

pub returns-in_err-settle_at-clause-counted : goal.returns-in_err-settle_at-clause-counted
returns-in_err-settle_at-clause-counted g c =
    λ is. counts g.S.Stable.seen g.S.Stable.may_fail c.args.stores.now c.settle_at.new.stores c.from_residual.result (answered g c) is
