use Rattle.std.proofs.Common.{arith, ap, sym, true≢false, Err, ◌∙◌}
use Rattle.store_recovery.specs.Faults.{refused_by}
use Rattle.store_recovery.proofs.InTurn.{all_counted, all_more, all_rest, bases_refused, bump_refused, bumped_holds, bumped_refused, never_ours, none_counted, none_refused, one_counted, still_none}
use Rattle.store_recovery.proofs.Stops.{error_is}
use Rattle.store_recovery.proofs.calls.count_all.Goals as goal

pub loop-store-init : goal.loop-store-init
loop-store-init g c = none_counted g.S.Stable.seen c.args.stores.now

pub returns-in_err-bump-clause-bases : goal.returns-in_err-bump-clause-bases
returns-in_err-bump-clause-bases g c =
    bases_refused g.S.Stable.seen c.args.stores.now c.loop-store.stores c.loop-store.store-index c.store-item.result c.bump.new.self (omega arith)
    c.loop-store.invariant c.in_err-bump.ensures.makes.changes

pub returns-in_err-bump-clause-called : goal.returns-in_err-bump-clause-called
returns-in_err-bump-clause-called g c =
    let fault = c.in_err-bump.field-0.0 in
    bump_refused g.S.Stable.seen c.args.stores.now c.loop-store.stores c.loop-store.store-index c.store-item.result c.bump.new.self (omega arith)
    c.loop-store.invariant _ fault c.from_residual.result c.in_err-bump.ensures.makes (error_is c.from_residual.result (refused_by fault) c.from_residual.ensures.1)

pub returns-in_err-bump-clause-ours : goal.returns-in_err-bump-clause-ours
returns-in_err-bump-clause-ours g c =
    let fault = c.in_err-bump.field-0.0 in
    never_ours fault c.from_residual.result (error_is c.from_residual.result (refused_by fault) c.from_residual.ensures.1)
    (λ is. true≢false (sym (bumped_holds g.S.Stable.seen c.args.stores.now c.loop-store.stores c.loop-store.store-index c.store-item.result c.bump.new.self
    (omega arith) c.loop-store.invariant c.requires) ∙ c.in_err-bump.ensures.ours (ap (λ e. Err e) is)))

pub loop-store-preserved : goal.loop-store-preserved
loop-store-preserved g c =
    one_counted g.S.Stable.seen c.args.stores.now c.loop-store.stores c.loop-store.store-index c.store-item.result c.bump.new.self (omega arith)
    c.loop-store.invariant _ c.in_ok-bump.field-0 c.in_ok-bump.ensures.makes

pub returns-clause-called : goal.returns-clause-called
returns-clause-called g c = all_counted g.S.Stable.seen c.args.stores.now c.loop-store.stores c.loop-store.store-index c.loop-store.invariant

pub returns-clause-counts : goal.returns-clause-counts
returns-clause-counts g c = all_more g.S.Stable.seen c.args.stores.now c.loop-store.stores c.loop-store.store-index (omega arith) c.loop-store.invariant

pub returns-clause-rest : goal.returns-clause-rest
returns-clause-rest g c = all_rest g.S.Stable.seen c.args.stores.now c.loop-store.stores c.loop-store.store-index (omega arith) c.loop-store.invariant

pub returns-clause-none : goal.returns-clause-none
returns-clause-none g c = still_none g.S.Stable.seen c.args.stores.now c.loop-store.stores c.loop-store.store-index c.loop-store.invariant

pub returns-in_err-bump-clause-none : goal.returns-in_err-bump-clause-none
returns-in_err-bump-clause-none g c =
    none_refused g.S.Stable.seen c.args.stores.now c.loop-store.stores c.loop-store.store-index c.store-item.result c.bump.new.self (omega arith)
    c.loop-store.invariant c.in_err-bump.ensures.makes.changes

pub returns-clause-bumped : goal.returns-clause-bumped
returns-clause-bumped g c = c.loop-store.invariant.bumped

pub returns-in_err-bump-clause-bumped : goal.returns-in_err-bump-clause-bumped
returns-in_err-bump-clause-bumped g c =
    bumped_refused g.S.Stable.seen c.args.stores.now c.loop-store.stores c.loop-store.store-index c.store-item.result c.bump.new.self (omega arith)
    c.loop-store.invariant c.in_err-bump.ensures.makes.changes
