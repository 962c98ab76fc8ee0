use Rattle.std.proofs.Common.{arith}
use Rattle.store_recovery.specs.Faults.{refused_by}
use Rattle.store_recovery.proofs.InTurn.{all_read, none_read, one_read, one_refused, read_rest, same_refused}
use Rattle.store_recovery.proofs.Stops.{error_is}
use Rattle.store_recovery.proofs.calls.load_all.Goals as goal

pub loop-store-init : goal.loop-store-init
loop-store-init g c = none_read g.S.Stable.seen c.args.stores.now

pub returns-in_err-load-clause-same : goal.returns-in_err-load-clause-same
returns-in_err-load-clause-same g c =
    same_refused g.S.Stable.seen c.args.stores.now c.loop-store.stores c.loop-store.store-index c.store-item.result c.load.new.self (omega arith)
    c.loop-store.invariant c.in_err-load.ensures.makes.changes

pub returns-in_err-load-clause-called : goal.returns-in_err-load-clause-called
returns-in_err-load-clause-called g c =
    let fault = c.in_err-load.field-0.0 in
    one_refused g.S.Stable.seen c.args.stores.now c.loop-store.stores c.loop-store.store-index c.store-item.result c.load.new.self (omega arith)
    c.loop-store.invariant _ fault c.from_residual.result c.in_err-load.ensures.makes (error_is c.from_residual.result (refused_by fault) c.from_residual.ensures.1)

pub loop-store-preserved : goal.loop-store-preserved
loop-store-preserved g c =
    one_read g.S.Stable.seen c.args.stores.now c.loop-store.stores c.loop-store.store-index c.store-item.result c.load.new.self (omega arith)
    c.loop-store.invariant _ c.in_ok-load.field-0 c.in_ok-load.ensures.makes

pub returns-clause-called : goal.returns-clause-called
returns-clause-called g c = all_read g.S.Stable.seen c.args.stores.now c.loop-store.stores c.loop-store.store-index c.loop-store.invariant

pub returns-clause-rest : goal.returns-clause-rest
returns-clause-rest g c = read_rest g.S.Stable.seen c.args.stores.now c.loop-store.stores c.loop-store.store-index (omega arith) c.loop-store.invariant
