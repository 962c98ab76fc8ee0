use Rattle.std.proofs.Common.{arith}
use Rattle.store_recovery.proofs.Fitting.{all_do, belong_more, one_does_not}
use Rattle.store_recovery.proofs.checking.all_belong.Goals as goal

pub loop-guardian-preserved : goal.loop-guardian-preserved
loop-guardian-preserved g c =
    belong_more g.S.Stable.seen c.args.setup.now c.args.stores.now c.loop-guardian.guardian c.index-stores-guardian.result c.store_belongs.result (omega arith)
    c.index-stores-guardian.is c.store_belongs.ensures (omega arith) c.if-not-store_belongs.false c.loop-guardian.invariant

pub returns-then-not-store_belongs : goal.returns-then-not-store_belongs
returns-then-not-store_belongs g c =
    one_does_not g.S.Stable.seen c.args.setup.now c.args.stores.now c.loop-guardian.guardian c.index-stores-guardian.result c.store_belongs.result (omega arith)
    c.index-stores-guardian.is c.store_belongs.ensures c.if-not-store_belongs.true c.loop-guardian.invariant

pub returns : goal.returns
returns g c = all_do g.S.Stable.seen c.args.setup.now c.args.stores.now c.loop-guardian.guardian (omega arith) c.loop-guardian.invariant
