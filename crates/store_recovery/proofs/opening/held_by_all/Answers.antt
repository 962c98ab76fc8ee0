use Rattle.store_recovery.proofs.Said.{says_more}
use Rattle.store_recovery.proofs.opening.held_by_all.Goals as goal

pub loop-store-preserved : goal.loop-store-preserved
loop-store-preserved g c =
    says_more g.S.Stable.seen c.args.stores.now c.loop-store.store-index c.store-item.result c.loop-store-test.true c.store-item.is c.kept_in.result.now
    c.loop-store.held.items c.push.new.self.items c.in_ok-held_by.field-0 c.kept_in.ensures c.in_ok-held_by.ensures c.in_ok-push.ensures.items c.loop-store.invariant
