use Rattle.std.proofs.Common.{max, rules, ◌≡◌, ◌∙◌}
use Rattle.store_recovery.proofs.Said.{greater}
use Rattle.store_recovery.proofs.opening.first_number.Goals as goal

pub loop-store-preserved : goal.loop-store-preserved
loop-store-preserved g c =
    let kept = c.kept_in.result.now in
    let is : c.max-first.result ≡ max c.loop-store.first kept.next_top = search rules in
    is ∙ greater g.S.Stable.seen c.args.stores.now c.loop-store.store-index c.store-item.result c.loop-store-test.true c.store-item.is kept c.loop-store.first
    c.kept_in.ensures c.loop-store.invariant
