use Rattle.store_recovery.proofs.Reading.{left_at}
use Rattle.store_recovery.proofs.settling.first_left.Goals as goal

pub returns-in-Some : goal.returns-in-Some
returns-in-Some g c =
    left_at g.S.Stable.seen c.args.stores.now c.loop-place.place c.in-Some.top c.in-Some.home c.index-stores-place.result c.loop-place-test.true
    c.index-stores-place.is c.loop-place.invariant c.in-Some.ensures
