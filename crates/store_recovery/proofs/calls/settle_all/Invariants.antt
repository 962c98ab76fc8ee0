use Rattle.store_recovery.specs.Settling.{contents}
use Rattle.store_recovery.proofs.InTurn.{AreSettled, records_left}
use Rattle.store_recovery.proofs.calls.settle_all.Given as goal

abbrev pub invariant-loop : goal.invariant-loop
invariant-loop g l = AreSettled g.S.Stable.seen l.fn.stores l.stores

-- each call that settles takes a record away
abbrev pub decreases-loop : goal.decreases-loop
decreases-loop g l = records_left (contents g.S.Stable.seen l.stores)
