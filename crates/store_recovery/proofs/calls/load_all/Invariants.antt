use Rattle.store_recovery.proofs.InTurn.{AreRead}
use Rattle.store_recovery.proofs.calls.load_all.Given as goal

abbrev pub invariant-loop-store : goal.invariant-loop-store
invariant-loop-store g l = AreRead g.S.Stable.seen l.fn.stores l.stores l.store-index
