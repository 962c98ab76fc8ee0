use Rattle.store_recovery.proofs.InTurn.{AreCounted}
use Rattle.store_recovery.proofs.calls.count_all.Given as goal

abbrev pub invariant-loop-store : goal.invariant-loop-store
invariant-loop-store g l = AreCounted g.S.Stable.seen l.fn.stores l.stores l.store-index
