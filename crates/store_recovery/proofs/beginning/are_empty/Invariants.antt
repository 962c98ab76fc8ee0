use Rattle.std.proofs.Common.{take}
use Rattle.store_recovery.specs.Beginning.{AreEmpty}
use Rattle.store_recovery.proofs.beginning.are_empty.Given as goal

-- those before contain nothing
abbrev pub invariant-loop-store : goal.invariant-loop-store
invariant-loop-store g l = AreEmpty g.S.Stable.seen (take l.store-index l.stores)
