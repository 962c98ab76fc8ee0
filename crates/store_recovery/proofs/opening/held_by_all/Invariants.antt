use Rattle.std.proofs.Common.{take}
use Rattle.std.specs.List.{AllZip}
use Rattle.store_recovery.specs.Saying.{Says}
use Rattle.store_recovery.specs.Settling.{contents}
use Rattle.store_recovery.proofs.opening.held_by_all.Given as goal

abbrev pub invariant-loop-store : goal.invariant-loop-store
invariant-loop-store g l = AllZip Says (contents g.S.Stable.seen (take l.store-index l.stores)) l.held.items
