use Rattle.std.proofs.Common.{take}
use Rattle.std.specs.List.{AllByRecursion}
use Rattle.store_recovery.specs.Settling.{contents}
use Rattle.store_recovery.specs.Steps.{HasNoRecord}
use Rattle.store_recovery.proofs.settling.first_left.Given as goal

-- those before have no record
abbrev pub invariant-loop-place : goal.invariant-loop-place
invariant-loop-place g l = AllByRecursion HasNoRecord (contents g.S.Stable.seen (take l.place l.stores))
