use Rattle.std.proofs.Common.{take, ◌≡◌}
use Rattle.store_recovery.specs.Opened.{first_number}
use Rattle.store_recovery.specs.Settling.{contents}
use Rattle.store_recovery.proofs.opening.first_number.Given as goal

abbrev pub invariant-loop-store : goal.invariant-loop-store
invariant-loop-store g l = l.first ≡ first_number (contents g.S.Stable.seen (take l.store-index l.stores))
