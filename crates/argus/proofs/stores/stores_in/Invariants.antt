use Rattle.std.proofs.Common.{◌≡◌, length}
use Rattle.argus.proofs.stores.stores_in.Given as goal

-- the stores of the first guardians
abbrev pub invariant-loop-index : goal.invariant-loop-index
invariant-loop-index g l = length l.stores.items ≡ l.index
