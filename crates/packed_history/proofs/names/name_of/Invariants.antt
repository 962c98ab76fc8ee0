use Rattle.std.proofs.Common.{◌≡◌, ◌++◌, drop}
use Rattle.packed_history.proofs.names.name_of.Given as goal

abbrev pub invariant-loop-number : goal.invariant-loop-number
invariant-loop-number l = l.name ++ drop l.number-index l.rest ≡ l.numbers
