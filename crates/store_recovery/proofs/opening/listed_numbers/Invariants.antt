use Rattle.std.proofs.Common.{◌≡◌, ◌++◌}
use Rattle.store_recovery.proofs.opening.listed_numbers.Given as goal

-- what was listed and what is left are all
abbrev pub invariant-loop-number : goal.invariant-loop-number
invariant-loop-number l = l.listed.items ++ l.number-iterator ≡ l.numbers.keys
