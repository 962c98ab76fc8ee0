use Rattle.std.proofs.Common.{◌≡◌, ◌++◌}
use Rattle.store_recovery.proofs.opening.listed_parts.Given as goal

-- what was listed and what is left are all
abbrev pub invariant-loop-object : goal.invariant-loop-object
invariant-loop-object l = l.listed.items ++ l.object-iterator ≡ l.parts.entries
