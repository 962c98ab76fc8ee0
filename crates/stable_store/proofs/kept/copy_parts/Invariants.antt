use Rattle.std.proofs.Common.{◌≡◌, ◌++◌}
use Rattle.stable_store.proofs.kept.copy_parts.Given as goal

-- what was copied and what is left are all
abbrev pub invariant-loop-object : goal.invariant-loop-object
invariant-loop-object l = l.copy.entries ++ l.object-iterator ≡ l.parts.entries
