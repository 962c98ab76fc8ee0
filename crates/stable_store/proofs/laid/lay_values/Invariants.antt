use Rattle.std.proofs.Common.{◌≡◌, ◌++◌}
use Rattle.stable_store.specs.Stored.{values_of}
use Rattle.stable_store.proofs.laid.lay_values.Given as goal

-- what was put and what is left are all
abbrev pub invariant-loop-object : goal.invariant-loop-object
invariant-loop-object l = l.values.entries ++ values_of l.object-iterator ≡ values_of l.contents.entries
