use Rattle.std.proofs.Common.{◌≡◌, ◌++◌}
use Rattle.stable_store.specs.Held.{records_of}
use Rattle.stable_store.proofs.kept.copy_records.Given as goal

-- what was copied and what is left are equal to all
abbrev pub invariant-loop-top : goal.invariant-loop-top
invariant-loop-top l = records_of l.copy.entries ++ records_of l.top-iterator ≡ records_of l.records.entries
