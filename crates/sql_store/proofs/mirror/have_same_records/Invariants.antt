use Rattle.std.proofs.Common.{◌≡◌}
use Rattle.stable_store.specs.Held.{records_of}
use Rattle.sql_store.proofs.mirror.have_same_records.Given as goal

-- the records are the same if what is left of them is
abbrev pub invariant-loop-top : goal.invariant-loop-top
invariant-loop-top l = records_of l.top-iterator ≡ records_of l.others → records_of l.a.entries ≡ records_of l.b.entries
