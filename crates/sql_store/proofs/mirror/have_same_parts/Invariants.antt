use Rattle.std.proofs.Common.{◌≡◌}
use Rattle.sql_store.proofs.mirror.have_same_parts.Given as goal

-- the maps are the same if what is left of them is
abbrev pub invariant-loop-object : goal.invariant-loop-object
invariant-loop-object l = l.object-iterator ≡ l.others → l.a.entries ≡ l.b.entries
