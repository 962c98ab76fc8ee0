use Rattle.std.proofs.Common.{◌≡◌}
use Rattle.sql_store.proofs.mirror.have_same_members.Given as goal

-- the members are the same if those that are left are
abbrev pub invariant-loop-top : goal.invariant-loop-top
invariant-loop-top l = l.top-iterator ≡ l.others → l.a.keys ≡ l.b.keys
