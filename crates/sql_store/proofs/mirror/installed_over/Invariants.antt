use Rattle.std.proofs.Common.{◌≡◌, ◌++◌}
use Rattle.stable_store.specs.Held.{parts_in}
use Rattle.sql_store.specs.Mirror.{over_each}
use Rattle.sql_store.proofs.mirror.installed_over.Given as goal

-- what was laid over the base and what is left are all
abbrev pub invariant-loop-object : goal.invariant-loop-object
invariant-loop-object l = l.installed.entries ++ over_each l.object-iterator (parts_in l.base) ≡ over_each l.parts.entries (parts_in l.base)
