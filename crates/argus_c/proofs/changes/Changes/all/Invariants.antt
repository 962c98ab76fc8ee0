use Rattle.std.proofs.Common.{◌≡◌, ◌<◌, ◌+◌, ℕ, nat_cmp, true}
use Rattle.std.specs.BTreeSet.{contains}
use Rattle.argus_c.proofs.changes.Changes.all.Given as goal

-- the first are marked
abbrev pub invariant-loop-index : goal.invariant-loop-index
invariant-loop-index l = (k : ℕ) → k < l.index → contains nat_cmp l.changed (k + 1) ≡ true
