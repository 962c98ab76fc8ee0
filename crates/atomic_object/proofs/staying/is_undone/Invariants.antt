use Rattle.std.proofs.Common.{false, take, ℕ, ◌+◌, ◌<◌, ◌≡◌}
use Rattle.object_laws.specs.OnceTold.{aborts_in}
use Rattle.atomic_object.proofs.staying.is_undone.Given as goal

-- none of the ancestors so far aborted
abbrev pub invariant-loop-depth : goal.invariant-loop-depth
invariant-loop-depth l = (k : ℕ) → k < l.depth → aborts_in l.outcomes (take (k + 1) l.path) ≡ false
