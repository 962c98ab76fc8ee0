use Rattle.std.proofs.Common.{false, take, ℕ, ◌+◌, ◌<◌, ◌≡◌}
use Rattle.action_names.specs.Names.{has_name}
use Rattle.orphans.specs.Logs.{known_names}
use Rattle.orphans.proofs.lists.Lists.knows_abort_above.Given as goal

-- none of the ancestors so far is known to have aborted
abbrev pub invariant-loop-depth : goal.invariant-loop-depth
invariant-loop-depth l = (k : ℕ) → k < l.depth → has_name (known_names l.self.aborts) (take (k + 1) l.path) ≡ false
