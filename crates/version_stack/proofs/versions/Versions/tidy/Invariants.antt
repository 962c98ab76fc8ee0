use Rattle.std.proofs.Common.{◌≡◌}
use Rattle.version_stack.proofs.versions.Versions.tidy.Given as goal

-- the stack stays
abbrev pub invariant-loop-place : goal.invariant-loop-place
invariant-loop-place g l = l.self ≡ l.fn.self

abbrev pub decreases-loop-place : goal.decreases-loop-place
decreases-loop-place g l = l.place
