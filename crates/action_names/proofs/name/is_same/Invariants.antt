use Rattle.std.proofs.Common.{◌≡◌, ℕ, ◌<◌, ◌≤◌, length, get_or}
use Rattle.action_names.proofs.name.is_same.Given as goal

-- the numbers from `left` on are the same
abbrev pub invariant-loop-left : goal.invariant-loop-left
invariant-loop-left l = (l.left ≤ length l.own) × ((k : ℕ) → l.left ≤ k → k < length l.own → get_or l.own k 0 ≡ get_or l.others k 0)

abbrev pub decreases-loop-left : goal.decreases-loop-left
decreases-loop-left l = l.left
