use Rattle.std.proofs.Common.{◌≡◌, ◌≤◌, ◌<◌, ◌^◌, ◌++◌, length, decimal}
use Rattle.action_names.proofs.name.with_digits.Given as goal

-- the digits so far are those of the number so far
abbrev pub invariant-loop-left : goal.invariant-loop-left
invariant-loop-left l = record { positive : 1 ≤ l.number; small : l.number < 2 ^ 32; so_far : decimal l.fn.number ++ l.bytes ≡ decimal l.number ++ l.left }

abbrev pub decreases-loop-left : goal.decreases-loop-left
decreases-loop-left l = length l.left
