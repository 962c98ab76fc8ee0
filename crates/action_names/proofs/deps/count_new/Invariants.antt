use Rattle.std.proofs.Common.{◌≡◌, ◌+◌, drop}
use Rattle.action_names.specs.Deps.{count_new}
use Rattle.action_names.proofs.deps.count_new.Given as goal

-- those so far and those that are left are all
abbrev pub invariant-loop-at : goal.invariant-loop-at
invariant-loop-at l = l.new + count_new l.fn.known (drop l.at l.fn.entries) ≡ count_new l.fn.known l.fn.entries
