use Rattle.std.proofs.Common.{◌≡◌, filter, map}
use Rattle.std.specs.Map.Iter.{deref_pair}
use Rattle.holders.specs.Held.{held_in}
use Rattle.version_stack.specs.Beside.{sum_if_any}
use Rattle.version_stack.proofs.deltas.many_left.Given as goal

-- those so far that stay are summed
abbrev pub invariant-loop-holder : goal.invariant-loop-holder
invariant-loop-holder g l = l.sum ≡ sum_if_any (filter (λ d. g.S.Survivors.stays l.survivors d.0) (held_in (map deref_pair l.yielded)))
