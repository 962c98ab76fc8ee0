use Rattle.std.proofs.Common.{◌≡◌, map}
use Rattle.std.specs.Map.Iter.{deref_pair}
use Rattle.std.specs.Option.{option_copied as name_of}
use Rattle.holders.specs.Held.{held_in}
use Rattle.version_stack.specs.Beside.{sum_beside}
use Rattle.version_stack.proofs.deltas.many_beside.Given as goal

-- the deltas so far are summed
abbrev pub invariant-loop-holder : goal.invariant-loop-holder
invariant-loop-holder l = l.sum ≡ sum_beside (held_in (map deref_pair l.yielded)) (name_of l.owner)
