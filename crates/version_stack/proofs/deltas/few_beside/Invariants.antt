use Rattle.std.proofs.Common.{◌≡◌, take}
use Rattle.std.specs.Option.{option_copied as name_of}
use Rattle.holders.specs.Held.{held_in}
use Rattle.version_stack.specs.Beside.{sum_beside}
use Rattle.version_stack.proofs.deltas.few_beside.Given as goal

-- the deltas so far are summed
abbrev pub invariant-loop-holder : goal.invariant-loop-holder
invariant-loop-holder l = l.sum ≡ sum_beside (held_in (take l.holder-index l.rows)) (name_of l.owner)
