use Rattle.std.proofs.Common.{◌≡◌, length}
use Rattle.values.specs.Chunks.{items_stored}
use Rattle.values.proofs.chunks.put_each.Given as goal

-- those that are left make of the items what all made of them
abbrev pub invariant-loop-index : goal.invariant-loop-index
invariant-loop-index l = items_stored l.low l.items.items l.puts.items ≡ items_stored l.low l.initial.items.items l.initial.puts.items

abbrev pub decreases-loop-index : goal.decreases-loop-index
decreases-loop-index l = length l.puts.items
