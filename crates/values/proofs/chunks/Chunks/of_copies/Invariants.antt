use Rattle.std.proofs.Common.{◌≡◌, ◌++◌, length}
use Rattle.values.specs.Chunks.{joined, AreFull}
use Rattle.values.proofs.chunks.Chunks.of_copies.Given as goal

-- with the items that are left, the chunks hold all
abbrev pub invariant-loop-left : goal.invariant-loop-left
invariant-loop-left l = record {
  same : joined l.middle.items ++ l.left ≡ l.items;
  full : AreFull l.middle.items;
}

abbrev pub decreases-loop-left : goal.decreases-loop-left
decreases-loop-left l = length l.left
