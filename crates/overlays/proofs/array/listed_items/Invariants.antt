use Rattle.std.proofs.Common.{◌≡◌, ◌++◌}
use Rattle.overlays.proofs.array.listed_items.Given as goal

-- the copied items and those that are left
abbrev pub invariant-loop-index : goal.invariant-loop-index
invariant-loop-index l = l.items.items ++ l.index-iterator ≡ l.overlay.items
