use Rattle.std.proofs.Common.{◌≡◌, filter, length}
use Rattle.std.specs.Prelude.{int_le}
use Rattle.overlays.proofs.array_items.drop_before.Given as goal

-- no item is gone that is kept
abbrev pub invariant-loop-items : goal.invariant-loop-items
invariant-loop-items l = filter (λ e. int_le l.low e.0) l.items.entries ≡ filter (λ e. int_le l.low e.0) l.initial.items.entries

abbrev pub decreases-loop-items : goal.decreases-loop-items
decreases-loop-items l = length l.items.entries
