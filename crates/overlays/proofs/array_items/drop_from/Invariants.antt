use Rattle.std.proofs.Common.{◌≡◌, filter, length}
use Rattle.std.specs.Prelude.{int_lt}
use Rattle.overlays.proofs.array_items.drop_from.Given as goal

-- no item is gone that is kept
abbrev pub invariant-loop-items : goal.invariant-loop-items
invariant-loop-items l = filter (λ e. int_lt e.0 l.end) l.items.entries ≡ filter (λ e. int_lt e.0 l.end) l.initial.items.entries

abbrev pub decreases-loop-items : goal.decreases-loop-items
decreases-loop-items l = length l.items.entries
