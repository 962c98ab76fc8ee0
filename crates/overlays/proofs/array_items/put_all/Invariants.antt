use Rattle.std.proofs.Common.{◌≡◌, ◌≤◌, ◌+◌, length, None}
use Rattle.std.specs.Prelude.{ℤ, vec_capacity}
use Rattle.overlays.specs.ArrayItems.{put_back_all}
use Rattle.overlays.specs.ArrayOverlays.{put_over}
use Rattle.overlays.proofs.array_items.put_all.Given as goal

-- what is left to put gives with what was put what all give; what was there can be put back, and there is room to note what is put over
abbrev pub invariant-loop-index : goal.invariant-loop-index
invariant-loop-index l = record {
  same : (i : ℤ) → put_over None l.upper.items l.items.entries i ≡ put_over None l.initial.upper.items l.initial.items.entries i;
  before : put_back_all l.before.items l.items.entries ≡ l.initial.items.entries;
  room : length l.upper.items + length l.before.items ≤ vec_capacity l.before;
}

abbrev pub decreases-loop-index : goal.decreases-loop-index
decreases-loop-index l = length l.upper.items
