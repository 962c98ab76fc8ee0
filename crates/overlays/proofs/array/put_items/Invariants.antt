use Rattle.std.proofs.Common.{◌≡◌}
use Rattle.std.specs.Prelude.{ℤ}
use Rattle.std.specs.Ordering.{int_cmp}
use Rattle.std.specs.BTreeMap.{IsOrdered}
use Rattle.std.specs.List.Sorted.{IsStrictlySortedBy}
use Rattle.std.specs.Map.{keys_of}
use Rattle.overlays.specs.ArrayOverlays.{put_over}
use Rattle.overlays.proofs.array.put_items.Given as goal

-- what is left to put gives with what was put what all give
abbrev pub invariant-loop-index : goal.invariant-loop-index
invariant-loop-index l = record {
  rising : IsStrictlySortedBy int_cmp (keys_of l.index-iterator);
  same : (i : ℤ) → put_over l.within l.index-iterator l.items.entries i ≡ put_over l.within l.from.entries l.initial.items.entries i;
  ordered : IsOrdered int_cmp l.initial.items → IsOrdered int_cmp l.items;
}
