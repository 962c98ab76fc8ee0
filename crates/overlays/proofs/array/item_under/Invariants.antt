use Rattle.std.proofs.Common.{◌≡◌, true, length}
use Rattle.std.specs.Prelude.{is_some}
use Rattle.values.specs.Items.{item_at}
use Rattle.overlays.specs.Overlays.{laid_all, AllFit}
use Rattle.overlays.specs.ArrayOverlays.{laid_array, ArrayFits}
use Rattle.overlays.proofs.array.item_under.Given as goal

-- what is left has the item that all have
abbrev pub invariant-loop-top : goal.invariant-loop-top
invariant-loop-top l = record {
  fit : AllFit laid_array ArrayFits l.base l.left;
  same : is_some (item_at (laid_all laid_array l.base l.below) l.index) ≡ true
      → item_at (laid_all laid_array l.base l.left) l.index ≡ item_at (laid_all laid_array l.base l.below) l.index;
}

abbrev pub decreases-loop-top : goal.decreases-loop-top
decreases-loop-top l = length l.left
