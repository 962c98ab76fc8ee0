use Rattle.std.proofs.Common.{◌≡◌, true, length}
use Rattle.std.specs.Prelude.{is_some}
use Rattle.values.specs.Items.{ArrayContent, item_at}
use Rattle.values.specs.declared.content.Content.TheVariants.{Array}
use Rattle.overlays.specs.Overlays.{laid_all, AllFit}
use Rattle.overlays.specs.ContentOverlays.{laid_content, ContentFits}
use Rattle.overlays.proofs.content.item_under.Given as goal

-- what is left is an array that has the item that all have
abbrev pub invariant-loop-top : goal.invariant-loop-top
invariant-loop-top l = record {
  fit : AllFit laid_content ContentFits l.base l.left;
  array : (a : ArrayContent) → laid_all laid_content l.base l.below ≡ Array a → (b : ArrayContent) × (laid_all laid_content l.base l.left ≡ Array b);
  same : (a : ArrayContent) → laid_all laid_content l.base l.below ≡ Array a → is_some (item_at a l.index) ≡ true
      → (b : ArrayContent) × (laid_all laid_content l.base l.left ≡ Array b) × (item_at b l.index ≡ item_at a l.index);
}

abbrev pub decreases-loop-top : goal.decreases-loop-top
decreases-loop-top l = length l.left
