use Rattle.std.proofs.Common.{◌≡◌, length}
use Rattle.values.specs.Items.{ArrayContent}
use Rattle.values.specs.declared.content.Content.TheVariants.{Array}
use Rattle.overlays.specs.Overlays.{laid_all, AllFit}
use Rattle.overlays.specs.ArrayOverlays.{bounds_of}
use Rattle.overlays.specs.ContentOverlays.{laid_content, ContentFits}
use Rattle.overlays.proofs.content.bounds_under.Given as goal

-- what is left is an array of the bounds that all give
abbrev pub invariant-loop-top : goal.invariant-loop-top
invariant-loop-top l = record {
  fit : AllFit laid_content ContentFits l.base l.left;
  same : (a : ArrayContent) → laid_all laid_content l.base l.below ≡ Array a
      → (b : ArrayContent) × (laid_all laid_content l.base l.left ≡ Array b) × (bounds_of b ≡ bounds_of a);
}

abbrev pub decreases-loop-top : goal.decreases-loop-top
decreases-loop-top l = length l.left
