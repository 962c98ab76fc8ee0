use Rattle.std.proofs.Common.{◌≡◌, length}
use Rattle.overlays.specs.Overlays.{laid_all, AllFit}
use Rattle.overlays.specs.ArrayOverlays.{laid_array, ArrayFits, bounds_of}
use Rattle.overlays.proofs.array.bounds_under.Given as goal

-- what is left gives the bounds that all give
abbrev pub invariant-loop-top : goal.invariant-loop-top
invariant-loop-top l = record {
  fit : AllFit laid_array ArrayFits l.base l.left;
  same : bounds_of (laid_all laid_array l.base l.left) ≡ bounds_of (laid_all laid_array l.base l.below);
}

abbrev pub decreases-loop-top : goal.decreases-loop-top
decreases-loop-top l = length l.left
