use Rattle.std.proofs.Common.{◌≡◌, drop}
use Rattle.overlays.specs.Overlays.{laid_all, AllFit}
use Rattle.overlays.proofs.through.content_of.Given as goal

-- the overlays that are left make of the content what all make of the base
abbrev pub invariant-loop-overlay : goal.invariant-loop-overlay
invariant-loop-overlay g l =
    let laid = g.T.Layered.laid in
    record {
      fit : AllFit laid g.T.Layered.fits l.content (drop l.overlay-index l.overlays);
      same : laid_all laid l.content (drop l.overlay-index l.overlays) ≡ laid_all laid l.base l.overlays;
    }
