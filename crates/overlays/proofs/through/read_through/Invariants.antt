use Rattle.std.proofs.Common.{◌≡◌, length, IsTrue}
use Rattle.overlays.specs.Overlays.{laid_all, AllFit}
use Rattle.overlays.proofs.through.read_through.Given as goal

-- what is left gives the reply that all give
abbrev pub invariant-loop-left : goal.invariant-loop-left
invariant-loop-left g l =
    let t = g.T.Layered in
    let a = g.T.AtomicType in
    record {
      fit : AllFit t.laid t.fits l.base l.left;
      known : IsTrue (a.knows (laid_all t.laid l.base l.left) l.op);
      same : a.reply (laid_all t.laid l.base l.left) l.op ≡ a.reply (laid_all t.laid l.base l.overlays) l.op;
    }

abbrev pub decreases-loop-left : goal.decreases-loop-left
decreases-loop-left g l = length l.left
