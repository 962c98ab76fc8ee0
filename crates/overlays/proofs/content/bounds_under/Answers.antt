use Rattle.std.proofs.Common.{sym, ◌∙◌}
use Rattle.overlays.specs.Overlays.{laid_all}
use Rattle.overlays.specs.ContentOverlays.{laid_content, ContentFits}
use Rattle.overlays.proofs.ContentBelow.{bounds_shown, bounds_kept}
use Rattle.overlays.proofs.Stacked.{under_last}
use Rattle.overlays.proofs.content.bounds_under.Goals as goal

pub returns-in-Some-bounds_given-clause-bounds : goal.returns-in-Some-bounds_given-clause-bounds
returns-in-Some-bounds_given-clause-bounds c = λ a e.
    let r = under_last laid_content ContentFits c.args.base.now c.loop-top.left.now c.in-Some.lower.now c.in-Some.top.now c.in-Some.ensures.cases.0 c.loop-top.invariant.fit in
    let x = laid_all laid_content c.args.base.now c.in-Some.lower.now in
    let s = c.loop-top.invariant.same a e in
    bounds_shown x c.in-Some.top.now s.0 c.in-Some-bounds_given.bounds r.1 (sym r.2 ∙ s.1) (sym c.in-Some-bounds_given.ensures.bounds) ∙ s.2

pub loop-top-preserved : goal.loop-top-preserved
loop-top-preserved c =
    let r = under_last laid_content ContentFits c.args.base.now c.loop-top.left.now c.in-Some.lower.now c.in-Some.top.now c.in-Some.ensures.cases.0 c.loop-top.invariant.fit in
    let x = laid_all laid_content c.args.base.now c.in-Some.lower.now in
    record {
      fit = r.0;
      same = λ a e.
          let s = c.loop-top.invariant.same a e in
          let k = bounds_kept x c.in-Some.top.now s.0 r.1 (sym r.2 ∙ s.1) (sym c.in_default-bounds_given.ensures.bounds) in
          (k.0, k.1, k.2 ∙ s.2);
    }
