use Rattle.std.proofs.Common.{sym, ap, ◌∙◌}
use Rattle.overlays.specs.Overlays.{laid_all}
use Rattle.overlays.specs.ArrayOverlays.{ArrayChange, ArrayFits, bounds_of, bounds_over, laid_array}
use Rattle.overlays.proofs.ArrayLaws.{laid_bounds}
use Rattle.overlays.proofs.Stacked.{under_last}
use Rattle.overlays.proofs.array.bounds_under.Goals as goal

pub returns-in-Some-bounds-clause-bounds : goal.returns-in-Some-bounds-clause-bounds
returns-in-Some-bounds-clause-bounds c =
    let r = under_last laid_array ArrayFits c.args.base.now c.loop-top.left.now c.in-Some.lower.now c.in-Some.top.now c.in-Some.ensures.cases.0 c.loop-top.invariant.fit in
    let x = laid_all laid_array c.args.base.now c.in-Some.lower.now in
    let given = sym (ap (λ (o : ArrayChange). o.bounds) c.top.view_is) ∙ c.in-Some-bounds.is in
    sym (laid_bounds x c.in-Some.top.now ∙ ap (bounds_over x) given) ∙ sym (ap bounds_of r.2) ∙ c.loop-top.invariant.same

pub loop-top-preserved : goal.loop-top-preserved
loop-top-preserved c =
    let r = under_last laid_array ArrayFits c.args.base.now c.loop-top.left.now c.in-Some.lower.now c.in-Some.top.now c.in-Some.ensures.cases.0 c.loop-top.invariant.fit in
    let x = laid_all laid_array c.args.base.now c.in-Some.lower.now in
    let none = sym (ap (λ (o : ArrayChange). o.bounds) c.top.view_is) ∙ c.in_default-bounds.is in
    record {
      fit = r.0;
      same = sym (laid_bounds x c.in-Some.top.now ∙ ap (bounds_over x) none) ∙ sym (ap bounds_of r.2) ∙ c.loop-top.invariant.same;
    }
