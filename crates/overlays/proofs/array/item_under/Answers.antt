use Rattle.std.proofs.Common.{◌≡◌, true, to_z, of_z, sym, ap, ◌∙◌, subst}
use Rattle.std.specs.Prelude.{is_some}
use Rattle.std.proofs.lemmas.Int.{to_z-of_z}
use Rattle.std.specs.Int.{w64}
use Rattle.values.specs.Items.{ArrayContent, item_at}
use Rattle.overlays.specs.Overlays.{laid_all}
use Rattle.overlays.specs.ArrayOverlays.{ArrayFits, changed_at, laid_array}
use Rattle.overlays.proofs.ArrayNotes.{changed_shows, unchanged_shows}
use Rattle.overlays.proofs.Stacked.{under_last}
use Rattle.overlays.proofs.array.item_under.Goals as goal

pub returns-in-Some-item : goal.returns-in-Some-item
returns-in-Some-item c = λ held.
    let r = under_last laid_array ArrayFits c.args.base.now c.loop-top.left.now c.in-Some.lower.now c.in-Some.top.now c.in-Some.ensures.cases.0 c.loop-top.invariant.fit in
    let x = laid_all laid_array c.args.base.now c.in-Some.lower.now in
    let i = c.args.index in
    let at = to_z-of_z w64 i c.ranges.index in
    let put = sym (ap (changed_at c.in-Some.top.now.items) at) ∙ sym c.in-Some-item.ensures in
    sym (changed_shows x c.in-Some.top.now i c.in-Some-item.item.now r.1 put) ∙ sym (ap (λ (a : ArrayContent). item_at a i) r.2)
    ∙ (subst (λ j. is_some (item_at (laid_all laid_array c.args.base.now c.args.below.now) j) ≡ true
    → item_at (laid_all laid_array c.args.base.now c.loop-top.left.now) j ≡ item_at (laid_all laid_array c.args.base.now c.args.below.now) j) at c.loop-top.invariant.same) held

pub loop-top-preserved : goal.loop-top-preserved
loop-top-preserved c =
    let r = under_last laid_array ArrayFits c.args.base.now c.loop-top.left.now c.in-Some.lower.now c.in-Some.top.now c.in-Some.ensures.cases.0 c.loop-top.invariant.fit in
    let x = laid_all laid_array c.args.base.now c.in-Some.lower.now in
    let j = to_z w64 (of_z w64 c.args.index) in
    let none = sym c.in_default-item.ensures in
    record {
      fit = r.0;
      same = λ held.
          let below = c.loop-top.invariant.same held in
          let has = ap is_some (sym (ap (λ (a : ArrayContent). item_at a j) r.2) ∙ below) ∙ held in
          sym (unchanged_shows x c.in-Some.top.now j r.1 none has) ∙ sym (ap (λ (a : ArrayContent). item_at a j) r.2) ∙ below;
    }
