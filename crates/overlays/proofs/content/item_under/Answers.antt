use Rattle.std.proofs.Common.{sym, ap, ◌∙◌}
use Rattle.std.specs.Prelude.{is_some}
use Rattle.std.proofs.lemmas.Int.{to_z-of_z}
use Rattle.std.specs.Int.{w64}
use Rattle.values.specs.Items.{item_at}
use Rattle.overlays.specs.Overlays.{laid_all}
use Rattle.overlays.specs.ContentOverlays.{laid_content, ContentFits}
use Rattle.overlays.proofs.ContentBelow.{array_below, item_shown, item_kept}
use Rattle.overlays.proofs.Stacked.{under_last, laid_none}
use Rattle.overlays.proofs.content.item_under.Goals as goal

pub returns-in-Some-item_given : goal.returns-in-Some-item_given
returns-in-Some-item_given c = λ a e held.
    let r = under_last laid_content ContentFits c.args.base.now c.loop-top.left.now c.in-Some.lower.now c.in-Some.top.now c.in-Some.ensures.cases.0 c.loop-top.invariant.fit in
    let x = laid_all laid_content c.args.base.now c.in-Some.lower.now in
    let at = to_z-of_z w64 c.args.index c.ranges.index in
    let s = c.loop-top.invariant.same a e (ap (λ j. is_some (item_at a j)) at ∙ held) in
    item_shown x c.in-Some.top.now s.0 _ c.in-Some-item_given.item.now r.1 (sym r.2 ∙ s.1) (sym c.in-Some-item_given.ensures) ∙ s.2 ∙ ap (item_at a) at

pub loop-top-preserved : goal.loop-top-preserved
loop-top-preserved c =
    let r = under_last laid_content ContentFits c.args.base.now c.loop-top.left.now c.in-Some.lower.now c.in-Some.top.now c.in-Some.ensures.cases.0 c.loop-top.invariant.fit in
    let x = laid_all laid_content c.args.base.now c.in-Some.lower.now in
    record {
      fit = r.0;
      array = λ a e. let s = c.loop-top.invariant.array a e in array_below x c.in-Some.top.now s.0 r.1 (sym r.2 ∙ s.1);
      same = λ a e held.
          let s = c.loop-top.invariant.same a e held in
          let k = item_kept x c.in-Some.top.now s.0 _ r.1 (sym r.2 ∙ s.1) (sym c.in_default-item_given.ensures) (ap is_some s.2 ∙ held) in
          (k.0, k.1, k.2 ∙ s.2);
    }

pub unreachable-requires : goal.unreachable-requires
unreachable-requires c =
    let s = c.loop-top.invariant.array c.requires.array.0 c.requires.array.1 in
    c.in_default-base.not-Array s.0 (sym (laid_none laid_content ContentFits c.args.base.now c.loop-top.left.now c.in_default.ensures.cases) ∙ s.1)
