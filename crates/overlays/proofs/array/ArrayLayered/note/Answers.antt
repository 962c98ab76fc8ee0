use Rattle.std.proofs.Common.{◌≡◌, Some, None, sym, ap, ◌∙◌, rules}
use Rattle.std.specs.Prelude.{Option, IsTrue, FitsSigned, is_some}
use Rattle.std.specs.Option.{option_copied}
use Rattle.std.proofs.lemmas.Result.{IfOk-weaker}
use Rattle.std.proofs.lemmas.Option.{none-some, same_Some}
use Rattle.std.proofs.lemmas.Int.{to_z-of_z}
use Rattle.std.specs.Int.{w64}
use Rattle.values.specs.Items.{item_at}
use Rattle.overlays.specs.declared.bounds.Bounds.{Bounds}
use Rattle.atomic_types.specs.Arrays.{array_knows}
use Rattle.overlays.specs.Overlays.{laid_all}
use Rattle.overlays.specs.ArrayOverlays.{ArrayChange, IsEnd, bounds_over, laid_array, array_overlays_know}
use Rattle.overlays.proofs.array.ArrayLayered.note.Goals as goal
use Rattle.overlays.proofs.array.ArrayLayered.note.Goals.{in-Some, in-None, in-Some-end_removed_by, in-None-end_removed_by}

pub returns-clause-replies : goal.returns-clause-replies
returns-clause-replies c =
    let x = laid_all laid_array c.args.base.now c.args.below.now in
    let o = c.args.overlay.now in
    let given : (b : Option Bounds) → c.overlay.inside.bounds ≡ b → o.bounds ≡ b = λ b e. sym (ap (λ (p : ArrayChange). p.bounds) c.overlay.view_is) ∙ e in
    let bounds : c.match-overlay.bounds ≡ bounds_over x o.bounds = elim c.match-overlay.branch [
      | in-Some w ↦ w.bounds-is ∙ sym (ap (bounds_over x) (given (Some w.in-Some.bounds) w.in-Some.is))
      | in-None w ↦ w.bounds-is ∙ w.bounds_under-bounds.ensures.bounds ∙ sym (ap (bounds_over x) (given None w.in-None.is))
    ] in
    let end : IsEnd x c.match-overlay.bounds c.args.op.now (option_copied c.match-end_removed_by.end) = elim c.match-end_removed_by.branch [
      | in-Some-end_removed_by w ↦ λ i is held.
          let fits : FitsSigned w64 w.in-Some-end_removed_by.index = search rules in
          let there = to_z-of_z w64 w.in-Some-end_removed_by.index fits
          ∙ same_Some w.in-Some-end_removed_by.index i (sym w.in-Some-end_removed_by.is ∙ c.end_removed_by.ensures ∙ is) in
          ap option_copied w.end-is ∙ w.item_under-end.ensures (ap (λ q. is_some (item_at x q)) there ∙ held) ∙ ap (item_at x) there
      | in-None-end_removed_by w ↦ λ i is held. absurd (none-some i (sym w.in-None-end_removed_by.is ∙ c.end_removed_by.ensures ∙ is))
    ] in
    let known : IsTrue (array_knows x c.args.op.now) = sym (array_overlays_know x o c.args.op.now c.requires.fits) ∙ c.requires.known in
    IfOk-weaker c.note.result _ _ (λ r h. (h x c.requires.fits bounds end known).replies) c.note.ensures.ok

pub returns-clause-noted : goal.returns-clause-noted
returns-clause-noted c =
    let x = laid_all laid_array c.args.base.now c.args.below.now in
    let o = c.args.overlay.now in
    let given : (b : Option Bounds) → c.overlay.inside.bounds ≡ b → o.bounds ≡ b = λ b e. sym (ap (λ (p : ArrayChange). p.bounds) c.overlay.view_is) ∙ e in
    let bounds : c.match-overlay.bounds ≡ bounds_over x o.bounds = elim c.match-overlay.branch [
      | in-Some w ↦ w.bounds-is ∙ sym (ap (bounds_over x) (given (Some w.in-Some.bounds) w.in-Some.is))
      | in-None w ↦ w.bounds-is ∙ w.bounds_under-bounds.ensures.bounds ∙ sym (ap (bounds_over x) (given None w.in-None.is))
    ] in
    let end : IsEnd x c.match-overlay.bounds c.args.op.now (option_copied c.match-end_removed_by.end) = elim c.match-end_removed_by.branch [
      | in-Some-end_removed_by w ↦ λ i is held.
          let fits : FitsSigned w64 w.in-Some-end_removed_by.index = search rules in
          let there = to_z-of_z w64 w.in-Some-end_removed_by.index fits
          ∙ same_Some w.in-Some-end_removed_by.index i (sym w.in-Some-end_removed_by.is ∙ c.end_removed_by.ensures ∙ is) in
          ap option_copied w.end-is ∙ w.item_under-end.ensures (ap (λ q. is_some (item_at x q)) there ∙ held) ∙ ap (item_at x) there
      | in-None-end_removed_by w ↦ λ i is held. absurd (none-some i (sym w.in-None-end_removed_by.is ∙ c.end_removed_by.ensures ∙ is))
    ] in
    let known : IsTrue (array_knows x c.args.op.now) = sym (array_overlays_know x o c.args.op.now c.requires.fits) ∙ c.requires.known in
    IfOk-weaker c.note.result _ _ (λ r h. (h x c.requires.fits bounds end known).leaves) c.note.ensures.ok

pub returns-clause-fits : goal.returns-clause-fits
returns-clause-fits c =
    let x = laid_all laid_array c.args.base.now c.args.below.now in
    let o = c.args.overlay.now in
    let given : (b : Option Bounds) → c.overlay.inside.bounds ≡ b → o.bounds ≡ b = λ b e. sym (ap (λ (p : ArrayChange). p.bounds) c.overlay.view_is) ∙ e in
    let bounds : c.match-overlay.bounds ≡ bounds_over x o.bounds = elim c.match-overlay.branch [
      | in-Some w ↦ w.bounds-is ∙ sym (ap (bounds_over x) (given (Some w.in-Some.bounds) w.in-Some.is))
      | in-None w ↦ w.bounds-is ∙ w.bounds_under-bounds.ensures.bounds ∙ sym (ap (bounds_over x) (given None w.in-None.is))
    ] in
    let end : IsEnd x c.match-overlay.bounds c.args.op.now (option_copied c.match-end_removed_by.end) = elim c.match-end_removed_by.branch [
      | in-Some-end_removed_by w ↦ λ i is held.
          let fits : FitsSigned w64 w.in-Some-end_removed_by.index = search rules in
          let there = to_z-of_z w64 w.in-Some-end_removed_by.index fits
          ∙ same_Some w.in-Some-end_removed_by.index i (sym w.in-Some-end_removed_by.is ∙ c.end_removed_by.ensures ∙ is) in
          ap option_copied w.end-is ∙ w.item_under-end.ensures (ap (λ q. is_some (item_at x q)) there ∙ held) ∙ ap (item_at x) there
      | in-None-end_removed_by w ↦ λ i is held. absurd (none-some i (sym w.in-None-end_removed_by.is ∙ c.end_removed_by.ensures ∙ is))
    ] in
    let known : IsTrue (array_knows x c.args.op.now) = sym (array_overlays_know x o c.args.op.now c.requires.fits) ∙ c.requires.known in
    IfOk-weaker c.note.result _ _ (λ r h. (h x c.requires.fits bounds end known).fits_still) c.note.ensures.ok
