use Rattle.std.proofs.Common.{sym, ap, ◌∙◌}
use Rattle.atomic_types.specs.Objects.{reply_of, content_after}
use Rattle.overlays.specs.Overlays.{laid_all}
use Rattle.overlays.specs.ContentOverlays.{laid_content, is_something, content_overlays_know}
use Rattle.overlays.proofs.ContentJoins.{nothing_covers_not, alike_base, is_not_nothing}
use Rattle.overlays.proofs.content.ContentLayered.note.Goals as goal

pub note_in-requires-clause-fits : goal.note_in-requires-clause-fits
note_in-requires-clause-fits c = c.fresh_overlay.ensures.fits _ (alike_base c.args.base.now c.args.below.now c.requires.below)

pub note_in-requires-clause-covers : goal.note_in-requires-clause-covers
note_in-requires-clause-covers c = λ adds. absurd (nothing_covers_not c.args.overlay.now (ap is_something c.in-Nothing.is) (c.requires.covers adds))

pub returns-in-Ok-clause-replies : goal.returns-in-Ok-clause-replies
returns-in-Ok-clause-replies c =
    let x = laid_all laid_content c.args.base.now c.args.below.now in
    c.in-Ok.ensures.noted.replies ∙ ap (λ y. reply_of y c.args.op.now)
    (c.fresh_overlay.ensures.laid x (alike_base c.args.base.now c.args.below.now c.requires.below) ∙ sym (ap (laid_content x) c.in-Nothing.is))

pub returns-in-Ok-clause-noted : goal.returns-in-Ok-clause-noted
returns-in-Ok-clause-noted c =
    let x = laid_all laid_content c.args.base.now c.args.below.now in
    c.in-Ok.ensures.noted.leaves ∙ ap (λ y. content_after y c.args.op.now)
    (c.fresh_overlay.ensures.laid x (alike_base c.args.base.now c.args.below.now c.requires.below) ∙ sym (ap (laid_content x) c.in-Nothing.is))

pub note_in-requires-2 : goal.note_in-requires-2
note_in-requires-2 c =
    let x = laid_all laid_content c.args.base.now c.args.below.now in
    record {
      below = c.requires.below;
      something = is_not_nothing c.args.overlay.now c.in_default.not-Nothing;
      fits = c.requires.fits;
      known = sym (content_overlays_know x c.args.overlay.now c.args.op.now c.requires.fits) ∙ c.requires.known;
      changes = c.requires.changes;
      covers = c.requires.covers;
    }
