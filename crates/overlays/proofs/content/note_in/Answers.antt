use Rattle.std.proofs.Common.{◌≡◌, sym, ◌∙◌, subst}
use Rattle.std.proofs.lemmas.Result.{IfOk-weaker}
use Rattle.atomic_types.specs.Objects.{content_after, reply_of}
use Rattle.overlays.specs.Overlays.{laid_all, Covers}
use Rattle.overlays.specs.ContentOverlays.{laid_content, ContentFits, content_overlays_know}
use Rattle.overlays.specs.declared.content.ContentOverlay.TheVariants as over
use Rattle.overlays.proofs.ContentNotes.{IsNotedAt, noted_record, noted_replaced, covers_counter, both_if_ok}
use Rattle.overlays.proofs.content.note_in.Goals as goal

pub note_number-requires-clause-covers : goal.note_number-requires-clause-covers
note_number-requires-clause-covers c = λ adds. covers_counter c.in-Counter.number (subst (Covers content_after laid_content) c.in-Counter.is (c.requires.covers adds))

pub returns-in-Record-clause-noted : goal.returns-in-Record-clause-noted
returns-in-Record-clause-noted c =
    let x = laid_all laid_content c.args.base.now c.args.below.now in
    let o = c.in-Record.fields in
    let fits = subst (ContentFits x) c.in-Record.is c.requires.fits in
    IfOk-weaker c.note_set.result _ _ (λ r h. subst (λ p. IsNotedAt x p (over.Record c.note_set.new.overlay) c.args.op.now r) (sym c.in-Record.is)
    (noted_record x o c.note_set.new.overlay c.args.op.now r fits (content_overlays_know x (over.Record o) c.args.op.now fits ∙ c.requires.known) h)) c.note_set.ensures.noted

pub returns-in-Replaced-clause-noted : goal.returns-in-Replaced-clause-noted
returns-in-Replaced-clause-noted c =
    let x = laid_all laid_content c.args.base.now c.args.below.now in
    let d = c.in-Replaced.content in
    let same = subst (ContentFits x) c.in-Replaced.is c.requires.fits in
    IfOk-weaker c.apply.result _ _ (λ r h. subst (λ p. IsNotedAt x p (over.Replaced c.apply.new.self) c.args.op.now r) (sym c.in-Replaced.is)
    (noted_replaced x d c.apply.new.self c.args.op.now r same (same.knows_same c.args.op.now ∙ c.requires.known) h.0 h.1))
    (both_if_ok (λ r. r ≡ reply_of d c.args.op.now) (λ r. c.apply.new.self ≡ content_after d c.args.op.now) c.apply.result c.apply.ensures.replies c.apply.ensures.changes)
