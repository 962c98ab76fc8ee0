use Rattle.std.proofs.Common.{sym, ap, ◌∙◌}
use Rattle.std.proofs.lemmas.Int.{to_z-of_z}
use Rattle.std.specs.Int.{w64}
use Rattle.atomic_types.specs.declared.op.Reply.TheVariants.{Gives}
use Rattle.overlays.specs.ArrayOverlays.{lies_in, changed_at}
use Rattle.overlays.proofs.ArrayNotes.{peek_outside, peek_changed, peek_unchanged}
use Rattle.overlays.proofs.array.ArrayOverlay.peek_item.Goals as goal

pub returns-then-not-lies_in : goal.returns-then-not-lies_in
returns-then-not-lies_in c = λ a fits.
    peek_outside a c.args.self.now c.args.index
    (ap (λ b. lies_in b c.args.index) (sym c.bounds.ensures.value) ∙ sym (ap (lies_in c.bounds.result) (to_z-of_z w64 c.args.index c.ranges.index))
    ∙ sym c.lies_in.ensures ∙ c.if-not-lies_in.true)

pub returns-in_ok-copy-in-Some : goal.returns-in_ok-copy-in-Some
returns-in_ok-copy-in-Some c = λ a fits.
    peek_changed a c.args.self.now c.args.index c.in-Some.item.now fits
    (sym (ap (changed_at c.args.self.now.items) (to_z-of_z w64 c.args.index c.ranges.index)) ∙ sym c.in-Some.ensures) ∙ ap (λ v. Gives v) (sym c.in_ok-copy-in-Some.ensures.same)

pub returns-in-None : goal.returns-in-None
returns-in-None c = λ a fits.
    peek_unchanged a c.args.self.now c.args.index fits
    (ap (λ b. lies_in b c.args.index) (sym c.bounds.ensures.value) ∙ sym (ap (lies_in c.bounds.result) (to_z-of_z w64 c.args.index c.ranges.index))
    ∙ sym c.lies_in.ensures ∙ c.if-not-lies_in.false)
    (sym (ap (changed_at c.args.self.now.items) (to_z-of_z w64 c.args.index c.ranges.index)) ∙ sym c.in-None.ensures)
