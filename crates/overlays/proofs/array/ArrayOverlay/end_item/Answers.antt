use Rattle.std.proofs.Common.{sym, ap, ◌∙◌}
use Rattle.std.proofs.lemmas.Int.{to_z-of_z}
use Rattle.std.specs.Int.{w64}
use Rattle.atomic_types.specs.declared.op.Reply.TheVariants.{Gives}
use Rattle.atomic_types.specs.Arrays.{gives_or_bounds}
use Rattle.overlays.specs.ArrayOverlays.{changed_at}
use Rattle.overlays.proofs.ArrayNotes.{end_given}
use Rattle.overlays.proofs.array.ArrayOverlay.end_item.Goals as goal

pub returns-in_ok-copy-in-Some : goal.returns-in_ok-copy-in-Some
returns-in_ok-copy-in-Some c =
    ap (λ v. Gives v) c.in_ok-copy-in-Some.ensures.same
    ∙ sym (ap gives_or_bounds (end_given c.item.result c.args.below c.args.self.now c.args.index _
    (c.item.ensures ∙ ap (changed_at c.args.self.now.items) (to_z-of_z w64 c.args.index c.ranges.index)) c.in-Some.ensures))

pub returns-in-None : goal.returns-in-None
returns-in-None c =
    sym (ap gives_or_bounds (end_given c.item.result c.args.below c.args.self.now c.args.index _
    (c.item.ensures ∙ ap (changed_at c.args.self.now.items) (to_z-of_z w64 c.args.index c.ranges.index)) c.in-None.ensures))
