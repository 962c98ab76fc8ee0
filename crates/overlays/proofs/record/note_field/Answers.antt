use Rattle.std.proofs.Common.{sym, ap, ◌∙◌}
use Rattle.std.specs.List.{position}
use Rattle.overlays.proofs.Fields.{is_named, unplaced, placed}
use Rattle.overlays.proofs.record.note_field.Goals as goal

pub returns-in-Some-clause-noted : goal.returns-in-Some-clause-noted
returns-in-Some-clause-noted c =
    (placed c.args.changed.now.items c.args.field c.in-Some.at c.args.field
    (ap (position (is_named c.args.field.name)) (sym c.deref.ensures.value) ∙ sym c.in-Some.ensures)).1

pub returns-in-None-clause-noted : goal.returns-in-None-clause-noted
returns-in-None-clause-noted c =
    c.push_reserved.ensures.items
    ∙ sym (unplaced c.args.changed.now.items c.args.field (ap (position (is_named c.args.field.name)) (sym c.deref.ensures.value) ∙ sym c.in-None.ensures)).1
