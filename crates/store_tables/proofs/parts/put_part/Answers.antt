use Rattle.std.proofs.Common.{sym, ◌∙◌}
use Rattle.stable_store.proofs.Maps.{get_is, given}
use Rattle.store_tables.proofs.Read.{none_if, base_adds}
use Rattle.sqlite.specs.Order.{column}
use Rattle.store_tables.proofs.Legible.{one_number}
use Rattle.store_tables.proofs.Told.{was_there}
use Rattle.store_tables.proofs.parts.put_part.Goals as goal

pub returns-clause-adds : goal.returns-clause-adds
returns-clause-adds c = record {
  thing = (c.in_ok-object.object, c.in_ok-part.part);
  shows = record { object = c.in_ok-object.ensures.number; part = c.in_ok-part.ensures.part };
  adds = base_adds _ _ c.in_ok-object.object c.in_ok-part.part
      (get_is _ c.in_ok-object.object ∙ (sym c.in_ok-replaced.ensures.old ∙ none_if _ c.if-is_some.ensures))
      (given _ _ _ _ c.in_ok-replaced.ensures.updates.0);
}

pub returns-then-is_some-clause-told : goal.returns-then-is_some-clause-told
returns-then-is_some-clause-told c is e shown =
    was_there c.args.base.now.entries c.in_ok-object.object e.0 c.in_ok-replaced.replaced c.in_ok-replaced.ensures.old c.if-is_some.ensures
    (one_number (column c.args.row.now 0) e.0 c.in_ok-object.object shown.object.is c.in_ok-object.ensures.number.is)
