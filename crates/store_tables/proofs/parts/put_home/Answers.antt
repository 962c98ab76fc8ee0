use Rattle.store_tables.proofs.Read.{none_if, new_home, no_parts_yet}
use Rattle.sqlite.specs.Order.{column}
use Rattle.store_tables.proofs.Legible.{one_number}
use Rattle.store_tables.proofs.Told.{record_was_there}
use Rattle.store_tables.proofs.parts.put_home.Goals as goal

pub returns-clause-adds : goal.returns-clause-adds
returns-clause-adds c = record {
  thing = (c.in_ok-top.top, c.in_ok-number_in.field-0);
  shows = record { top = c.in_ok-top.ensures.number; home = c.in_ok-number_in.ensures.number };
  adds = new_home c.args.records.now.entries c.insert.new.self.entries c.in_ok-top.top (record { home = c.in_ok-number_in.field-0; parts = c.new.result })
      c.in_ok-replaced.replaced c.in_ok-replaced.ensures.old (none_if _ c.if-is_some.ensures) c.new.ensures.empty c.in_ok-replaced.ensures.updates.0;
}

pub returns-clause-empty : goal.returns-clause-empty
returns-clause-empty c =
    no_parts_yet c.args.records.now.entries c.insert.new.self.entries c.in_ok-top.top (record { home = c.in_ok-number_in.field-0; parts = c.new.result })
    c.in_ok-replaced.replaced c.in_ok-replaced.ensures.old (none_if _ c.if-is_some.ensures) c.new.ensures.empty c.in_ok-replaced.ensures.updates.0

pub returns-then-is_some-clause-told : goal.returns-then-is_some-clause-told
returns-then-is_some-clause-told c is e shown =
    record_was_there c.args.records.now.entries c.in_ok-top.top e.0 c.in_ok-replaced.replaced c.in_ok-replaced.ensures.old c.if-is_some.ensures
    (one_number (column c.args.row.now 0) e.0 c.in_ok-top.top shown.top.is c.in_ok-top.ensures.number.is)
