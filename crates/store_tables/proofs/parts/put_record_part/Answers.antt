use Rattle.store_tables.proofs.Read.{adds_part, keeps_part, found_there}
use Rattle.sqlite.specs.Order.{column}
use Rattle.store_tables.proofs.Legible.{one_number}
use Rattle.store_tables.proofs.Told.{part_was_there, no_record_there}
use Rattle.store_tables.proofs.parts.put_record_part.Goals as goal

pub returns-in-Some-clause-adds : goal.returns-in-Some-clause-adds
returns-in-Some-clause-adds c =
    let w = record c.in-Some.record.now { parts = c.put_into.new.parts } in
    adds_part c.args.row.now c.args.spelling c.args.records.now.entries (c.get_mut.follows.lender w).entries c.in_ok-top.top c.in_ok-object.object c.in_ok-part.part c.in-Some.record.now c.put_into.new.parts
    c.in-Some.ensures.value
    ((c.get_mut.follows.holds w).3 (found_there _ _ c.in-Some.ensures.value)).0
    c.put_into.result
    c.in_ok-top.ensures.number c.in_ok-object.ensures.number c.in_ok-part.ensures.part c.put_into.ensures.takes

pub returns-in-Some-clause-keeps : goal.returns-in-Some-clause-keeps
returns-in-Some-clause-keeps c =
    let w = record c.in-Some.record.now { parts = c.put_into.new.parts } in
    keeps_part c.args.row.now c.args.spelling c.args.records.now.entries (c.get_mut.follows.lender w).entries c.in_ok-top.top c.in_ok-object.object c.in_ok-part.part c.in-Some.record.now c.put_into.new.parts
    c.in-Some.ensures.value
    ((c.get_mut.follows.holds w).3 (found_there _ _ c.in-Some.ensures.value)).0
    c.put_into.result c.put_into.ensures.takes

pub returns-in-Some-clause-told : goal.returns-in-Some-clause-told
returns-in-Some-clause-told c is e shown there =
    part_was_there c.args.records.now.entries c.in_ok-top.top c.in_ok-object.object e.0 e.1.0 c.in-Some.record.now c.in-Some.ensures.value (c.put_into.ensures.told is)
    (one_number (column c.args.row.now 0) e.0 c.in_ok-top.top shown.top.is c.in_ok-top.ensures.number.is)
    (one_number (column c.args.row.now 1) e.1.0 c.in_ok-object.object shown.object.is c.in_ok-object.ensures.number.is)

pub returns-in-None-clause-told : goal.returns-in-None-clause-told
returns-in-None-clause-told c is e shown there =
    absurd (no_record_there c.args.records.now.entries c.in_ok-top.top e.0 c.in-None.ensures.value
    (one_number (column c.args.row.now 0) e.0 c.in_ok-top.top shown.top.is c.in_ok-top.ensures.number.is) there)
