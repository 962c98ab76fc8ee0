use Rattle.store_tables.proofs.Read.{records, with_homes, with_values, with_deltas, rises}
use Rattle.store_tables.specs.Shown.{ShowsHome, IsValueText}
use Rattle.store_tables.proofs.Told.{told_by, each_shows, first_new, then_new}
use Rattle.store_tables.proofs.answers.prepared_of.Goals as goal

pub returns-clause-homes : goal.returns-clause-homes
returns-clause-homes c =
    with_homes _ _ _ (records c.in_ok-records.records.entries) (records c.put_record_parts.new.records.entries) (records c.put_record_parts-2.new.records.entries)
    c.in_ok-records.ensures.homes c.in_ok-records.ensures.empty c.in_ok-put_record_parts.ensures.lists c.in_ok-put_record_parts.ensures.keeps
    c.in_ok-put_record_parts-2.ensures.lists c.in_ok-put_record_parts-2.ensures.keeps

pub returns-clause-values : goal.returns-clause-values
returns-clause-values c =
    with_values _ _ _ (records c.in_ok-records.records.entries) (records c.put_record_parts.new.records.entries) (records c.put_record_parts-2.new.records.entries)
    c.in_ok-records.ensures.homes c.in_ok-records.ensures.empty c.in_ok-put_record_parts.ensures.lists c.in_ok-put_record_parts.ensures.keeps
    c.in_ok-put_record_parts-2.ensures.lists c.in_ok-put_record_parts-2.ensures.keeps

pub returns-clause-deltas : goal.returns-clause-deltas
returns-clause-deltas c =
    with_deltas _ _ _ (records c.in_ok-records.records.entries) (records c.put_record_parts.new.records.entries) (records c.put_record_parts-2.new.records.entries)
    c.in_ok-records.ensures.homes c.in_ok-records.ensures.empty c.in_ok-put_record_parts.ensures.lists c.in_ok-put_record_parts.ensures.keeps
    c.in_ok-put_record_parts-2.ensures.lists c.in_ok-put_record_parts-2.ensures.keeps

pub returns-clause-rising : goal.returns-clause-rising
returns-clause-rising c =
    rises (records c.in_ok-records.records.entries) (records c.put_record_parts.new.records.entries) (records c.put_record_parts-2.new.records.entries)
    c.in_ok-records.ensures.empty c.in_ok-put_record_parts.ensures.keeps c.in_ok-put_record_parts-2.ensures.keeps

pub returns-in_err-records-clause-told : goal.returns-in_err-records-clause-told
returns-in_err-records-clause-told c is keys one two prepared homes values deltas =
    c.in_err-records.ensures.told (told_by c.from_residual.result c.in_err-records.field-0.0 c.from_residual.ensures.1 is) (each_shows (ShowsHome 0) _ _ homes) keys

pub returns-in_err-put_record_parts-clause-told : goal.returns-in_err-put_record_parts-clause-told
returns-in_err-put_record_parts-clause-told c is keys one two prepared homes values deltas =
    let e = c.from_residual-in_err-put_record_parts in
    c.in_err-put_record_parts.ensures.told (told_by e.result c.in_err-put_record_parts.field-0.0 e.ensures.1 is)
    (first_new _ prepared (records c.in_ok-records.records.entries) homes c.in_ok-records.ensures.homes c.in_ok-records.ensures.empty IsValueText _
    (λ r h. let v = values.each r h in (v.0, v.1, v.2.0))) one

pub returns-in_err-put_record_parts-2-clause-told : goal.returns-in_err-put_record_parts-2-clause-told
returns-in_err-put_record_parts-2-clause-told c is keys one two prepared homes values deltas =
    let e = c.from_residual-in_err-put_record_parts-2 in
    c.in_err-put_record_parts-2.ensures.told (told_by e.result c.in_err-put_record_parts-2.field-0.0 e.ensures.1 is)
    (then_new _ prepared (records c.in_ok-records.records.entries) homes c.in_ok-records.ensures.homes c.in_ok-records.ensures.empty _ _
    (records c.put_record_parts.new.records.entries) values deltas c.in_ok-put_record_parts.ensures.lists c.in_ok-put_record_parts.ensures.keeps) two
