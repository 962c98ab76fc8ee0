use Rattle.store_tables.proofs.Read.{records, homes_still, parts_listed, keeps_none, rises}
use Rattle.store_tables.specs.Shown.{ShowsHome, IsText}
use Rattle.store_tables.proofs.Told.{told_by, each_shows, first_new}
use Rattle.store_tables.proofs.first.prepared_of.Goals as goal

pub returns-clause-homes : goal.returns-clause-homes
returns-clause-homes c =
    homes_still _ _ (records c.in_ok-records.records.entries) (records c.put_record_parts.new.records.entries)
    c.in_ok-records.ensures.homes c.in_ok-records.ensures.empty c.in_ok-put_record_parts.ensures.lists c.in_ok-put_record_parts.ensures.keeps

pub returns-clause-parts : goal.returns-clause-parts
returns-clause-parts c =
    parts_listed _ _ (records c.in_ok-records.records.entries) (records c.put_record_parts.new.records.entries)
    c.in_ok-records.ensures.homes c.in_ok-records.ensures.empty c.in_ok-put_record_parts.ensures.lists c.in_ok-put_record_parts.ensures.keeps

pub returns-clause-rising : goal.returns-clause-rising
returns-clause-rising c =
    let last = records c.put_record_parts.new.records.entries in
    rises (records c.in_ok-records.records.entries) last last c.in_ok-records.ensures.empty c.in_ok-put_record_parts.ensures.keeps (keeps_none last)

pub returns-in_err-records-clause-told : goal.returns-in_err-records-clause-told
returns-in_err-records-clause-told c is keys one prepared homes parts =
    c.in_err-records.ensures.told (told_by c.from_residual.result c.in_err-records.field-0.0 c.from_residual.ensures.1 is) (each_shows (ShowsHome 0) _ _ homes) keys

pub returns-in_err-put_record_parts-clause-told : goal.returns-in_err-put_record_parts-clause-told
returns-in_err-put_record_parts-clause-told c is keys one prepared homes parts =
    let e = c.from_residual-in_err-put_record_parts in
    c.in_err-put_record_parts.ensures.told (told_by e.result c.in_err-put_record_parts.field-0.0 e.ensures.1 is)
    (first_new _ prepared (records c.in_ok-records.records.entries) homes c.in_ok-records.ensures.homes c.in_ok-records.ensures.empty IsText _ parts.each) one
