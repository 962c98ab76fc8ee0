use Rattle.std.proofs.Common.{sym, subst}
use Rattle.std.proofs.lemmas.List.{take_all}
use Rattle.store_tables.specs.Shown.{ShowsRecord}
use Rattle.store_tables.specs.Parts.{HasPart}
use Rattle.store_tables.specs.Grown.{ListsMore}
use Rattle.store_tables.specs.Spellings.{Spells}
use Rattle.store_tables.proofs.Rising.{next_row}
use Rattle.store_tables.proofs.Listed.{more_none, more_row}
use Rattle.store_tables.proofs.Read.{records, keeps_none, keeps_then}
use Rattle.store_tables.proofs.Told.{told_by, part_twice}
use Rattle.store_tables.proofs.parts.put_record_parts.Goals as goal

pub loop-row-init : goal.loop-row-init
loop-row-init c =
    (more_none (ShowsRecord (Spells c.args.spelling) 0) (HasPart (records c.args.records.now.entries)), keeps_none (records c.args.records.now.entries))

pub loop-row-preserved : goal.loop-row-preserved
loop-row-preserved c = (
  subst (λ rows. ListsMore (ShowsRecord (Spells c.args.spelling) 0) rows (HasPart (records c.args.records.now.entries)) (HasPart (records c.put_record_part.new.records.entries))) (sym (next_row _ _ _ c.loop-row-test.true c.row-item.is))
      (more_row (ShowsRecord (Spells c.args.spelling) 0) _ _ _ _ _ c.loop-row.invariant.0 c.in_ok-put_record_part.ensures.adds),
  keeps_then _ _ _ c.loop-row.invariant.1 c.in_ok-put_record_part.ensures.keeps,
)

pub returns-clause-lists : goal.returns-clause-lists
returns-clause-lists c =
    subst (λ rows. ListsMore (ShowsRecord (Spells c.args.spelling) 0) rows (HasPart (records c.args.records.now.entries)) (HasPart (records c.loop-row.records.entries))) (take_all _ _ c.loop-row-test.false) c.loop-row.invariant.0

pub returns-clause-keeps : goal.returns-clause-keeps
returns-clause-keeps c = c.loop-row.invariant.1

pub returns-in_err-put_record_part-clause-told : goal.returns-in_err-put_record_part-clause-told
returns-in_err-put_record_part-clause-told c is new differ =
    part_twice _ _ c.row-item.result _ c.loop-row-test.true c.row-item.is (Spells c.args.spelling) (records c.args.records.now.entries) (records c.loop-row.records.entries)
    c.loop-row.invariant.0 c.loop-row.invariant.1
    (c.in_err-put_record_part.ensures.told (told_by c.from_residual.result c.in_err-put_record_part.field-0.0 c.from_residual.ensures.1 is)) new differ
