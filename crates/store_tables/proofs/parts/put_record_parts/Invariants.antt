use Rattle.std.proofs.Common.{take}
use Rattle.store_tables.specs.Shown.{ShowsRecord}
use Rattle.store_tables.specs.Parts.{HasPart}
use Rattle.store_tables.specs.Grown.{ListsMore, KeepsRecords}
use Rattle.store_tables.specs.Spellings.{Spells}
use Rattle.store_tables.proofs.Read.{records}
use Rattle.store_tables.proofs.parts.put_record_parts.Given as goal

abbrev pub invariant-loop-row : goal.invariant-loop-row
invariant-loop-row l =
    ListsMore (ShowsRecord (Spells l.spelling) 0) (take l.row-index l.rows) (HasPart (records l.initial.records.entries)) (HasPart (records l.records.entries))
    × KeepsRecords (records l.initial.records.entries) (records l.records.entries)
