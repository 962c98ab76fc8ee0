use Rattle.std.proofs.Common.{take, []}
use Rattle.store_tables.specs.Shown.{ShowsHome}
use Rattle.store_tables.specs.Parts.{HasHome, HaveNoParts}
use Rattle.store_tables.specs.Grown.{ListsMore}
use Rattle.store_tables.proofs.Read.{records}
use Rattle.store_tables.proofs.parts.homes_of.Given as goal

abbrev pub invariant-loop-row : goal.invariant-loop-row
invariant-loop-row l =
    ListsMore (ShowsHome 0) (take l.row-index l.rows) (HasHome (records [])) (HasHome (records l.records.entries)) × HaveNoParts (records l.records.entries)
