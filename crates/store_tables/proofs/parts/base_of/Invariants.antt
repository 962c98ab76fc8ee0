use Rattle.std.proofs.Common.{take, []}
use Rattle.std.specs.FinMap.{from_entries}
use Rattle.stable_store.specs.Held.{parts_in}
use Rattle.store_tables.specs.Shown.{ShowsPart}
use Rattle.store_tables.specs.Parts.{HasBase}
use Rattle.store_tables.specs.Grown.{ListsMore}
use Rattle.store_tables.proofs.parts.base_of.Given as goal

abbrev pub invariant-loop-row : goal.invariant-loop-row
invariant-loop-row l = ListsMore (ShowsPart 0) (take l.row-index l.rows) (HasBase (from_entries [])) (HasBase (parts_in l.base))
