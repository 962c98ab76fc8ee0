use Rattle.std.proofs.Common.{take, []}
use Rattle.std.specs.FinSet as set
use Rattle.store_tables.specs.Shown.{ShowsTop}
use Rattle.store_tables.specs.Parts.{IsDecided}
use Rattle.store_tables.specs.Grown.{ListsMore}
use Rattle.store_tables.proofs.parts.tops_of.Given as goal

abbrev pub invariant-loop-row : goal.invariant-loop-row
invariant-loop-row l = ListsMore ShowsTop (take l.row-index l.rows) (IsDecided (set.from_list [])) (IsDecided (set.from_list l.tops.keys))
