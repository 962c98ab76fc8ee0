use Rattle.std.proofs.Common.{take}
use Rattle.sqlite_trees.specs.Tree.{IsTable}
use Rattle.store_tables.proofs.Rising.{AreUpTo, IsSeen}
use Rattle.store_tables.proofs.rowids.are_rising.Given as goal

-- the rows so far rise, up to the last one
abbrev pub invariant-loop-row : goal.invariant-loop-row
invariant-loop-row l = IsTable (take l.row-index l.rows) × AreUpTo l.last (take l.row-index l.rows) × IsSeen l.last (take l.row-index l.rows)
