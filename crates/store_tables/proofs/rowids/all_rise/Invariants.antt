use Rattle.std.proofs.Common.{take}
use Rattle.std.specs.List.{AllByRecursion}
use Rattle.sqlite_trees.specs.View.{IsShaped}
use Rattle.sqlite_trees.specs.declared.store.Shape.TheVariants.{Table}
use Rattle.store_tables.specs.Answered.{rows_of}
use Rattle.store_tables.proofs.rowids.all_rise.Given as goal

abbrev pub invariant-loop-rows : goal.invariant-loop-rows
invariant-loop-rows l = AllByRecursion (IsShaped Table) (rows_of (take l.rows-index l.answers))
