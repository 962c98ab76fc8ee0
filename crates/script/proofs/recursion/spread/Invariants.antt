use Rattle.script.specs.Marks.{rows_of}
use Rattle.script.proofs.Spreading.{SpreadsUpTo}
use Rattle.script.proofs.recursion.spread.Given as goal

abbrev pub invariant-loop-number : goal.invariant-loop-number
invariant-loop-number l = SpreadsUpTo l.number (rows_of l.table) l.initial.marks l.marks l.grew
