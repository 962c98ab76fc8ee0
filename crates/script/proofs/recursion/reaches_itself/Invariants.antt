use Rattle.script.specs.Marks.{rows_of, unmarked}
use Rattle.script.proofs.Spreading.{ReachedFrom}
use Rattle.script.proofs.recursion.reaches_itself.Given as goal

abbrev pub invariant-loop : goal.invariant-loop
invariant-loop l = ReachedFrom l.start (rows_of l.table) l.reached.items

abbrev pub decreases-loop : goal.decreases-loop
decreases-loop l = unmarked l.reached.items
