use Rattle.script.proofs.Adding.{AddsUpTo}
use Rattle.script.proofs.recursion.add_row.Given as goal

abbrev pub invariant-loop-number : goal.invariant-loop-number
invariant-loop-number l = AddsUpTo l.number l.row l.initial.marks l.marks l.grew
