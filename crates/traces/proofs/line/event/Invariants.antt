use Rattle.traces.proofs.Lines.{NoArrowBefore}
use Rattle.traces.proofs.line.event.Given as goal

abbrev pub invariant-loop-at : goal.invariant-loop-at
invariant-loop-at l = NoArrowBefore l.text l.at
