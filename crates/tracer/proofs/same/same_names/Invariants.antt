use Rattle.tracer.proofs.Apart.{AreSameTo}
use Rattle.tracer.proofs.same.same_names.Given as goal

abbrev pub invariant-loop-at : goal.invariant-loop-at
invariant-loop-at l = AreSameTo l.at l.names l.others
