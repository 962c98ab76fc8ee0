use Rattle.tracer.proofs.Copying.{AreCopied}
use Rattle.tracer.proofs.copies.add_copies.Given as goal

abbrev pub invariant-loop-stamped : goal.invariant-loop-stamped
invariant-loop-stamped l = AreCopied l.history l.stamped-index l.events l.fn.copies.items l.copies.items l.highest
