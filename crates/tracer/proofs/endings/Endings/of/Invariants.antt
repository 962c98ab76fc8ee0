use Rattle.std.proofs.Common.{reverse, take}
use Rattle.tracer.specs.Endings.{AreEndings}
use Rattle.tracer.proofs.endings.Endings.of.Given as goal

-- the endings of the events so far
abbrev pub invariant-loop-before : goal.invariant-loop-before
invariant-loop-before l = AreEndings l.endings (reverse (take l.before l.event-items))
