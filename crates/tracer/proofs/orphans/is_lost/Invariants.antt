use Rattle.std.proofs.Common.{reverse, take}
use Rattle.tracer.specs.Losses.{IsStanding}
use Rattle.tracer.proofs.orphans.is_lost.Given as goal

-- how the action stands after the events so far
abbrev pub invariant-loop-before : goal.invariant-loop-before
invariant-loop-before l = IsStanding l.standing l.action (reverse (take l.before l.events))
