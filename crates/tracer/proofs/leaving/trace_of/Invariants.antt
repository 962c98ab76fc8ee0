use Rattle.std.proofs.Common.{length, reverse, take}
use Rattle.traces.specs.Traces.{lists_of}
use Rattle.tracer.proofs.Putting.{AreKeptTo}
use Rattle.tracer.proofs.leaving.trace_of.Given as goal

abbrev pub invariant-loop-before : goal.invariant-loop-before
invariant-loop-before l =
    AreKeptTo (length l.opening.setup) (reverse (take l.before l.event-items)) l.homes (lists_of l.histories.items)
