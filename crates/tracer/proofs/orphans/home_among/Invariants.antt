use Rattle.std.proofs.Common.{◌≡◌, length, reverse}
use Rattle.run_model.specs.Actions.{home_of}
use Rattle.tracer.proofs.orphans.home_among.Given as goal

-- the events that are left decide, of whom is now sought
abbrev pub invariant-loop-event : goal.invariant-loop-event
invariant-loop-event l = home_of l.sought (reverse l.events) ≡ home_of l.fn.action (reverse l.fn.events)

abbrev pub decreases-loop-event : goal.decreases-loop-event
decreases-loop-event l = length l.events
