use Rattle.std.proofs.Common.{length, reverse}
use Rattle.tracer.specs.Endings.{AreEndings}
use Rattle.tracer.specs.Explained.{IsPlaced}
use Rattle.tracer.proofs.explained.seen_by_place.Given as goal

-- of the events that are left nothing is placed yet
abbrev pub invariant-loop-event : goal.invariant-loop-event
invariant-loop-event l = AreEndings l.endings l.history → IsPlaced l.action l.history (reverse l.events) l.seen.entries

abbrev pub decreases-loop-event : goal.decreases-loop-event
decreases-loop-event l = length l.events
