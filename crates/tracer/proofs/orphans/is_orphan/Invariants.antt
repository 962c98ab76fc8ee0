use Rattle.std.proofs.Common.{◌≡◌, length, reverse}
use Rattle.std.specs.List.{list_any}
use Rattle.run_model.specs.Actions.{begun}
use Rattle.tracer.specs.Endings.{AreEndings}
use Rattle.tracer.specs.Losses.{is_seen_loss}
use Rattle.tracer.proofs.orphans.is_orphan.Given as goal

-- the actions that the events that are left begin decide
abbrev pub invariant-loop-event : goal.invariant-loop-event
invariant-loop-event l =
    AreEndings l.endings l.history
    → list_any (is_seen_loss l.action l.history) (begun (reverse l.events)) ≡ list_any (is_seen_loss l.action l.history) (begun l.history)

abbrev pub decreases-loop-event : goal.decreases-loop-event
decreases-loop-event l = length l.events
