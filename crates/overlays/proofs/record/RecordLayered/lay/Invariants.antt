use Rattle.std.proofs.Common.{◌≡◌}
use Rattle.overlays.specs.RecordOverlays.{laid_fields}
use Rattle.overlays.proofs.record.RecordLayered.lay.Given as goal

abbrev pub invariant-loop-field : goal.invariant-loop-field
invariant-loop-field l = laid_fields l.self l.changed.items ≡ laid_fields l.initial.self l.initial.changed.items

abbrev pub decreases-loop-field : goal.decreases-loop-field
decreases-loop-field l = goal.left-loop-field l
