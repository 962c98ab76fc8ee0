use Rattle.std.proofs.Common.{◌≡◌, ◌+◌, ◌≤◌, vec_len, vec_capacity}
use Rattle.overlays.specs.RecordOverlays.{noted_fields}
use Rattle.overlays.proofs.record.note_fields.Given as goal

abbrev pub invariant-loop-field : goal.invariant-loop-field
invariant-loop-field l = record {
  room : vec_len l.changed + vec_len l.upper ≤ vec_capacity l.changed;
  noted : noted_fields l.changed.items l.upper.items ≡ noted_fields l.initial.changed.items l.initial.upper.items;
}

abbrev pub decreases-loop-field : goal.decreases-loop-field
decreases-loop-field l = goal.left-loop-field l
