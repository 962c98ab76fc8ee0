use Rattle.std.proofs.Common.{length, vec_capacity, vec_len, ◌≡◌, ◌≤◌}
use Rattle.runtime.proofs.runtime.unplaced.Given as goal

abbrev pub invariant-loop-place : goal.invariant-loop-place
invariant-loop-place g l = record {
  can_next : (goal.iterator-loop-place g).can_next l.place-iterator;
  is_finite : (goal.iterator-loop-place g).is_finite l.place-iterator;
  count : vec_len l.held ≡ length l.yielded;
  room : length l.fn.places.items ≤ vec_capacity l.held;
}
