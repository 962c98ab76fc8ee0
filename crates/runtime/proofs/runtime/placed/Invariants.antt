use Rattle.std.proofs.Common.{length, vec_capacity, vec_len, ◌≡◌, ◌≤◌}
use Rattle.runtime.proofs.runtime.placed.Given as goal

abbrev pub invariant-loop-held : goal.invariant-loop-held
invariant-loop-held g l = record {
  can_next : (goal.iterator-loop-held g).can_next l.held-iterator;
  is_finite : (goal.iterator-loop-held g).is_finite l.held-iterator;
  count : vec_len l.places ≡ length l.yielded;
  room : length l.fn.guardians.items ≤ vec_capacity l.places;
}
