use Rattle.std.proofs.Common.{length, vec_capacity, ◌+◌, ◌-◌, ◌≡◌, ◌≤◌}
use Rattle.one_run.specs.Pieces.{places_from}
use Rattle.locked_run.specs.Beginning.{held_from}
use Rattle.locked_run.proofs.beginning.hold.Given as goal

abbrev pub invariant-loop-guardian : goal.invariant-loop-guardian
invariant-loop-guardian g l = record {
  can_next : (goal.iterator-loop-guardian g).can_next l.guardian-iterator;
  is_finite : (goal.iterator-loop-guardian g).is_finite l.guardian-iterator;
  table : l.rest.token.table_id ≡ g.K.OfRun.table;
  places : l.rest.token.me.0 ≡ places_from (length l.yielded + 2) (length l.fn.guardians.items - length l.yielded);
  held : l.held.items ≡ held_from 1 l.yielded;
  count : length l.held.items ≡ length l.yielded;
  room : length l.fn.guardians.items ≤ vec_capacity l.held;
}
