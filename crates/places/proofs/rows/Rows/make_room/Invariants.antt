use Rattle.std.proofs.Common.{length, max, ℕ, ◌≡◌, ◌≤◌}
use Rattle.places.specs.Rows.{row_at}
use Rattle.places.proofs.rows.Rows.make_room.Given as goal

abbrev pub invariant-loop : goal.invariant-loop
invariant-loop g l = record {
  same : (i : ℕ) → row_at l.self-inside.rows.items i ≡ row_at l.initial.self-inside.rows.items i;
  count : length l.self-inside.rows.items ≡ l.counter;
  within : length l.self-inside.rows.items ≤ max (length l.initial.self-inside.rows.items) l.places;
}
