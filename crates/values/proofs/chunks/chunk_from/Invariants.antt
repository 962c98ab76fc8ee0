use Rattle.std.proofs.Common.{◌≡◌, ◌≤◌, take, drop}
use Rattle.std.specs.List.{AllByRecursion}
use Rattle.std.specs.VecDeque.{deque_len, deque_capacity}
use Rattle.values.specs.Values.{IsValue}
use Rattle.values.specs.Chunks.{chunk_size}
use Rattle.values.proofs.chunks.chunk_from.Given as goal

-- so many items are copied
abbrev pub invariant-loop-count : goal.invariant-loop-count
invariant-loop-count l = record {
  same : l.copies.items ≡ take l.count (drop l.place l.items.items);
  fit : AllByRecursion IsValue (take l.count (drop l.place l.items.items));
  many : deque_len l.copies ≡ l.count;
  room : chunk_size ≤ deque_capacity l.copies;
}
