use Rattle.std.proofs.Common.{◌≡◌, drop}
use Rattle.std.specs.VecDeque.{deque_capacity}
use Rattle.values.proofs.chunks.keep_items.Given as goal

-- so many items are dropped
abbrev pub invariant-loop : goal.invariant-loop
invariant-loop l = record {
  dropped : l.items.items ≡ drop l.counter l.initial.items.items;
  room : deque_capacity l.items ≡ deque_capacity l.initial.items;
}
