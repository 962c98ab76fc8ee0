use Rattle.std.proofs.Common.{◌≡◌, ◌++◌, ◌+◌, replicate}
use Rattle.std.specs.VecDeque.{deque_len, deque_capacity}
use Rattle.values.specs.Bounds.{plain_value}
use Rattle.values.proofs.chunks.add_plain.Given as goal

-- so many are added behind
abbrev pub invariant-loop : goal.invariant-loop
invariant-loop l = record {
  added : l.items.items ≡ l.initial.items.items ++ replicate l.counter (plain_value l.kind);
  many : deque_len l.items ≡ deque_len l.initial.items + l.counter;
  room : deque_capacity l.items ≡ deque_capacity l.initial.items;
}

-- so many are added in front
abbrev pub invariant-loop-2 : goal.invariant-loop-2
invariant-loop-2 l = record {
  added : l.items.items ≡ replicate l.counter (plain_value l.kind) ++ l.initial.items.items;
  many : deque_len l.items ≡ deque_len l.initial.items + l.counter;
  room : deque_capacity l.items ≡ deque_capacity l.initial.items;
}
