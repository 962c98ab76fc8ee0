use Rattle.std.proofs.Common.{◌≡◌, ◌++◌, ◌+◌, ◌≤◌, length}
use Rattle.std.specs.VecDeque.{deque_len, deque_capacity}
use Rattle.std.specs.VecDeque.Iter.{deque_iter_rest}
use Rattle.values.proofs.chunks.shared.Given as goal

-- with those that are left, the copies are all chunks, and there is room for them
abbrev pub invariant-loop-chunk : goal.invariant-loop-chunk
invariant-loop-chunk l = record {
  same : l.copies.items ++ deque_iter_rest l.chunk-iterator ≡ l.chunks.items;
  room : deque_len l.copies + length (deque_iter_rest l.chunk-iterator) ≤ deque_capacity l.copies;
}
