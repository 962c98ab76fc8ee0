use Rattle.std.proofs.Common.{◌≡◌, ◌++◌}
use Rattle.std.specs.VecDeque.Iter.{deque_iter_rest}
use Rattle.values.specs.Chunks.{joined, values_tokens}
use Rattle.values.proofs.chunks.Chunks.write_tokens.Given as goal

-- with the chunks that are left to be written, the tokens are those of all chunks
abbrev pub invariant-loop-chunk : goal.invariant-loop-chunk
invariant-loop-chunk l = record {
  tokens : l.out.tokens ++ values_tokens (joined (deque_iter_rest l.chunk-iterator)) ≡ l.initial.out.tokens ++ values_tokens (joined l.self-inside.middle.items);
  before : l.out.before ≡ l.initial.out.before;
}
