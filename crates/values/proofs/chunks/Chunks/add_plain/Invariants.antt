use Rattle.std.proofs.Common.{◌≡◌, ◌++◌, ◌+◌, length, replicate}
use Rattle.values.specs.Bounds.{plain_value}
use Rattle.values.proofs.chunks.Chunks.add_plain.Given as goal

-- so many are added behind
abbrev pub invariant-loop : goal.invariant-loop
invariant-loop l = record {
  added : l.self ≡ l.initial.self ++ replicate l.counter (plain_value l.kind);
  many : length l.self ≡ length l.initial.self + l.counter;
}

-- so many are added in front
abbrev pub invariant-loop-2 : goal.invariant-loop-2
invariant-loop-2 l = record {
  added : l.self ≡ replicate l.counter (plain_value l.kind) ++ l.initial.self;
  many : length l.self ≡ length l.initial.self + l.counter;
}
