use Rattle.std.proofs.Common.{◌≡◌, ◌≤◌, length, take, drop}
use Rattle.values.proofs.chunks.Chunks.cut.Given as goal

-- so many items are dropped in front
abbrev pub invariant-loop : goal.invariant-loop
invariant-loop l = l.self ≡ drop l.counter l.initial.self

-- those that are kept stay
abbrev pub invariant-loop-self : goal.invariant-loop-self
invariant-loop-self l = record {
  kept : l.cut.kept ≤ length l.self;
  same : take l.cut.kept l.self ≡ take l.cut.kept l.initial.self;
}

abbrev pub decreases-loop-self : goal.decreases-loop-self
decreases-loop-self l = length l.self
