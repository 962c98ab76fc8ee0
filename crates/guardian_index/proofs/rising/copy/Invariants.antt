use Rattle.std.proofs.Common.{◌≡◌, take}
use Rattle.std.specs.Prelude.{vec_len, vec_capacity}
use Rattle.guardian_index.proofs.rising.copy.Given as goal

-- the objects so far are copied, and there is room for the others
abbrev pub invariant-loop-at : goal.invariant-loop-at
invariant-loop-at l = record {
  objects : l.copy.items ≡ take l.at l.object-items;
  len : vec_len l.copy ≡ l.at;
  room : vec_capacity l.copy ≡ vec_capacity l.objects;
}
