use Rattle.smallvec.specs.SmallVec.{small_vec_len}
use Rattle.std.proofs.Common.{◌≡◌, ℕ, ◌+◌, ◌≤◌, drop}
use Rattle.action_names.specs.Deps.{lesser, IsRising, least_at, count_new}
use Rattle.action_names.proofs.deps.merge_in.Given as goal

-- the entries so far are taken in, and there is room for the rest
abbrev pub invariant-loop-at : goal.invariant-loop-at
invariant-loop-at l = record {
  rising : IsRising l.least.items;
  merged : (g : ℕ) → lesser (least_at l.least.items g) (least_at (drop l.at l.others) g) ≡ lesser (least_at l.initial.least.items g) (least_at l.others g);
  room : small_vec_len l.least + count_new l.least.items (drop l.at l.others) ≤ l.least.capacity;
}
