use Rattle.std.proofs.Common.{◌≡◌, ℕ, ◌+◌, ◌≤◌, ◌||◌, drop, vec_len, vec_capacity}
use Rattle.guardian_index.specs.Held.{IsRising, has_number}
use Rattle.guardian_index.proofs.rising.insert_all.Given as goal

-- the others so far are there, and there is room for the rest
abbrev pub invariant-loop-object : goal.invariant-loop-object
invariant-loop-object l = record {
  rising : IsRising l.objects.items;
  numbers : (n : ℕ) → has_number (drop l.object-index l.others) n || has_number l.objects.items n ≡ has_number l.others n || has_number l.initial.objects.items n;
  len : vec_len l.objects ≤ vec_len l.initial.objects + l.object-index;
  capacity : vec_capacity l.objects ≡ vec_capacity l.initial.objects;
}
