use Rattle.std.proofs.Common.{◌||◌, ℕ, drop}
use Rattle.std.specs.Prelude.{◌↔◌, IsTrue}
use Rattle.guardian_index.specs.Held.{IsRising, has_number, HoldsBelow}
use Rattle.guardian_index.proofs.Descendants.{any_has}
use Rattle.guardian_index.proofs.few.FewRows.objects_below.Given as goal

-- the objects of the rows so far are there, and those of the rows that are left come to them
abbrev pub invariant-loop-objects : goal.invariant-loop-objects
invariant-loop-objects l = record {
  rising : IsRising l.below.items;
  numbers : (n : ℕ) → IsTrue (any_has (drop l.objects-index l.objects-items) n || has_number l.below.items n) ↔ HoldsBelow l.self l.action n;
}
