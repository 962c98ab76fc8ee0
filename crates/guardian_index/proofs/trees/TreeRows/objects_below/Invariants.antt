use Rattle.std.proofs.Common.{◌||◌, ℕ}
use Rattle.std.specs.Prelude.{◌↔◌, IsTrue}
use Rattle.guardian_index.specs.Held.{IsRising, has_number, HoldsBelow}
use Rattle.guardian_index.proofs.Descendants.{any_has, first_below}
use Rattle.guardian_index.proofs.trees.TreeRows.objects_below.Given as goal

-- the objects of the rows so far are there, and those of the rows that are left come to them
abbrev pub invariant-loop-holder : goal.invariant-loop-holder
invariant-loop-holder l = record {
  rising : IsRising l.below.items;
  numbers : (n : ℕ) → IsTrue (any_has (first_below l.action l.holder-iterator) n || has_number l.below.items n) ↔ HoldsBelow l.self l.action n;
}
