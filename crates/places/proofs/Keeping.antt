-- The children of one action, in whichever way they are kept.
use Rattle.std.proofs.Common.{Bool, Err, None, Ok, Result, Some, [], ap, arith, cond, eqb-true, false, refl, sym, true, ℕ, ◌==◌, ◌∙◌, ◌∷◌, ◌≡◌}
use Rattle.std.specs.Cmp.{unsigned_tied}
use Rattle.std.specs.FinMap as map
use Rattle.std.specs.Ordering.{nat_cmp}
use Rattle.std.specs.Prelude.{OnOk}
use Rattle.action_names.specs.Deps.{Deps, IsRising, least_at, with_least}
use Rattle.action_names.proofs.Entries.{get_of, insert-from_sorted, least_at-found}
use Rattle.places.specs.Children.{entries_of}
use Rattle.places.specs.declared.children.Kept.{Kept}

-- the same fact of whatever came where it came
pub ok_then : {A E : Type 0} (r : Result A E) (P Q : Type 0) → (P → Q) → OnOk r P → OnOk r Q
ok_then (Ok x) P Q f h = f h
ok_then (Err e) P Q f h = h

-- ---- one child
pub found_alone : (known place n : ℕ) → known ≡ n → least_at ((known, place) ∷ []) n ≡ Some place
found_alone known place n is = least_at-found ((known, place) ∷ []) n 0 tt (record { in_range = omega arith; same = is }) (0, 0)

pub absent_alone : (known place n : ℕ) → (known ≡ n → ⊥) → least_at ((known, place) ∷ []) n ≡ None
absent_alone known place n other = ap (λ t. cond t (Some place) None) (unsigned_tied n known ∙ of (n == known) refl)
  where
    of : (b : Bool) → (n == known) ≡ b → (n == known) ≡ false
    of true e = absurd (other (sym (eqb-true n known e)))
    of false e = e

-- ---- all of them
module _ (kept : Kept) (children : Deps) (rising : IsRising (entries_of kept)) (same : map.from_sorted {R = nat_cmp} (entries_of kept) ≡ children) where
  pub child_got : (n : ℕ) → least_at (entries_of kept) n ≡ map.get children n
  child_got n = sym (get_of (entries_of kept) n rising) ∙ ap (λ m. map.get m n) same

  pub child_put : (n place : ℕ) → map.from_sorted {R = nat_cmp} (with_least (entries_of kept) n place) ≡ map.insert children n place
  child_put n place = insert-from_sorted (entries_of kept) n place rising ∙ ap (λ m. map.insert m n place) same
