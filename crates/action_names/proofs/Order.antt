-- The order of names by their first numbers that differ.
use Rattle.std.proofs.Common.{◌≡◌, ◌≢◌, ℕ, zero, suc, ◌<◌, true, false, min, [], ◌∷◌, length, get_or, refl, ap, ◌∙◌, arith}
use Rattle.std.specs.Ordering.{nat_cmp, ordering_then}
use Rattle.std.specs.declared.cmp.Ordering.{Ordering}
use Rattle.std.specs.declared.cmp.Ordering.TheVariants.{Less, Greater}
use Rattle.std.specs.Cmp.{nat_cmp_is}
use Rattle.std.proofs.lemmas.Bool.{eq-eqb, false_from_ne_true}
use Rattle.std.proofs.lemmas.Bool.Decides.{nat_tests}
use Rattle.action_names.specs.Names.{Name, name_cmp, same_name}
use Rattle.action_names.proofs.Ancestry.{and_of, same_is}

differing : (x y : ℕ) (r : Ordering) → x ≢ y → ordering_then (nat_cmp x y) r ≡ nat_cmp x y
differing x y r ne = grind (arith, nat_tests)

same_number : (x y : ℕ) (r : Ordering) → x ≡ y → ordering_then (nat_cmp x y) r ≡ r
same_number x y r e = grind (arith, nat_tests)

shorter : (n : ℕ) → Less ≡ nat_cmp 0 (suc n)
shorter n = nat_cmp_is 0 (suc n) Less (omega arith)

longer : (n : ℕ) → Greater ≡ nat_cmp (suc n) 0
longer n = nat_cmp_is (suc n) 0 Greater (omega arith)

one_more : (m n : ℕ) → nat_cmp m n ≡ nat_cmp (suc m) (suc n)
one_more m n = grind (arith, nat_tests)

below_rest : (x y : ℕ) (a b : Name) (n : ℕ) → ((k : ℕ) → k < suc n → get_or (x ∷ a) k 0 ≡ get_or (y ∷ b) k 0) → (k : ℕ) → k < n → get_or a k 0 ≡ get_or b k 0
below_rest x y a b n same k h = same (suc k) (omega arith)

-- where the numbers before it are the same, the first two that differ decide
pub first_unequal : (a b : Name) (i : ℕ) → ((k : ℕ) → k < i → get_or a k 0 ≡ get_or b k 0) → i < length a → i < length b
    → get_or a i 0 ≢ get_or b i 0 → name_cmp a b ≡ nat_cmp (get_or a i 0) (get_or b i 0)
first_unequal [] b i same h k ne = absurd (omega arith)
first_unequal (x ∷ a) [] i same h k ne = absurd (omega arith)
first_unequal (x ∷ a) (y ∷ b) zero same h k ne = differing x y (name_cmp a b) ne
first_unequal (x ∷ a) (y ∷ b) (suc i) same h k ne =
    same_number x y (name_cmp a b) (same 0 (omega arith)) ∙ first_unequal a b i (below_rest x y a b i same) (omega arith) (omega arith) ne

-- where one is a beginning of the other, the lengths decide
pub beginning : (a b : Name) (n : ℕ) → n ≡ min (length a) (length b) → ((k : ℕ) → k < n → get_or a k 0 ≡ get_or b k 0)
    → name_cmp a b ≡ nat_cmp (length a) (length b)
beginning [] [] n e same = refl
beginning [] (y ∷ b) n e same = shorter (length b)
beginning (x ∷ a) [] n e same = longer (length a)
beginning (x ∷ a) (y ∷ b) zero e same = absurd (omega arith)
beginning (x ∷ a) (y ∷ b) (suc n) e same =
    same_number x y (name_cmp a b) (same 0 (omega arith)) ∙ beginning a b n (omega arith) (below_rest x y a b n same)
    ∙ one_more (length a) (length b)

-- names with as many numbers, of which each is the same, are the same
pub same_throughout : (a b : Name) → length a ≡ length b → ((k : ℕ) → k < length a → get_or a k 0 ≡ get_or b k 0) → same_name a b ≡ true
same_throughout [] [] e same = refl
same_throughout [] (y ∷ b) e same = absurd (omega arith)
same_throughout (x ∷ a) [] e same = absurd (omega arith)
same_throughout (x ∷ a) (y ∷ b) e same =
    and_of _ _ (eq-eqb x y (same 0 (omega arith))) (same_throughout a b (omega arith) (below_rest x y a b (length a) same))

-- names that differ in a number are not the same
pub differs_at : (a b : Name) (i : ℕ) → get_or a i 0 ≢ get_or b i 0 → same_name a b ≡ false
differs_at a b i ne = false_from_ne_true _ (λ h. ne (ap (λ c. get_or c i 0) (same_is a b h)))
