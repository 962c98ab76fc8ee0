-- Numbers in a list to which some are added.
use lib.Dec.{eqb}
use Rattle.std.proofs.Common.{Err, List, Ok, Result, [], arith, eq-eqb, eqb-true, get_or, inl, inr, length, subst, suc, sym, true, zero, ℕ, ◌++◌, ◌<◌, ◌==◌, ◌∷◌, ◌≡◌}
use Rattle.std.proofs.lemmas.Bool.{false≢true, or_cases, or_left, or_right}
use Rattle.std.proofs.lemmas.List.Filters.{dedup_is}
use Rattle.std.proofs.lemmas.List.Kept.{Contains-dedup_nat}
use Rattle.std.proofs.lemmas.List.Sorted.{Contains-permutation}
use Rattle.std.proofs.lemmas.Map.Views.{Contains-from_any}
use Rattle.std.specs.List.{Contains, insert}
use Rattle.std.specs.List.Retain.{DiffersFromLast, IsFiltered}
use Rattle.std.specs.Prelude.{IsPermutation, if◌then◌else◌}
use Rattle.std.specs.Result.{is_ok}
use Rattle.run_laws.proofs.Names.{eqb_self}
use Rattle.service.proofs.Concluded.{has_front}
use Rattle.service.specs.Transacting.{Includes, has_number}

-- a number that stands at some place
pub has_at : (xs : List ℕ) (i n : ℕ) → i < length xs → get_or xs i 0 ≡ n → has_number xs n ≡ true
has_at [] i n l e = absurd (omega arith)
has_at (x ∷ xs) zero n l e = or_left _ _ (eq-eqb x n e)
has_at (x ∷ xs) (suc i) n l e = or_right (x == n) _ (has_at xs i n (omega arith) e)

pub includes_inserted : (xs : List ℕ) (i x : ℕ) → Includes xs (insert xs i x)
includes_inserted [] i x n h = absurd (false≢true h)
includes_inserted (y ∷ xs) zero x n h = or_right (x == n) _ h
includes_inserted (y ∷ xs) (suc i) x n h = elim (or_cases (y == n) (has_number xs n) h) [
  | inl k ↦ or_left (y == n) (has_number (insert xs i x) n) k
  | inr k ↦ or_right (y == n) (has_number (insert xs i x) n) (includes_inserted xs i x n k)
]

pub has_inserted : (xs : List ℕ) (i x : ℕ) → has_number (insert xs i x) x ≡ true
has_inserted [] zero x = or_left _ _ (eqb_self x)
has_inserted [] (suc i) x = or_left _ _ (eqb_self x)
has_inserted (y ∷ xs) zero x = or_left _ _ (eqb_self x)
has_inserted (y ∷ xs) (suc i) x = or_right (y == x) _ (has_inserted xs i x)

-- ---- the numbers of two lists

-- a number of the list stands somewhere, and back
has_contains : (xs : List ℕ) (n : ℕ) → has_number xs n ≡ true → Contains xs n
has_contains xs n h = Contains-from_any {eq = λ q k. k == q} (λ q k e. sym (eqb-true k q e)) n xs h

contains_at : (xs : List ℕ) (i n : ℕ) → i < length xs → get_or xs i n ≡ n → has_number xs n ≡ true
contains_at [] i n l e = absurd (omega arith)
contains_at (x ∷ xs) zero n l e = or_left _ _ (eq-eqb x n e)
contains_at (x ∷ xs) (suc i) n l e = or_right (x == n) _ (contains_at xs i n (omega arith) e)

contains_has : (xs : List ℕ) (n : ℕ) → Contains xs n → has_number xs n ≡ true
contains_has xs n (i, l, e) = contains_at xs i n l e

includes_behind : (xs ys : List ℕ) → Includes ys (xs ++ ys)
includes_behind [] ys n h = h
includes_behind (x ∷ xs) ys n h = or_right (x == n) (has_number (xs ++ ys) n) (includes_behind xs ys n h)

-- in another order, and each once
includes_sorted : (xs ys : List ℕ) → IsPermutation xs ys → Includes xs ys
includes_sorted xs ys p n h = contains_has ys n (Contains-permutation xs ys n p (has_contains xs n h))

includes_once : (xs ys : List ℕ) → IsFiltered (DiffersFromLast eqb) [] xs ys → Includes xs ys
includes_once xs ys f n h =
    contains_has ys n (subst (λ zs. Contains zs n) (sym (dedup_is eqb xs ys f)) (Contains-dedup_nat xs n (has_contains xs n h)))

-- what was appended, if there was room for it
pub appended : {T E : Type 0} (r : Result T E) (xs ys both : List ℕ) → is_ok r ≡ true → both ≡ (if is_ok r then xs ++ ys else xs) → both ≡ xs ++ ys
appended (Ok x) xs ys both h e = e
appended (Err x) xs ys both h e = absurd (false≢true h)

module _ (xs ys both sorted once : List ℕ) (append : both ≡ xs ++ ys) (sort : IsPermutation both sorted)
    (dedup : IsFiltered (DiffersFromLast eqb) [] sorted once) where
  includes_both : Includes both once
  includes_both n h = includes_once sorted once dedup n (includes_sorted both sorted sort n h)

  pub includes_first : Includes xs once
  includes_first n h = includes_both n (subst (λ zs. has_number zs n ≡ true) (sym append) (has_front xs ys n h))

  pub includes_second : Includes ys once
  includes_second n h = includes_both n (subst (λ zs. has_number zs n ≡ true) (sym append) (includes_behind xs ys n h))
