-- How many elements of a list pass a test.
use Rattle.std.proofs.Common.{◌≡◌, inl, inr, ℕ, zero, suc, ◌+◌, ◌<◌, ◌≤◌, List, [], ◌∷◌, map, Bool, true, false, cond, IsPermutation}
use Rattle.std.proofs.Common.{take, length, get_or, refl, sym, ap, ◌∙◌, arith}
use Rattle.std.specs.List.{count_by, filter}
use Rattle.std.proofs.lemmas.Bool.{cases_Bool}
use Rattle.std.proofs.lemmas.List.Sorted.{sum_by-IsPermutation}
use Rattle.std.proofs.lemmas.List.Sums.{sum_by-cons}
use Rattle.sqlite_rules.specs.Lists.{Has}

pub has_item : {X : Type 0} (xs : List X) (i : ℕ) (x d : X) → i < length xs → x ≡ get_or xs i d → Has xs x
has_item [] i x d low is = absurd (omega (arith, low))
has_item (y ∷ xs) zero x d low is = inl is
has_item (y ∷ xs) (suc i) x d low is = inr (has_item xs i x d (omega (arith, low)) is)

module _ {X : Type 0} (p : X → Bool) where
  pub counts : (x : X) (xs : List X) → count_by p (x ∷ xs) ≡ cond (p x) 1 0 + count_by p xs
  counts x xs = sum_by-cons (λ y. cond (p y) 1 0) x xs

  pub counts_here : (x : X) (xs : List X) → p x ≡ true → count_by p (x ∷ xs) ≡ 1 + count_by p xs
  counts_here x xs is = counts x xs ∙ ap (λ b. cond b 1 0 + count_by p xs) is

  pub counts_past : (x : X) (xs : List X) → p x ≡ false → count_by p (x ∷ xs) ≡ count_by p xs
  counts_past x xs is =
      let zeroed : count_by p (x ∷ xs) ≡ 0 + count_by p xs = counts x xs ∙ ap (λ b. cond b 1 0 + count_by p xs) is in omega (arith, zeroed)

  pub counts_none : (xs : List X) → ((x : X) → Has xs x → p x ≡ false) → count_by p xs ≡ 0
  counts_none [] h = refl
  counts_none (x ∷ xs) h = counts_past x xs (h x (inl refl)) ∙ counts_none xs (λ y i. h y (inr i))

  pub counts_some : (xs : List X) (x : X) → Has xs x → p x ≡ true → 1 ≤ count_by p xs
  counts_some [] x h is = absurd h
  counts_some (y ∷ xs) x (inl same) is = omega (arith, counts_here y xs (ap p (sym same) ∙ is))
  counts_some (y ∷ xs) x (inr later) is = elim (cases_Bool (p y)) [
    | inl here ↦ omega (arith, counts_here y xs here)
    | inr past ↦ omega (arith, counts_past y xs past, counts_some xs x later is)
  ]

  -- what comes once is one
  pub counts_once : (xs : List X) (a b : X) → count_by p xs ≤ 1 → Has xs a → Has xs b → p a ≡ true → p b ≡ true → a ≡ b
  counts_once [] a b once h k is also = absurd h
  counts_once (x ∷ xs) a b once (inl h) (inl k) is also = h ∙ sym k
  counts_once (x ∷ xs) a b once (inl h) (inr k) is also =
      absurd (omega (arith, once, counts_here x xs (ap p (sym h) ∙ is), counts_some xs b k also))
  counts_once (x ∷ xs) a b once (inr h) (inl k) is also =
      absurd (omega (arith, once, counts_here x xs (ap p (sym k) ∙ also), counts_some xs a h is))
  counts_once (x ∷ xs) a b once (inr h) (inr k) is also = counts_once xs a b (elim (cases_Bool (p x)) [
    | inl here ↦ omega (arith, once, counts_here x xs here)
    | inr past ↦ omega (arith, once, counts_past x xs past)
  ]) h k is also

  pub counts_mapped : {Y : Type 0} (f : Y → X) (ys : List Y) → count_by p (map f ys) ≡ count_by (λ y. p (f y)) ys
  counts_mapped f [] = refl
  counts_mapped f (y ∷ ys) =
      counts (f y) (map f ys) ∙ (ap (λ n. cond (p (f y)) 1 0 + n) (counts_mapped f ys) ∙ sym (sum_by-cons (λ z. cond (p (f z)) 1 0) y ys))

  pub counts_permuted : (xs ys : List X) → IsPermutation xs ys → count_by p ys ≡ count_by p xs
  counts_permuted xs ys same = sum_by-IsPermutation (λ x. cond (p x) 1 0) xs ys same

  -- those that are left are no more
  pub counts_left : (q : X → Bool) (xs : List X) → count_by p (filter q xs) ≤ count_by p xs
  counts_left q [] = omega arith
  counts_left q (x ∷ xs) = go (q x) (counts_left q xs)
    where
      go : (b : Bool) → count_by p (filter q xs) ≤ count_by p xs → count_by p (cond b (x ∷ filter q xs) (filter q xs)) ≤ count_by p (x ∷ xs)
      go true rest = omega (arith, counts x xs, counts x (filter q xs), rest)
      go false rest = omega (arith, counts x xs, rest)

  -- where each that passes also passes another test, no more pass
  pub counts_under : (q : X → Bool) (xs : List X) → ((x : X) → Has xs x → p x ≡ true → q x ≡ true) → count_by p xs ≤ count_by q xs
  counts_under q [] h = omega arith
  counts_under q (x ∷ xs) h =
      let rest = counts_under q xs (λ y there. h y (inr there)) in
      elim (cases_Bool (p x)) [
        | inl here ↦
            let also : count_by q (x ∷ xs) ≡ 1 + count_by q xs = sum_by-cons (λ y. cond (q y) 1 0) x xs ∙ ap (λ b. cond b 1 0 + count_by q xs) (h x (inl refl) here) in
            omega (arith, counts_here x xs here, also, rest)
        | inr past ↦ omega (arith, counts_past x xs past, sum_by-cons (λ y. cond (q y) 1 0) x xs, rest)
      ]

  -- one that came before comes again
  pub counts_again : (xs : List X) (i : ℕ) (x y d : X) → i < length xs → x ≡ get_or xs i d → Has (take i xs) y → p y ≡ true → p x ≡ true
      → count_by p xs ≤ 1 → ⊥
  counts_again [] i x y d low is before here also once = omega (arith, low)
  counts_again (z ∷ xs) zero x y d low is before here also once = before
  counts_again (z ∷ xs) (suc i) x y d low is (inl same) here also once =
      omega (arith, once, counts_here z xs (ap p (sym same) ∙ here), counts_some xs x (has_item xs i x d (omega (arith, low)) is) also)
  counts_again (z ∷ xs) (suc i) x y d low is (inr before) here also once =
      counts_again xs i x y d (omega (arith, low)) is before here also (elim (cases_Bool (p z)) [
        | inl passes ↦ omega (arith, once, counts_here z xs passes)
        | inr past ↦ omega (arith, once, counts_past z xs past)
      ])
