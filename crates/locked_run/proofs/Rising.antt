-- Numbers that do not fall, and of which none stands twice, fill the range that has just so many.
use Rattle.std.proofs.Common.{◌≡◌, ◌==◌, ◌+◌, ◌<◌, ◌≤◌, ℕ, zero, suc, Bool, true, false, List, [], ◌∷◌, Some, None, cond, length, refl, ap, subst, arith, slice_get}
use Rattle.std.proofs.lemmas.Bool.{eqb-false}
use Rattle.std.proofs.lemmas.Bool.Decides.{nat_tests}
use Rattle.std.specs.List.{AllByRecursion}
use Rattle.std.specs.List.Sorted.{IsNonDecreasingBy}
use Rattle.std.proofs.lemmas.List.Elements.{recursion_from_All}
use Rattle.one_run.specs.Pieces.{total}

module _ {X : Type 0} (n : X → ℕ) where
  -- each is this at least, each is below
  abbrev pub From : ℕ → List X → Type 0
  From low xs = AllByRecursion (λ x. low ≤ n x) xs

  abbrev pub Under : ℕ → List X → Type 0
  Under top xs = AllByRecursion (λ x. n x < top) xs

  -- none is less than one before it
  abbrev pub Rising : List X → Type 0
  Rising [] = Unit {0}
  Rising (x ∷ xs) = From (n x) xs × Rising xs

  -- how often a number stands there
  abbrev pub times : ℕ → List X → ℕ
  times j xs = total (λ x. cond {A = ℕ} (n x == j) 1 0) xs

  -- they are this number and those that follow it
  abbrev pub Counting : ℕ → List X → Type 0
  Counting k [] = Unit {0}
  Counting k (x ∷ xs) = (n x ≡ k) × Counting (suc k) xs

  pub rising : (xs : List X) → IsNonDecreasingBy n xs → Rising xs
  rising [] h = tt
  rising (x ∷ xs) h = (
    recursion_from_All (λ y. n x ≤ n y) xs (λ k d lt. h 0 (suc k) d (omega arith) (omega arith)),
    rising xs (λ i j d le lt. h (suc i) (suc j) d (omega arith) (omega arith)),
  )

  -- what does not stand there again is above
  above : (m : ℕ) (xs : List X) → From m xs → times m xs ≡ 0 → From (suc m) xs
  above m [] f none = tt
  above m (x ∷ xs) f none = of (n x == m) refl (λ rest. above m xs f.1 rest)
    where
      of : (b : Bool) → (n x == m) ≡ b → (times m xs ≡ 0 → From (suc m) xs) → (suc m ≤ n x) × From (suc m) xs
      of true is others =
          let one : cond {A = ℕ} (n x == m) 1 0 ≡ 1 = ap (λ (b : Bool). cond {A = ℕ} b 1 0) is in
          absurd (omega arith)
      of false is others =
          let apart = eqb-false (n x) m is in
          let low = f.0 in
          (omega arith, others (omega arith))

  head_once : (x : X) (xs : List X) → ((j : ℕ) → times j (x ∷ xs) ≤ 1) → times (n x) xs ≡ 0
  head_once x xs once =
      let self : (n x == n x) ≡ true = grind (arith, nat_tests) in
      let one : cond {A = ℕ} (n x == n x) 1 0 ≡ 1 = ap (λ (b : Bool). cond {A = ℕ} b 1 0) self in
      let all = once (n x) in
      omega arith

  rest_once : (x : X) (xs : List X) → ((j : ℕ) → times j (x ∷ xs) ≤ 1) → (j : ℕ) → times j xs ≤ 1
  rest_once x xs once j = let all = once j in omega arith

  -- there is room for all of them
  room : (m top : ℕ) (xs : List X) → m ≤ top → From m xs → Under top xs → Rising xs → ((j : ℕ) → times j xs ≤ 1) → m + length xs ≤ top
  room m top [] le f u r once = omega arith
  room m top (x ∷ xs) le f u r once =
      let rest = room (suc (n x)) top xs (omega (arith, u.0)) (above (n x) xs r.0 (head_once x xs once)) u.1 r.1 (rest_once x xs once) in
      let low = f.0 in
      omega arith

  pub counting : (k : ℕ) (xs : List X) → From k xs → Under (k + length xs) xs → Rising xs → ((j : ℕ) → times j xs ≤ 1) → Counting k xs
  counting k [] f u r once = tt
  counting k (x ∷ xs) f u r once =
      let more = above (n x) xs r.0 (head_once x xs once) in
      let fits = room (suc (n x)) (k + length (x ∷ xs)) xs (omega (arith, u.0)) more u.1 r.1 (rest_once x xs once) in
      let here : n x ≡ k = let low = f.0 in omega arith in
      let top : k + length (x ∷ xs) ≡ suc k + length xs = omega arith in
      (here, counting (suc k) xs (subst (λ m. From (suc m) xs) here more) (subst (λ t. Under t xs) top u.1) r.1 (rest_once x xs once))

  pub counted_at : (k : ℕ) (xs : List X) (i : ℕ) (x : X) → Counting k xs → slice_get xs i ≡ Some x → n x ≡ k + i
  counted_at k [] i x c is = absurd (none x is)
    where
      none : (a : X) → None ≡ Some a → ⊥
      none a q = cc
  counted_at k (y ∷ ys) zero x c is = let same = ap n (some_same y x is) in let here = c.0 in omega arith
    where
      some_same : (a b : X) → Some a ≡ Some b → a ≡ b
      some_same a b q = cc
  counted_at k (y ∷ ys) (suc i) x c is = let rest = counted_at (suc k) ys i x c.1 is in omega arith
