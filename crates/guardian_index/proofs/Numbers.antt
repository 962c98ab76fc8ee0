-- Numbers that rise: the place of one more, and those that pass a test.
use Rattle.std.proofs.Common.{◌≡◌, ℕ, zero, suc, ◌<◌, ◌≤◌, Bool, true, false, ◌||◌, ◌&&◌, ◌==◌, filter, List, [], ◌∷◌, length, get_or, refl, sym, ap, ◌∙◌, subst, arith}
use Rattle.std.proofs.lemmas.Bool.{eqb-true, eq-eqb, ne_eqb, ltb-true}
use Rattle.std.proofs.lemmas.Bool.Decides.{nat_tests}
use Rattle.std.proofs.lemmas.Cmp.{ranked}
use Rattle.std.proofs.lemmas.List.Sorted.{searched}
use Rattle.std.specs.Prelude.{Result, Ok, Err, nat_lt}
use Rattle.std.specs.List.{AllByRecursion, insert}
use Rattle.std.specs.List.Sorted.{IsStrictlySortedBy, IsBinarySearchResult}
use Rattle.std.specs.Ordering.{nat_cmp}
use Rattle.std.specs.declared.cmp.Ordering.TheVariants.{Less}
use Rattle.guardian_index.specs.Held.{IsRising, has_number}

cmp_less : (x y : ℕ) → x < y → nat_cmp x y ≡ Less
cmp_less x y h = grind (arith, nat_tests)

less_cmp : (x y : ℕ) → nat_cmp x y ≡ Less → x < y
less_cmp x y e = ranked x y Less (sym e)

-- all these numbers are above x
abbrev StandAbove : ℕ → List ℕ → Type 0
StandAbove x ns = AllByRecursion (λ y. nat_cmp x y ≡ Less) ns

above_at : (x : ℕ) (ns : List ℕ) → StandAbove x ns → (i : ℕ) → i < length ns → x < get_or ns i 0
above_at x [] h i l = absurd (omega arith)
above_at x (y ∷ ns) h zero l = less_cmp x y h.0
above_at x (y ∷ ns) h (suc i) l = above_at x ns h.1 i (omega arith)

above_all : (x : ℕ) (ns : List ℕ) → ((k : ℕ) → k < length ns → x < get_or ns k 0) → StandAbove x ns
above_all x [] h = tt
above_all x (y ∷ ns) h = (cmp_less x y (h 0 (omega arith)), above_all x ns (λ k l. h (suc k) (omega arith)))

rises : (ns : List ℕ) → IsRising ns → (i j : ℕ) → i < j → j < length ns → get_or ns i 0 < get_or ns j 0
unfolding IsStrictlySortedBy
rises [] s i j lt l = absurd (omega arith)
rises (x ∷ ns) s i zero lt l = absurd (omega arith)
rises (x ∷ ns) s zero (suc j) lt l = above_at x ns s.0 j (omega arith)
rises (x ∷ ns) s (suc i) (suc j) lt l = rises ns s.1 i j (omega arith) (omega arith)

-- so a binary search may go by it
pub never_falls : (ns : List ℕ) → IsRising ns → (i j : ℕ) → i ≤ j → j < length ns → get_or ns i 0 ≤ get_or ns j 0
never_falls ns s i j le l = grind (arith, rises ns s i j, λ (same : i ≡ j). ap (λ k. get_or ns k 0) same)

-- n is not there, and would go to place i
pub record IsGap (ns : List ℕ) (n i : ℕ) : Type 0 where
  pub in_range : i ≤ length ns
  pub smaller_before : (k : ℕ) → k < i → get_or ns k 0 < n
  pub greater_after : (k : ℕ) → i ≤ k → k < length ns → n < get_or ns k 0

gap_tail : (x : ℕ) (ns : List ℕ) (n i : ℕ) → IsGap (x ∷ ns) n (suc i) → IsGap ns n i
gap_tail x ns n i gap = record {
  in_range = omega (arith, gap.in_range);
  smaller_before = λ k lt. gap.smaller_before (suc k) (omega arith);
  greater_after = λ k le lt. gap.greater_after (suc k) (omega arith) (omega arith);
}

gap_after : (x : ℕ) (ns : List ℕ) (n : ℕ) → IsGap (x ∷ ns) n zero → IsGap ns n zero
gap_after x ns n gap = record {
  in_range = omega arith;
  smaller_before = λ k lt. absurd (omega arith);
  greater_after = λ k le lt. gap.greater_after (suc k) (omega arith) (omega arith);
}

pub absent : (ns : List ℕ) (n i : ℕ) → IsGap ns n i → has_number ns n ≡ false
absent [] n i gap = refl
absent (x ∷ ns) n zero gap =
    let above : n < x = gap.greater_after 0 (omega arith) (omega arith) in
    rw (ne_eqb x n (λ (same : x ≡ n). omega arith)) (absent ns n zero (gap_after x ns n gap))
absent (x ∷ ns) n (suc i) gap =
    let below : x < n = gap.smaller_before 0 (omega arith) in
    rw (ne_eqb x n (λ (same : x ≡ n). omega arith)) (absent ns n i (gap_tail x ns n i gap))

pub present : (ns : List ℕ) (n i : ℕ) → i < length ns → get_or ns i 0 ≡ n → has_number ns n ≡ true
present [] n i l e = absurd (omega arith)
present (x ∷ ns) n zero l e = rw (eq-eqb x n e) refl
present (x ∷ ns) n (suc i) l e = either (x == n) (present ns n i (omega arith) e) where
  either : (t : Bool) {r : Bool} → r ≡ true → t || r ≡ true
  either true k = refl
  either false k = k

-- a search finds the number, or where it would go
pub place_from : (ns : List ℕ) (n : ℕ) (r : Result ℕ ℕ) → IsRising ns → IsBinarySearchResult (λ y. nat_cmp y n) ns r → (i : ℕ) → r ≡ Err i → IsGap ns n i
place_from ns n (Ok j) s h i e = cc
place_from ns n (Err j) s h i e =
    let facts = searched ns n (Err j) h (never_falls ns s) in
    let same : j ≡ i = cc in
    subst (IsGap ns n) same (record { in_range = facts.0; smaller_before = facts.1; greater_after = facts.2 })

pub there_from : (ns : List ℕ) (n : ℕ) (r : Result ℕ ℕ) → IsRising ns → IsBinarySearchResult (λ y. nat_cmp y n) ns r → (i : ℕ) → r ≡ Ok i → has_number ns n ≡ true
there_from ns n (Err j) s h i e = cc
there_from ns n (Ok j) s h i e = let facts = searched ns n (Ok j) h (never_falls ns s) in present ns n j facts.0 facts.1

pub room_for : (ns : List ℕ) (n i len capacity : ℕ) → IsGap ns n i → has_number ns n || nat_lt len capacity ≡ true → len < capacity
room_for ns n i len capacity gap h = ltb-true len capacity (rw (absent ns n i gap) at h)

-- one that is there is there again
pub there_again : (ns : List ℕ) (m : ℕ) → has_number ns m ≡ true → (n : ℕ) → has_number ns n ≡ (m == n) || has_number ns n
there_again ns m h n = by_case (m == n) refl where
  by_case : (t : Bool) → (m == n) ≡ t → has_number ns n ≡ t || has_number ns n
  by_case true d = subst (λ k. has_number ns k ≡ true) (eqb-true m n d) h
  by_case false d = refl

-- ---- one more number
turned : (s t r : Bool) → s || (t || r) ≡ t || (s || r)
turned true true r = refl
turned true false r = refl
turned false t r = refl

pub has_insert : (ns : List ℕ) (n i : ℕ) → i ≤ length ns → (m : ℕ) → has_number (insert ns i n) m ≡ (n == m) || has_number ns m
has_insert [] n zero l m = refl
has_insert [] n (suc i) l m = absurd (omega arith)
has_insert (x ∷ ns) n zero l m = refl
has_insert (x ∷ ns) n (suc i) l m =
    ap (λ t. (x == m) || t) (has_insert ns n i (omega arith) m) ∙ turned (x == m) (n == m) (has_number ns m)

above_insert : (x : ℕ) (ns : List ℕ) (n i : ℕ) → i ≤ length ns → x < n → StandAbove x ns → StandAbove x (insert ns i n)
above_insert x [] n zero l lt h = (cmp_less x n lt, tt)
above_insert x [] n (suc i) l lt h = absurd (omega arith)
above_insert x (y ∷ ns) n zero l lt h = (cmp_less x n lt, h)
above_insert x (y ∷ ns) n (suc i) l lt h = (h.0, above_insert x ns n i (omega arith) lt h.1)

pub rising_insert : (ns : List ℕ) (n i : ℕ) → IsRising ns → IsGap ns n i → IsRising (insert ns i n)
unfolding IsStrictlySortedBy
rising_insert [] n zero s gap = (tt, tt)
rising_insert [] n (suc i) s gap = absurd (omega (arith, gap.in_range))
rising_insert (x ∷ ns) n zero s gap = (above_all n (x ∷ ns) (λ k l. gap.greater_after k (omega arith) l), s)
rising_insert (x ∷ ns) n (suc i) s gap =
    (above_insert x ns n i (omega (arith, gap.in_range)) (gap.smaller_before 0 (omega arith)) s.0, rising_insert ns n i s.1 (gap_tail x ns n i gap))

pub no_numbers : IsRising []
unfolding IsStrictlySortedBy
no_numbers = tt

-- ---- those that pass a test
pub has_filter : (p : ℕ → Bool) (ns : List ℕ) (n : ℕ) → has_number (filter p ns) n ≡ has_number ns n && p n
has_filter p [] n = refl
has_filter p (x ∷ ns) n = by_case (has_filter p ns n) (p x) refl (x == n) refl where
  by_case : has_number (filter p ns) n ≡ has_number ns n && p n → (t : Bool) → p x ≡ t → (u : Bool) → (x == n) ≡ u → has_number (filter p (x ∷ ns)) n ≡ ((x == n) || has_number ns n) && p n
  by_case later true d true e = simp (d, e) (sym (subst (λ k. p k ≡ true) (eqb-true x n e) d))
  by_case later true d false e = simp (d, e) later
  by_case later false d true e =
      let fails : p n ≡ false = subst (λ k. p k ≡ false) (eqb-true x n e) d in
      simp (d, e) (later ∙ ap (λ t. has_number ns n && t) fails ∙ none (has_number ns n) ∙ sym fails) where
        none : (t : Bool) → t && false ≡ false
        none true = refl
        none false = refl
  by_case later false d false e = simp (d, e) later
