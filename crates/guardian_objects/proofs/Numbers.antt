-- Numbers that rise: a list is known by what stands in it, and so by the test that the first numbers pass.
use Rattle.std.proofs.Common.{Bool, List, None, Option, [], ap, ap₂, arith, cond, false, filter, filter_map, inl, inr, length, refl, subst, suc, sym, true, zero, ℕ, ◌&&◌, ◌+◌, ◌++◌, ◌<◌, ◌==◌, ◌∙◌, ◌∷◌, ◌≡◌, ◌≤◌, ◌||◌, ◌⊎◌}
use Rattle.std.specs.Prelude.{count_by, nat_le}
use Rattle.std.proofs.lemmas.Bool.{and_from, and_right, cases_order, eq-eqb, eqb-true, false≢true, le-leb, lt-leb, ne_eqb, or_cases, or_from, or_left, or_right, true≢false}
use Rattle.std.proofs.lemmas.Bool.Decides.{nat_tests}
use Rattle.std.proofs.lemmas.Cmp.{ranked}
use Rattle.std.proofs.lemmas.List.{append_assoc, reverse-append}
use Rattle.std.proofs.lemmas.List.Kept.{IsStrictlySortedBy-filter}
use Rattle.std.proofs.lemmas.List.Recursion.{is_count_by}
use Rattle.std.specs.List.{AllByRecursion, cons_option}
use Rattle.std.specs.List.Sorted.{IsStrictlySortedBy}
use Rattle.std.specs.Ordering.{nat_cmp}
use Rattle.std.specs.declared.cmp.Ordering.TheVariants.{Less}
use Rattle.guardian_index.specs.Held.{IsRising, has_number}
use Rattle.run_model.specs.Lists.{down_from, up_to}

cmp_less : (x y : ℕ) → x < y → nat_cmp x y ≡ Less
cmp_less x y h = grind (arith, nat_tests)

less_cmp : (x y : ℕ) → nat_cmp x y ≡ Less → x < y
less_cmp x y e = ranked x y Less (sym e)

-- ---- a number and those above it

-- all these numbers are above x
abbrev pub StandAbove : ℕ → List ℕ → Type 0
StandAbove x ns = AllByRecursion (λ y. nat_cmp x y ≡ Less) ns

above_has : (x : ℕ) (ns : List ℕ) → StandAbove x ns → (n : ℕ) → has_number ns n ≡ true → x < n
above_has x [] h n k = absurd (false≢true k)
above_has x (y ∷ ns) h n k = elim (or_cases (y == n) (has_number ns n) k) [
  | inl e ↦ subst (λ m. x < m) (eqb-true y n e) (less_cmp x y h.0)
  | inr r ↦ above_has x ns h.1 n r
]

-- so x is not among them
pub absent_above : (x : ℕ) (ns : List ℕ) → StandAbove x ns → has_number ns x ≡ false
absent_above x [] h = refl
absent_above x (y ∷ ns) h = or_from (y == x) (has_number ns x) (ne_eqb y x (λ e. omega (arith, e, less_cmp x y h.0))) (absent_above x ns h.1)

-- the first is there
first_there : (x : ℕ) (ns : List ℕ) → has_number (x ∷ ns) x ≡ true
first_there x ns = or_left (x == x) (has_number ns x) (eq-eqb x x refl)

-- a number of two lists
pub has_append : (xs ys : List ℕ) (n : ℕ) → has_number (xs ++ ys) n ≡ (has_number xs n || has_number ys n)
has_append [] ys n = refl
has_append (x ∷ xs) ys n = ap (λ t. (x == n) || t) (has_append xs ys n) ∙ joined (x == n) (has_number xs n) (has_number ys n)
  where
    joined : (a b c : Bool) → (a || (b || c)) ≡ ((a || b) || c)
    joined true b c = refl
    joined false b c = refl

-- ---- lists with the same numbers

first_least : (y : ℕ) (ys : List ℕ) → StandAbove y ys → (n : ℕ) → has_number (y ∷ ys) n ≡ true → y ≤ n
first_least y ys h n k = elim (or_cases (y == n) (has_number ys n) k) [
  | inl e ↦ omega (arith, eqb-true y n e)
  | inr r ↦ omega (arith, above_has y ys h n r)
]

same_rest : (x : ℕ) (xs ys : List ℕ) → StandAbove x xs → StandAbove x ys → ((n : ℕ) → has_number (x ∷ xs) n ≡ has_number (x ∷ ys) n)
    → (n : ℕ) → has_number xs n ≡ has_number ys n
same_rest x xs ys p q h n = of (x == n) refl
  where
    without : (t u v : Bool) → t ≡ false → (t || u) ≡ (t || v) → u ≡ v
    without true u v e k = absurd (true≢false e)
    without false u v e k = k

    of : (t : Bool) → (x == n) ≡ t → has_number xs n ≡ has_number ys n
    of true e = subst (λ m. has_number xs m ≡ has_number ys m) (eqb-true x n e) (absent_above x xs p ∙ sym (absent_above x ys q))
    of false e = without (x == n) (has_number xs n) (has_number ys n) e (h n)

pub same_numbers : (xs ys : List ℕ) → IsRising xs → IsRising ys → ((n : ℕ) → has_number xs n ≡ has_number ys n) → xs ≡ ys
unfolding IsStrictlySortedBy
same_numbers [] [] p q h = refl
same_numbers [] (y ∷ ys) p q h = absurd (false≢true (h y ∙ first_there y ys))
same_numbers (x ∷ xs) [] p q h = absurd (false≢true (sym (h x) ∙ first_there x xs))
same_numbers (x ∷ xs) (y ∷ ys) p q h =
    let low : y ≤ x = first_least y ys q.0 x (sym (h x) ∙ first_there x xs) in
    let high : x ≤ y = first_least x xs p.0 y (h y ∙ first_there y ys) in
    let same : y ≡ x = omega (arith, low, high) in
    let above : StandAbove x ys = subst (λ m. StandAbove m ys) same q.0 in
    let both : (n : ℕ) → has_number (x ∷ xs) n ≡ has_number (x ∷ ys) n = λ n. h n ∙ ap (λ m. has_number (m ∷ ys) n) same in
    ap₂ (λ m l. m ∷ l) (sym same) (same_numbers xs ys p.1 q.1 (same_rest x xs ys p.0 above both))

-- ---- the first numbers

above_last : (x : ℕ) (ns : List ℕ) (y : ℕ) → StandAbove x ns → x < y → StandAbove x (ns ++ y ∷ [])
above_last x [] y h l = (cmp_less x y l, tt)
above_last x (z ∷ ns) y h l = (h.0, above_last x ns y h.1 l)

rising_last : (ns : List ℕ) (y : ℕ) → IsRising ns → ((n : ℕ) → has_number ns n ≡ true → n < y) → IsRising (ns ++ y ∷ [])
unfolding IsStrictlySortedBy
rising_last [] y p h = (tt, tt)
rising_last (x ∷ ns) y p h = (above_last x ns y p.0 (h x (first_there x ns)), rising_last ns y p.1 (λ n k. h n (or_right (x == n) (has_number ns n) k)))

one_more : (n : ℕ) → up_to (suc n) ≡ up_to n ++ suc n ∷ []
one_more n = reverse-append (suc n ∷ []) (down_from n)

has_up_to : (m n : ℕ) → has_number (up_to m) n ≡ (nat_le 1 n && nat_le n m)
has_up_to zero zero = refl
has_up_to zero (suc n) = sym (and_right (nat_le 1 (suc n)) (nat_le (suc n) 0) (lt-leb (suc n) 0 (omega arith)))
has_up_to (suc m) n =
    ap (λ l. has_number l n) (one_more m)
    ∙ has_append (up_to m) (suc m ∷ []) n
    ∙ ap (λ t. t || ((suc m == n) || false)) (has_up_to m n)
    ∙ more (cases_order n (suc m))
  where
    or_false : (t : Bool) → (t || false) ≡ t
    or_false true = refl
    or_false false = refl

    more : (n ≡ suc m) ⊎ ((n < suc m) ⊎ (suc m < n)) → ((nat_le 1 n && nat_le n m) || ((suc m == n) || false)) ≡ (nat_le 1 n && nat_le n (suc m))
    more (inl e) =
        or_right (nat_le 1 n && nat_le n m) ((suc m == n) || false) (or_left (suc m == n) false (eq-eqb (suc m) n (sym e)))
        ∙ sym (and_from (nat_le 1 n) (nat_le n (suc m)) (le-leb 1 n (omega (arith, e))) (le-leb n (suc m) (omega (arith, e))))
    more (inr (inl l)) =
        ap₂ (λ t u. (nat_le 1 n && t) || (u || false)) (le-leb n m (omega (arith, l))) (ne_eqb (suc m) n (λ e. omega (arith, e, l)))
        ∙ or_false (nat_le 1 n && true)
        ∙ ap (λ t. nat_le 1 n && t) (sym (le-leb n (suc m) (omega (arith, l))))
    more (inr (inr g)) =
        ap₂ (λ t u. (nat_le 1 n && t) || (u || false)) (lt-leb n m (omega (arith, g))) (ne_eqb (suc m) n (λ e. omega (arith, e, g)))
        ∙ or_false (nat_le 1 n && false)
        ∙ ap (λ t. nat_le 1 n && t) (sym (lt-leb n (suc m) (omega (arith, g))))

rising_up : (n : ℕ) → IsRising (up_to n)
unfolding IsStrictlySortedBy
rising_up zero = tt
rising_up (suc n) =
    subst (λ l. IsRising l) (sym (one_more n))
    (rising_last (up_to n) (suc n) (rising_up n) (λ m h. of m (sym (has_up_to n m) ∙ h)))
  where
    of : (m : ℕ) → (nat_le 1 m && nat_le m n) ≡ true → m < suc n
    of m h = elim (cases_order m (suc n)) [
      | inl e ↦ absurd (true≢false (sym h ∙ and_right (nat_le 1 m) (nat_le m n) (lt-leb m n (omega (arith, e)))))
      | inr (inl l) ↦ l
      | inr (inr g) ↦ absurd (true≢false (sym h ∙ and_right (nat_le 1 m) (nat_le m n) (lt-leb m n (omega (arith, g)))))
    ]

-- ---- those that pass a test

has_passing : (p : ℕ → Bool) (xs : List ℕ) (n : ℕ) → has_number (filter p xs) n ≡ (has_number xs n && p n)
has_passing p [] n = refl
has_passing p (x ∷ xs) n = of (p x) refl (x == n) refl (has_passing p xs n)
  where
    of : (t : Bool) → p x ≡ t → (u : Bool) → (x == n) ≡ u → has_number (filter p xs) n ≡ (has_number xs n && p n)
        → has_number (cond t (x ∷ filter p xs) (filter p xs)) n ≡ (((x == n) || has_number xs n) && p n)
    of true e true k ih =
        ap (λ u. u || has_number (filter p xs) n) k
        ∙ sym (ap (λ u. (u || has_number xs n) && p n) k ∙ ap p (sym (eqb-true x n k)) ∙ e)
    of true e false k ih =
        ap (λ u. u || has_number (filter p xs) n) k ∙ ih ∙ sym (ap (λ u. (u || has_number xs n) && p n) k)
    of false e true k ih =
        let fails : p n ≡ false = ap p (sym (eqb-true x n k)) ∙ e in
        ih ∙ and_right (has_number xs n) (p n) fails ∙ sym (and_right ((x == n) || has_number xs n) (p n) fails)
    of false e false k ih = ih ∙ sym (ap (λ u. (u || has_number xs n) && p n) k)

-- a rising list of those of the first numbers that pass a test
pub chosen : (p : ℕ → Bool) (m : ℕ) (ns : List ℕ) → IsRising ns → ((n : ℕ) → has_number ns n ≡ (nat_le 1 n && (nat_le n m && p n))) → ns ≡ filter p (up_to m)
chosen p m ns rise has =
    same_numbers ns (filter p (up_to m)) rise (IsStrictlySortedBy-filter nat_cmp p (up_to m) (rising_up m))
    (λ n. has n ∙ turned (nat_le 1 n) (nat_le n m) (p n) ∙ ap (λ t. t && p n) (sym (has_up_to m n)) ∙ sym (has_passing p (up_to m) n))
  where
    turned : (a b c : Bool) → (a && (b && c)) ≡ ((a && b) && c)
    turned true b c = refl
    turned false b c = refl

-- and how many they are
pub counted : (p : ℕ → Bool) (m : ℕ) (ns : List ℕ) → IsRising ns → ((n : ℕ) → has_number ns n ≡ (nat_le 1 n && (nat_le n m && p n)))
    → length ns ≡ count_by p (up_to m)
counted p m ns rise has =
    ap length (chosen p m ns rise has) ∙ is_count_by (λ xs. length (filter p xs)) p refl (λ x xs. step x (filter p xs) (p x)) (up_to m)
  where
    step : (x : ℕ) (l : List ℕ) (t : Bool) → length (cond t (x ∷ l) l) ≡ cond t (1 + length l) (length l)
    step x l true = let e : suc (length l) ≡ 1 + length l = omega arith in e
    step x l false = refl

-- what is made of them is what is made of all, where nothing is made of the others
pub made_of : {V : Type 0} (f : ℕ → Option V) (p : ℕ → Bool) (xs : List ℕ) → ((n : ℕ) → has_number xs n ≡ true → p n ≡ false → f n ≡ None)
    → filter_map f (filter p xs) ≡ filter_map f xs
made_of f p [] h = refl
made_of {V} f p (x ∷ xs) h = of (p x) refl (made_of f p xs (λ n k. h n (or_right (x == n) (has_number xs n) k)))
  where
    of : (t : Bool) → p x ≡ t → filter_map f (filter p xs) ≡ filter_map f xs
        → filter_map f (cond t (x ∷ filter p xs) (filter p xs)) ≡ cons_option (f x) (filter_map f xs)
    of true e ih = ap (λ l. cons_option (f x) l) ih
    of false e ih = ih ∙ sym (ap (λ o. cons_option o (filter_map f xs)) (h x (first_there x xs) e))

-- ---- the last of them is taken out

-- all but the last rise, and it is above them
pub last_above : (ns : List ℕ) (y : ℕ) → IsRising (ns ++ y ∷ []) → IsRising ns × (has_number ns y ≡ false)
unfolding IsStrictlySortedBy
last_above [] y p = (tt, refl)
last_above (x ∷ ns) y p =
    let rest = last_above ns y p.1 in
    ((front ns p.0, rest.0), or_from (x == y) (has_number ns y) (ne_eqb x y (λ e. omega (arith, e, above_has x (ns ++ y ∷ []) p.0 y (there ns)))) rest.1)
  where
    front : (l : List ℕ) → StandAbove x (l ++ y ∷ []) → StandAbove x l
    front [] h = tt
    front (z ∷ l) h = (h.0, front l h.1)

    there : (l : List ℕ) → has_number (l ++ y ∷ []) y ≡ true
    there l = has_append l (y ∷ []) y ∙ or_right (has_number l y) ((y == y) || false) (first_there y [])

behind_middle : (ns : List ℕ) (y : ℕ) (zs : List ℕ) → IsRising (ns ++ y ∷ zs) → StandAbove y zs
unfolding IsStrictlySortedBy
behind_middle [] y zs h = h.0
behind_middle (x ∷ ns) y zs h = behind_middle ns y zs h.1

above_without : (x : ℕ) (ns : List ℕ) (y : ℕ) (zs : List ℕ) → StandAbove x (ns ++ y ∷ zs) → StandAbove x (ns ++ zs)
above_without x [] y zs h = h.1
above_without x (z ∷ ns) y zs h = (h.0, above_without x ns y zs h.1)

rising_without : (ns : List ℕ) (y : ℕ) (zs : List ℕ) → IsRising (ns ++ y ∷ zs) → IsRising (ns ++ zs)
unfolding IsStrictlySortedBy
rising_without [] y zs h = h.1
rising_without (x ∷ ns) y zs h = (above_without x ns y zs h.0, rising_without ns y zs h.1)

-- those behind it are above it, with it they rise, and so they do without it
pub between : (ns : List ℕ) (y : ℕ) (zs : List ℕ) → IsRising ((ns ++ y ∷ []) ++ zs) → StandAbove y zs × IsRising (ns ++ y ∷ zs) × IsRising (ns ++ zs)
between ns y zs rise =
    let p : IsRising (ns ++ y ∷ zs) = subst (λ l. IsRising l) (append_assoc ns (y ∷ []) zs) rise in
    (behind_middle ns y zs p, p, rising_without ns y zs p)
