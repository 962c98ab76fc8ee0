-- What is asked of each ancestor, and of each guardian on which an action depends.
use Rattle.std.proofs.Common.{Bool, List, None, Option, Some, [], ap, arith, cond, eqb-true, false, get_or, inl, inr, length, ltb, refl, reverse, subst, suc, sym, take, true, zero, ℕ, ◌+◌, ◌<◌, ◌==◌, ◌∙◌, ◌∷◌, ◌≡◌, ◌≤◌, ◌||◌, ◌⊎◌}
use Rattle.std.proofs.lemmas.Bool.{cases_eq, le-ltb}
use Rattle.std.proofs.lemmas.List.{reverse-append}
use Rattle.std.proofs.lemmas.List.Folds.{list_any-append}
use Rattle.std.specs.Cmp.{unsigned_tied}
use Rattle.std.specs.FinMap as tree
use Rattle.std.specs.Prelude.{map}
use Rattle.std.specs.List.{list_any}
use Rattle.action_names.proofs.Entries.{least_at-found}
use Rattle.action_names.specs.Deps.{Deps, Entries, IsRising, guardian_at, least_at}
use Rattle.action_names.specs.Names.{Name, ancestors}
use Rattle.run_model.specs.Lists.{down_from, is_below, up_to}

or_right : (a b : Bool) → b ≡ true → (a || b) ≡ true
or_right true b h = refl
or_right false b h = h

or_none : (a b : Bool) → a ≡ false → b ≡ false → (a || b) ≡ false
or_none true b h k = absurd (cc)
or_none false b h k = k

any_map : (p : Name → Bool) (f : Name → Name) (xs : List Name) → list_any p (map f xs) ≡ list_any (λ x. p (f x)) xs
any_map p f [] = refl
any_map p f (x ∷ xs) = ap (λ b. p (f x) || b) (any_map p f xs)

-- ---- ancestors: the beginnings of a name
pub some_ancestor : (p : Name → Bool) (a : Name) (k : ℕ) → k < length a → p (take (k + 1) a) ≡ true → list_any p (ancestors a) ≡ true
some_ancestor p [] k lt h = absurd (omega arith)
some_ancestor p (n ∷ b) zero lt h = ap (λ t. t || list_any p (map (λ a. n ∷ a) (ancestors b))) h
some_ancestor p (n ∷ b) (suc k) lt h =
    let e : suc (k + 1) ≡ suc k + 1 = omega arith in
    or_right (p (n ∷ [])) (list_any p (map (λ a. n ∷ a) (ancestors b)))
    (any_map p (λ a. n ∷ a) (ancestors b) ∙ some_ancestor (λ a. p (n ∷ a)) b k (omega arith) (ap (λ m. p (take m (n ∷ b))) e ∙ h))

pub no_ancestor : (p : Name → Bool) (a : Name) → ((k : ℕ) → k < length a → p (take (k + 1) a) ≡ false) → list_any p (ancestors a) ≡ false
no_ancestor p [] none = refl
no_ancestor p (n ∷ b) none =
    or_none (p (n ∷ [])) (list_any p (map (λ a. n ∷ a) (ancestors b))) (none 0 (omega arith))
    (any_map p (λ a. n ∷ a) (ancestors b) ∙ no_ancestor (λ a. p (n ∷ a)) b (λ k lt.
    let e : suc (k + 1) ≡ suc k + 1 = omega arith in
    ap (λ m. p (take m (n ∷ b))) e ∙ none (suc k) (omega arith)))

-- ---- guardians from 1 on
any_turned : (p : ℕ → Bool) (ns : List ℕ) → list_any p (reverse ns) ≡ list_any p ns
any_turned p [] = refl
any_turned p (m ∷ ns) =
    ap (list_any p) (reverse-append (m ∷ []) ns)
    ∙ list_any-append p (reverse ns) (m ∷ [])
    ∙ turn (list_any p (reverse ns)) (p m)
    ∙ ap (λ b. p m || b) (any_turned p ns)
  where
    turn : (a b : Bool) → (a || (b || false)) ≡ (b || a)
    turn true true = refl
    turn true false = refl
    turn false true = refl
    turn false false = refl

any_down : (p : ℕ → Bool) (n g : ℕ) → 1 ≤ g → g ≤ n → p g ≡ true → list_any p (down_from n) ≡ true
any_down p zero g low high h = absurd (omega arith)
any_down p (suc n) g low high h = of (cases_eq g (suc n)) (λ less. any_down p n g low less h)
  where
    of : ((g ≡ suc n) ⊎ (g ≡ suc n → ⊥)) → (g ≤ n → list_any p (down_from n) ≡ true) → (p (suc n) || list_any p (down_from n)) ≡ true
    of (inl same) rest = ap (λ b. b || list_any p (down_from n)) (ap p (sym same) ∙ h)
    of (inr other) rest = or_right (p (suc n)) (list_any p (down_from n)) (rest (omega arith))

none_down : (p : ℕ → Bool) (n : ℕ) → ((g : ℕ) → 1 ≤ g → g ≤ n → p g ≡ false) → list_any p (down_from n) ≡ false
none_down p zero none = refl
none_down p (suc n) none = or_none (p (suc n)) (list_any p (down_from n)) (none (suc n) (omega arith) (omega arith)) (none_down p n (λ g low high. none g low (omega arith)))

-- ---- dependencies
-- who has a least incarnation has an entry
entry_of : (es : Entries) (g : ℕ) → (least_at es g ≡ None) ⊎ ((k : ℕ) × (k < length es) × (guardian_at es k ≡ g))
entry_of [] g = inl refl
entry_of (e ∷ es) g = of (g == e.0) refl (entry_of es g)
  where
    of : (b : Bool) → (g == e.0) ≡ b → ((least_at es g ≡ None) ⊎ ((k : ℕ) × (k < length es) × (guardian_at es k ≡ g)))
        → (least_at (e ∷ es) g ≡ None) ⊎ ((k : ℕ) × (k < length (e ∷ es)) × (guardian_at (e ∷ es) k ≡ g))
    of true same rest = inr (0, omega arith, sym (eqb-true g e.0 same))
    of false other (inl none) = inl (ap (λ t. cond t (Some e.1) (least_at es g)) (unsigned_tied g e.0 ∙ other) ∙ none)
    of false other (inr (k, in_range, is)) = inr (suc k, omega (arith, in_range), is)

least_of_entry : (es : Entries) (g k : ℕ) → IsRising es → k < length es → guardian_at es k ≡ g → least_at es g ≡ Some (get_or es k (0, 0)).1
least_of_entry es g k s in_range is = least_at-found es g k s (record { in_range = in_range; same = is }) (0, 0)

-- a crash since is known where an entry up to n shows one
some_crash : (es : Entries) (n : ℕ) (count : ℕ → ℕ) (k : ℕ) → IsRising es → k < length es → 1 ≤ guardian_at es k → guardian_at es k ≤ n
    → ltb (get_or es k (0, 0)).1 (count (guardian_at es k)) ≡ true → list_any (λ h. is_below (least_at es h) (count h)) (up_to n) ≡ true
some_crash es n count k s in_range low high h =
    any_turned (λ g. is_below (least_at es g) (count g)) (down_from n)
    ∙ any_down (λ g. is_below (least_at es g) (count g)) n (guardian_at es k) low high
    (ap (λ o. is_below o (count (guardian_at es k))) (least_of_entry es (guardian_at es k) k s in_range refl) ∙ h)

-- none is known where nothing is counted
pub no_crash_counted : (least : ℕ → Option ℕ) (count : ℕ → ℕ) (hs : List ℕ) → ((h : ℕ) → count h ≡ 0)
    → list_any (λ h. is_below (least h) (count h)) hs ≡ false
no_crash_counted least count [] none = refl
no_crash_counted least count (h ∷ hs) none =
    or_none (is_below (least h) (count h)) (list_any (λ g. is_below (least g) (count g)) hs) (not_below (least h) (count h) (none h))
    (no_crash_counted least count hs none)
  where
    not_below : (o : Option ℕ) (n : ℕ) → n ≡ 0 → is_below o n ≡ false
    not_below None n nothing = refl
    not_below (Some m) n nothing = le-ltb m n (omega (arith, nothing))

-- and none where no entry shows one
no_crash : (es : Entries) (n : ℕ) (count : ℕ → ℕ) → IsRising es
    → ((k : ℕ) → k < length es → 1 ≤ guardian_at es k → guardian_at es k ≤ n → ltb (get_or es k (0, 0)).1 (count (guardian_at es k)) ≡ false)
    → list_any (λ h. is_below (least_at es h) (count h)) (up_to n) ≡ false
no_crash es n count s none =
    any_turned (λ g. is_below (least_at es g) (count g)) (down_from n)
    ∙ none_down (λ g. is_below (least_at es g) (count g)) n (λ g low high. of g low high (entry_of es g))
  where
    of : (g : ℕ) → 1 ≤ g → g ≤ n → ((least_at es g ≡ None) ⊎ ((k : ℕ) × (k < length es) × (guardian_at es k ≡ g))) → is_below (least_at es g) (count g) ≡ false
    of g low high (inl without) = ap (λ o. is_below o (count g)) without
    of g low high (inr (k, in_range, is)) =
        ap (λ o. is_below o (count g)) (least_of_entry es g k s in_range is)
        ∙ ap (λ h. ltb (get_or es k (0, 0)).1 (count h)) (sym is)
        ∙ none k in_range (omega (arith, is)) (omega (arith, is))

-- the same, of the entries of a map
module _ (depends : Deps) (es : Entries) (same : es ≡ tree.entries depends) (n m : ℕ) (many : n ≡ m) (count : ℕ → ℕ) where
  rising : IsRising es
  rising = subst IsRising (sym same) (tree.entries_sorted depends)

  by_entries : list_any (λ h. is_below (least_at es h) (count h)) (up_to n) ≡ list_any (λ h. is_below (tree.get depends h) (count h)) (up_to m)
  by_entries =
      let found : (g : ℕ) → least_at es g ≡ tree.get depends g = λ g. ap (λ xs. least_at xs g) same ∙ sym (tree.get-entries depends g) in
      λ i. list_any (λ h. is_below (found h i) (count h)) (up_to (many i))

  pub some_crash_since : (k : ℕ) → k < length es → 1 ≤ guardian_at es k → guardian_at es k ≤ n
      → ltb (get_or es k (0, 0)).1 (count (guardian_at es k)) ≡ true → true ≡ list_any (λ h. is_below (tree.get depends h) (count h)) (up_to m)
  some_crash_since k in_range low high h = sym (some_crash es n count k rising in_range low high h) ∙ by_entries

  pub no_crash_since : ((k : ℕ) → k < length es → 1 ≤ guardian_at es k → guardian_at es k ≤ n → ltb (get_or es k (0, 0)).1 (count (guardian_at es k)) ≡ false)
      → false ≡ list_any (λ h. is_below (tree.get depends h) (count h)) (up_to m)
  no_crash_since none = sym (no_crash es n count rising none) ∙ by_entries
