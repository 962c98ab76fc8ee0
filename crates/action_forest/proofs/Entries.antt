-- Entries of dependencies, collected guardian by guardian.
use Rattle.std.proofs.Common.{List, None, Option, Some, [], ap, ap₂, arith, cond, filter_map, inl, inr, is_some, length, option_map, refl, subst, suc, sym, true, zero, ℕ, ◌++◌, ◌+◌, ◌<◌, ◌==◌, ◌∙◌, ◌∷◌, ◌≡◌, ◌≤◌, ◌⊎◌}
use Rattle.std.specs.Prelude.{T}
use Rattle.std.specs.Cmp.{unsigned_tied}
use Rattle.std.proofs.lemmas.Cmp.{nat_cmp_total}
use Rattle.std.specs.FinMap as tree
use Rattle.std.specs.FinMap.Entries.{below_all, find, is_sorted, same_entries}
use Rattle.std.specs.List.{cons_option}
use Rattle.std.specs.Ordering.{is_lt, nat_cmp}
use Rattle.std.specs.declared.cmp.Ordering.TheVariants.{Equal, Greater, Less}
use Rattle.std.proofs.lemmas.Bool.{and_from, cases_eq, cases_lt, eq-eqb, lt-ltb, ne_eqb}
use Rattle.std.proofs.lemmas.List.{reverse-append}
use Rattle.action_names.specs.Deps.{Deps}
use Rattle.run_model.specs.Lists.{down_from, up_to}
use Rattle.run_model.specs.LocalHistories.{entries_of}
use Rattle.run_model.specs.LocalReadings.{beside}
use Rattle.run_model.specs.Openings.{Opening}

-- the k numbers above n
abbrev above : ℕ → ℕ → List ℕ
above n zero = []
above n (suc k) = suc n ∷ above (suc n) k

above_more : (n k : ℕ) → above n (suc k) ≡ above n k ++ suc (n + k) ∷ []
above_more n zero = let e : n ≡ n + 0 = omega arith in ap (λ m. suc m ∷ []) e
above_more n (suc k) = let e : suc n + k ≡ n + suc k = omega arith in
    ap (λ ns. suc n ∷ ns) (above_more (suc n) k ∙ ap (λ m. above (suc n) k ++ suc m ∷ []) e)

above_none : (k : ℕ) → up_to k ≡ above 0 k
above_none zero = refl
above_none (suc k) =
    let e : k ≡ 0 + k = omega arith in
    reverse-append (suc k ∷ []) (down_from k) ∙ ap₂ (λ ns m. ns ++ suc m ∷ []) (above_none k) e ∙ sym (above_more 0 k)

-- of each number what f gives there
abbrev collected : (ℕ → Option ℕ) → List ℕ → List (ℕ × ℕ)
collected f ns = filter_map (λ n. option_map (λ v. (n, v)) (f n)) ns

beside_here : (e : ℕ × ℕ) (es : List (ℕ × ℕ)) (m : ℕ) → e.0 ≡ m → beside (e ∷ es) m ≡ Some e.1
beside_here e es m same = ap (λ t. cond t (Some e.1) (beside es m)) (eq-eqb e.0 m same)

beside_behind : (e : ℕ × ℕ) (es : List (ℕ × ℕ)) (m : ℕ) → (e.0 ≡ m → ⊥) → beside (e ∷ es) m ≡ beside es m
beside_behind e es m other = ap (λ t. cond t (Some e.1) (beside es m)) (ne_eqb e.0 m other)

collected_low : (f : ℕ → Option ℕ) (n k m : ℕ) → m ≤ n → beside (collected f (above n k)) m ≡ None
collected_low f n zero m l = refl
collected_low f n (suc k) m l = of (f (suc n)) (collected_low f (suc n) k m (omega arith))
  where
    of : (o : Option ℕ) → beside (collected f (above (suc n) k)) m ≡ None
        → beside (cons_option (option_map (λ v. (suc n, v)) o) (collected f (above (suc n) k))) m ≡ None
    of None ih = ih
    of (Some v) ih = beside_behind (suc n, v) (collected f (above (suc n) k)) m (λ e. omega arith) ∙ ih

collected_high : (f : ℕ → Option ℕ) (n k m : ℕ) → n + k < m → beside (collected f (above n k)) m ≡ None
collected_high f n zero m l = refl
collected_high f n (suc k) m l = of (f (suc n)) (collected_high f (suc n) k m (omega arith))
  where
    of : (o : Option ℕ) → beside (collected f (above (suc n) k)) m ≡ None
        → beside (cons_option (option_map (λ v. (suc n, v)) o) (collected f (above (suc n) k))) m ≡ None
    of None ih = ih
    of (Some v) ih = beside_behind (suc n, v) (collected f (above (suc n) k)) m (λ e. omega arith) ∙ ih

collected_at : (f : ℕ → Option ℕ) (n k m : ℕ) → n < m → m ≤ n + k → beside (collected f (above n k)) m ≡ f m
collected_at f n zero m l h = absurd (omega arith)
collected_at f n (suc k) m l h = elim (cases_eq (suc n) m) [
  | inl e ↦ here e (f (suc n)) refl ∙ ap f e
  | inr e ↦ there e (f (suc n)) (collected_at f (suc n) k m (omega arith) (omega arith))
]
  where
    here : suc n ≡ m → (o : Option ℕ) → f (suc n) ≡ o
        → beside (cons_option (option_map (λ v. (suc n, v)) (f (suc n))) (collected f (above (suc n) k))) m ≡ f (suc n)
    here e None q =
        ap (λ o. beside (cons_option (option_map (λ v. (suc n, v)) o) (collected f (above (suc n) k))) m) q
        ∙ collected_low f (suc n) k m (omega arith) ∙ sym q
    here e (Some v) q =
        ap (λ o. beside (cons_option (option_map (λ w. (suc n, w)) o) (collected f (above (suc n) k))) m) q
        ∙ beside_here (suc n, v) (collected f (above (suc n) k)) m e ∙ sym q

    there : (suc n ≡ m → ⊥) → (o : Option ℕ) → beside (collected f (above (suc n) k)) m ≡ f m
        → beside (cons_option (option_map (λ v. (suc n, v)) o) (collected f (above (suc n) k))) m ≡ f m
    there e None ih = ih
    there e (Some v) ih = beside_behind (suc n, v) (collected f (above (suc n) k)) m e ∙ ih

-- the entries have of each guardian of the setup what f gives
pub entry_inside : (opening : Opening) (f : ℕ → Option ℕ) (g : ℕ) → 1 ≤ g → g ≤ length opening.setup → beside (entries_of opening f) g ≡ f g
entry_inside opening f g low high =
    ap (λ ns. beside (collected f ns) g) (above_none (length opening.setup)) ∙ collected_at f 0 (length opening.setup) g (omega arith) (omega arith)

-- and of no other
pub entry_outside : (opening : Opening) (f : ℕ → Option ℕ) (g : ℕ) → is_some (beside (entries_of opening f) g) ≡ true
    → (1 ≤ g) × (g ≤ length opening.setup)
entry_outside opening f g some = elim (cases_lt 0 g) [
  | inr l ↦ absurd (nothing (collected_low f 0 (length opening.setup) g l))
  | inl l ↦ elim (cases_lt (length opening.setup) g) [
    | inl k ↦ absurd (nothing (collected_high f 0 (length opening.setup) g (omega arith)))
    | inr k ↦ (omega arith, k)
  ]
]
  where
    nothing : beside (collected f (above 0 (length opening.setup))) g ≡ None → ⊥
    nothing none = let e = ap is_some (ap (λ ns. beside (collected f ns) g) (above_none (length opening.setup)) ∙ none) in cc

collected_below : (f : ℕ → Option ℕ) (m n k : ℕ) → m ≤ n → below_all nat_cmp m (collected f (above n k)) ≡ true
collected_below f m n zero l = refl
collected_below f m n (suc k) l = of (f (suc n)) (collected_below f m (suc n) k (omega arith))
  where
    of : (o : Option ℕ) → below_all nat_cmp m (collected f (above (suc n) k)) ≡ true
        → below_all nat_cmp m (cons_option (option_map (λ v. (suc n, v)) o) (collected f (above (suc n) k))) ≡ true
    of None ih = ih
    of (Some v) ih = and_from _ _ (ap (λ b. is_lt (cond b Less (cond (m == suc n) Equal Greater))) (lt-ltb m (suc n) (omega arith))) ih

collected_sorted : (f : ℕ → Option ℕ) (n k : ℕ) → is_sorted nat_cmp (collected f (above n k)) ≡ true
collected_sorted f n zero = refl
collected_sorted f n (suc k) = of (f (suc n)) (collected_sorted f (suc n) k)
  where
    of : (o : Option ℕ) → is_sorted nat_cmp (collected f (above (suc n) k)) ≡ true
        → is_sorted nat_cmp (cons_option (option_map (λ v. (suc n, v)) o) (collected f (above (suc n) k))) ≡ true
    of None ih = ih
    of (Some v) ih = and_from _ _ (collected_below f (suc n) (suc n) k (omega arith)) ih

entries_sorted : (opening : Opening) (f : ℕ → Option ℕ) → is_sorted nat_cmp (entries_of opening f) ≡ true
entries_sorted opening f = ap (λ ns. is_sorted nat_cmp (collected f ns)) (above_none (length opening.setup)) ∙ collected_sorted f 0 (length opening.setup)

turned : (m n : ℕ) → (m == n) ≡ (n == m)
turned m n = elim (cases_eq m n) [
  | inl e ↦ eq-eqb m n e ∙ sym (eq-eqb n m (sym e))
  | inr e ↦ ne_eqb m n e ∙ sym (ne_eqb n m (λ k. e (sym k)))
]

-- what is found among entries
pub find_beside : (es : List (ℕ × ℕ)) (g : ℕ) → find nat_cmp g es ≡ beside es g
find_beside [] g = refl
find_beside (e ∷ es) g = λ i. cond ((unsigned_tied g e.0 ∙ turned g e.0) i) (Some e.1) (find_beside es g i)

nothing_found : (o : Option ℕ) → (is_some o ≡ true → ⊥) → o ≡ None
nothing_found None h = refl
nothing_found (Some v) h = absurd (h refl)

-- a guardian of the setup, or not
inside_or_not : (n g : ℕ) → ((1 ≤ g) × (g ≤ n)) ⊎ ((1 ≤ g) × (g ≤ n) → ⊥)
inside_or_not n g = elim (cases_lt 0 g) [
  | inr l ↦ inr (λ h. let low = h.0 in omega arith)
  | inl l ↦ elim (cases_lt n g) [ inl k ↦ inr (λ h. let high = h.1 in omega arith) | inr k ↦ inl (omega arith, k) ]
]

-- Dependencies on guardians of the setup alone have for entries what f gives of each.
pub entries_are : (opening : Opening) (f : ℕ → Option ℕ) (deps : Deps) → ((g : ℕ) → 1 ≤ g → g ≤ length opening.setup → tree.get deps g ≡ f g)
    → ((g : ℕ) → is_some (tree.get deps g) ≡ true → (1 ≤ g) × (g ≤ length opening.setup)) → tree.entries deps ≡ entries_of opening f
entries_are opening f deps same inside =
    same_entries nat_cmp nat_cmp_total tree.nat_cmp-IsAntisymmetric (tree.entries deps) (entries_of opening f) (tree.entries_sorted deps)
    (subst T (sym (entries_sorted opening f)) tt)
    (λ g. sym (tree.get-entries deps g) ∙ of g (inside_or_not (length opening.setup) g) ∙ sym (find_beside (entries_of opening f) g))
  where
    of : (g : ℕ) → ((1 ≤ g) × (g ≤ length opening.setup)) ⊎ ((1 ≤ g) × (g ≤ length opening.setup) → ⊥) → tree.get deps g ≡ beside (entries_of opening f) g
    of g (inl (low, high)) = same g low high ∙ sym (entry_inside opening f g low high)
    of g (inr outside) =
        nothing_found (tree.get deps g) (λ e. outside (inside g e))
        ∙ sym (nothing_found (beside (entries_of opening f) g) (λ e. outside (entry_outside opening f g e)))
