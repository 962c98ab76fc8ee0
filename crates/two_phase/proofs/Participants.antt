-- What is asked of each guardian is found by going over the entries of a map.
use Rattle.std.proofs.Common.{Bool, List, None, Some, [], ap, arith, cond, eqb-true, false, inl, inr, is_none, length, refl, reverse, suc, sym, true, zero, ℕ, ◌&&◌, ◌<◌, ◌==◌, ◌∙◌, ◌∷◌, ◌≡◌, ◌≤◌, ◌||◌, ◌⊎◌}
use Rattle.std.proofs.lemmas.Bool.{cases_eq, eq-eqb}
use Rattle.std.proofs.lemmas.List.{reverse-append}
use Rattle.std.proofs.lemmas.List.Folds.{list_all-append}
use Rattle.std.specs.Cmp.{unsigned_tied}
use Rattle.std.specs.List.{list_all}
use Rattle.std.specs.Ordering.{eq_by_cmp, nat_cmp}
use Rattle.action_names.specs.Deps.{Entries, guardian_at, least_at}
use Rattle.run_model.specs.Lists.{down_from, up_to}

and_true : (a b : Bool) → (a && b) ≡ true → (a ≡ true) × (b ≡ true)
and_true true b h = (refl, h)
and_true false b h = absurd (cc)

all_down : (p : ℕ → Bool) (n : ℕ) → ((g : ℕ) → 1 ≤ g → g ≤ n → p g ≡ true) → list_all p (down_from n) ≡ true
all_down p zero each = refl
all_down p (suc n) each = ap (λ b. b && list_all p (down_from n)) (each (suc n) (omega arith) (omega arith)) ∙ all_down p n (λ g low high. each g low (omega arith))

all_turned : (p : ℕ → Bool) (ns : List ℕ) → list_all p ns ≡ true → list_all p (reverse ns) ≡ true
all_turned p [] h = refl
all_turned p (m ∷ ns) h =
    let parts = and_true (p m) (list_all p ns) h in
    ap (list_all p) (reverse-append (m ∷ []) ns)
    ∙ list_all-append p (reverse ns) (m ∷ [])
    ∙ ap (λ b. b && (p m && true)) (all_turned p ns parts.1)
    ∙ ap (λ b. b && true) parts.0

-- what holds of each guardian up to n holds of all
pub all_guardians : (p : ℕ → Bool) (n : ℕ) → ((g : ℕ) → 1 ≤ g → g ≤ n → p g ≡ true) → list_all p (up_to n) ≡ true
all_guardians p n each = all_turned p (down_from n) (all_down p n each)

and_false : (a b : Bool) → (a ≡ false) ⊎ (b ≡ false) → (a && b) ≡ false
and_false true b (inl h) = absurd (cc)
and_false false b (inl h) = refl
and_false true b (inr h) = h
and_false false b (inr h) = refl

none_down : (p : ℕ → Bool) (n g : ℕ) → 1 ≤ g → g ≤ n → p g ≡ false → list_all p (down_from n) ≡ false
none_down p zero g low high h = absurd (omega arith)
none_down p (suc n) g low high h = of (cases_eq g (suc n)) (λ less. none_down p n g low less h)
  where
    of : ((g ≡ suc n) ⊎ (g ≡ suc n → ⊥)) → (g ≤ n → list_all p (down_from n) ≡ false) → (p (suc n) && list_all p (down_from n)) ≡ false
    of (inl same) rest = and_false (p (suc n)) (list_all p (down_from n)) (inl (ap p (sym same) ∙ h))
    of (inr other) rest = and_false (p (suc n)) (list_all p (down_from n)) (inr (rest (omega arith)))

not_both : (a b : Bool) → (a && b) ≡ false → (a ≡ false) ⊎ (b ≡ false)
not_both true b h = inr h
not_both false b h = inl refl

none_turned : (p : ℕ → Bool) (ns : List ℕ) → list_all p ns ≡ false → list_all p (reverse ns) ≡ false
none_turned p [] h = h
none_turned p (m ∷ ns) h =
    ap (list_all p) (reverse-append (m ∷ []) ns)
    ∙ list_all-append p (reverse ns) (m ∷ [])
    ∙ of (not_both (p m) (list_all p ns) h) (λ e. none_turned p ns e)
  where
    of : ((p m ≡ false) ⊎ (list_all p ns ≡ false)) → (list_all p ns ≡ false → list_all p (reverse ns) ≡ false) → (list_all p (reverse ns) && (p m && true)) ≡ false
    of (inl e) rest = and_false (list_all p (reverse ns)) (p m && true) (inr (ap (λ b. b && true) e))
    of (inr e) rest = and_false (list_all p (reverse ns)) (p m && true) (inl (rest e))

-- what does not hold of one guardian up to n does not hold of all
pub not_all_guardians : (p : ℕ → Bool) (n g : ℕ) → 1 ≤ g → g ≤ n → p g ≡ false → list_all p (up_to n) ≡ false
not_all_guardians p n g low high h = none_turned p (down_from n) (none_down p n g low high h)

-- who has a value has an entry
entry_of : (es : Entries) (g : ℕ) → (least_at es g ≡ None) ⊎ ((k : ℕ) × (k < length es) × (guardian_at es k ≡ g))
entry_of [] g = inl refl
entry_of (e ∷ es) g = of (g == e.0) refl (entry_of es g)
  where
    of : (b : Bool) → (g == e.0) ≡ b → ((least_at es g ≡ None) ⊎ ((k : ℕ) × (k < length es) × (guardian_at es k ≡ g)))
        → (least_at (e ∷ es) g ≡ None) ⊎ ((k : ℕ) × (k < length (e ∷ es)) × (guardian_at (e ∷ es) k ≡ g))
    of true same rest = inr (0, omega arith, sym (eqb-true g e.0 same))
    of false other (inl none) = inl (ap (λ t. cond t (Some e.1) (least_at es g)) (unsigned_tied g e.0 ∙ other) ∙ none)
    of false other (inr (k, in_range, is)) = inr (suc k, omega (arith, in_range), is)

-- who has an entry has a value
pub has_value : (es : Entries) (g k : ℕ) → k < length es → guardian_at es k ≡ g → is_none (least_at es g) ≡ false
has_value [] g k in_range is = absurd (omega arith)
has_value (e ∷ es) g zero in_range is = ap (λ t. is_none (cond t (Some e.1) (least_at es g))) (unsigned_tied g e.0 ∙ eq-eqb g e.0 (sym is))
has_value (e ∷ es) g (suc k) in_range is = of (eq_by_cmp nat_cmp g e.0) (has_value es g k (omega arith) is)
  where
    of : (b : Bool) → is_none (least_at es g) ≡ false → is_none (cond b (Some e.1) (least_at es g)) ≡ false
    of true rest = refl
    of false rest = rest

-- all participants up to n pass where each entry up to n does
pub all_participants : (es : Entries) (n : ℕ) (p : ℕ → Bool)
    → ((k : ℕ) → k < length es → 1 ≤ guardian_at es k → guardian_at es k ≤ n → p (guardian_at es k) ≡ true)
    → list_all (λ g. is_none (least_at es g) || p g) (up_to n) ≡ true
all_participants es n p each = all_guardians (λ g. is_none (least_at es g) || p g) n (λ g low high. of g low high (entry_of es g))
  where
    or_right : (a b : Bool) → b ≡ true → (a || b) ≡ true
    or_right true b h = refl
    or_right false b h = h

    of : (g : ℕ) → 1 ≤ g → g ≤ n → ((least_at es g ≡ None) ⊎ ((k : ℕ) × (k < length es) × (guardian_at es k ≡ g))) → (is_none (least_at es g) || p g) ≡ true
    of g low high (inl none) = ap (λ o. is_none o || p g) none
    of g low high (inr (k, in_range, is)) =
        or_right (is_none (least_at es g)) (p g)
        (ap p (sym is) ∙ each k in_range (omega (arith, is)) (omega (arith, is)))

-- and not all where one entry does not
pub not_all_participants : (es : Entries) (n : ℕ) (p : ℕ → Bool) (k : ℕ)
    → k < length es → 1 ≤ guardian_at es k → guardian_at es k ≤ n → p (guardian_at es k) ≡ false
    → list_all (λ g. is_none (least_at es g) || p g) (up_to n) ≡ false
not_all_participants es n p k in_range low high h =
    not_all_guardians (λ g. is_none (least_at es g) || p g) n (guardian_at es k) low high
    (ap (λ b. b || p (guardian_at es k)) (has_value es (guardian_at es k) k in_range refl) ∙ h)
