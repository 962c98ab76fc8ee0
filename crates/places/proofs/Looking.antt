-- Where names stand in a list: what a place says of a name, and what names behind the others change.
use Rattle.std.proofs.Common.{Bool, List, None, Option, Some, [], ap, arith, cond, false, get_or, length, option_map, refl, subst, suc, sym, true, zero, ℕ, ◌++◌, ◌+◌, ◌<◌, ◌∙◌, ◌∷◌, ◌≡◌}
use Rattle.action_names.specs.Names.{Name, same_name}
use Rattle.action_names.proofs.Ancestry.{same_is, same_refl}
use Rattle.places.specs.Placed.{place_in}

-- a name stands at its place
pub place_at : (names : List Name) (a : Name) (i : ℕ) → place_in names a ≡ Some i → (i < length names) × (get_or names i [] ≡ a)
place_at [] a i e = absurd (cc)
place_at (b ∷ names) a i e = by_first (place_at names a) (same_name b a) refl (place_in names a) refl e
  where
    by_first : ((j : ℕ) → place_in names a ≡ Some j → (j < length names) × (get_or names j [] ≡ a)) → (s : Bool) → same_name b a ≡ s
        → (o : Option ℕ) → place_in names a ≡ o → cond s (Some zero) (option_map (λ j. suc j) o) ≡ Some i
        → (i < length (b ∷ names)) × (get_or (b ∷ names) i [] ≡ a)
    by_first rest true same o is k =
        let first : zero ≡ i = cc in
        subst (λ j. (j < length (b ∷ names)) × (get_or (b ∷ names) j [] ≡ a)) first (omega arith, same_is b a same)
    by_first rest false other None is k = absurd (cc)
    by_first rest false other (Some j) is k =
        let later = rest j is in
        let next : suc j ≡ i = cc in
        subst (λ m. (m < length (b ∷ names)) × (get_or (b ∷ names) m [] ≡ a)) next (omega (arith, later.0), later.1)

-- two names that stand at one place are one
pub one_name : (names : List Name) (a b : Name) (i : ℕ) → place_in names a ≡ Some i → place_in names b ≡ Some i → a ≡ b
one_name names a b i at there = sym (place_at names a i at).1 ∙ (place_at names b i there).1

-- where a name stands behind others, if it has no place there
abbrev pub or_last : Option ℕ → Bool → ℕ → Option ℕ
or_last (Some i) last n = Some i
or_last None last n = cond last (Some n) None

-- what is not the last has the place that it had
pub not_last : (o : Option ℕ) (n : ℕ) → or_last o false n ≡ o
not_last None n = refl
not_last (Some i) n = refl

-- one name more
pub place_last : (names : List Name) (c a : Name) → place_in (names ++ c ∷ []) a ≡ or_last (place_in names a) (same_name c a) (length names)
place_last [] c a = refl
place_last (b ∷ names) c a = by_first (same_name b a) (place_last names c a)
  where
    next : (o : Option ℕ) (s : Bool) → option_map (λ i. suc i) (or_last o s (length names)) ≡ or_last (option_map (λ i. suc i) o) s (length (b ∷ names))
    next (Some i) s = refl
    next None true = refl
    next None false = refl

    by_first : (s : Bool) → place_in (names ++ c ∷ []) a ≡ or_last (place_in names a) (same_name c a) (length names)
        → cond s (Some zero) (option_map (λ i. suc i) (place_in (names ++ c ∷ []) a))
        ≡ or_last (cond s (Some zero) (option_map (λ i. suc i) (place_in names a))) (same_name c a) (length (b ∷ names))
    by_first true later = refl
    by_first false later = ap (option_map (λ i. suc i)) later ∙ next (place_in names a) (same_name c a)

-- what has a place keeps it, whatever names come behind
pub place_stays : (names more : List Name) (a : Name) (i : ℕ) → place_in names a ≡ Some i → place_in (names ++ more) a ≡ Some i
place_stays [] more a i e = absurd (cc)
place_stays (b ∷ names) more a i e = by_first (place_stays names more a) (same_name b a) (place_in names a) refl e
  where
    by_first : ((j : ℕ) → place_in names a ≡ Some j → place_in (names ++ more) a ≡ Some j) → (s : Bool) (o : Option ℕ) → place_in names a ≡ o → cond s (Some zero) (option_map (λ j. suc j) o) ≡ Some i
        → cond s (Some zero) (option_map (λ j. suc j) (place_in (names ++ more) a)) ≡ Some i
    by_first rest true o is k = k
    by_first rest false None is k = absurd (cc)
    by_first rest false (Some j) is k = ap (option_map (λ m. suc m)) (rest j is) ∙ k

-- what had none has its place behind them, if it has one
pub place_behind : (names more : List Name) (a : Name) → place_in names a ≡ None → (i : ℕ) → place_in (names ++ more) a ≡ Some i
    → (j : ℕ) × (i ≡ length names + j)
place_behind [] more a none i e = (i, omega arith)
place_behind (b ∷ names) more a none i e = by_first (place_behind names more a) (same_name b a) (place_in names a) refl (place_in (names ++ more) a) refl none e
  where
    by_first : (place_in names a ≡ None → (m : ℕ) → place_in (names ++ more) a ≡ Some m → (j : ℕ) × (m ≡ length names + j)) → (s : Bool) (o : Option ℕ) → place_in names a ≡ o → (p : Option ℕ) → place_in (names ++ more) a ≡ p
        → cond s (Some zero) (option_map (λ j. suc j) o) ≡ None → cond s (Some zero) (option_map (λ j. suc j) p) ≡ Some i
        → (j : ℕ) × (i ≡ length (b ∷ names) + j)
    by_first rest true o is p there n k = absurd (cc)
    by_first rest false (Some j) is p there n k = absurd (cc)
    by_first rest false None is None there n k = absurd (cc)
    by_first rest false None is (Some m) there n k =
        let later = rest is m there in
        let next : suc m ≡ i = cc in
        (later.0, omega (arith, later.1, next))

-- a new name stands at the end
pub new_place : (old new : List Name) (c : Name) (at : ℕ) → new ≡ old ++ c ∷ [] → place_in old c ≡ None → at ≡ length old → place_in new c ≡ Some at
new_place old new c at e none end =
    ap (λ names. place_in names c) e ∙ place_last old c c
    ∙ ap (λ o. or_last o (same_name c c) (length old)) none ∙ ap (λ t. cond t (Some (length old)) None) (same_refl c) ∙ ap Some (sym end)
