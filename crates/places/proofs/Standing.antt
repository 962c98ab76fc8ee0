-- Rows by place: what a name's row is once a row is put, names come and room is made.
use Rattle.std.proofs.Common.{Bool, List, None, Option, Some, [], ap, arith, cond, false, length, refl, set, subst, suc, sym, true, zero, ℕ, ◌++◌, ◌<◌, ◌∙◌, ◌∷◌, ◌≡◌, ◌≢◌, ◌≤◌}
use Rattle.std.specs.Option.{option_and_then}
use Rattle.std.proofs.lemmas.Bool.{true≢false}
use Rattle.std.proofs.lemmas.Option.{slice_get_past}
use Rattle.action_names.specs.Names.{Name, same_name}
use Rattle.action_names.proofs.Ancestry.{same_is, same_refl}
use Rattle.places.specs.Placed.{place_in}
use Rattle.places.specs.Rows.{row_at, row_of}
use Rattle.places.proofs.Looking.{one_name, place_behind, place_stays}

module _ {V : Type 0} where
  at_same : (rows : List (Option V)) (i : ℕ) (v : V) → i < length rows → row_at (set rows i (Some v)) i ≡ Some v
  at_same [] i v h = absurd (omega arith)
  at_same (r ∷ rows) zero v h = refl
  at_same (r ∷ rows) (suc i) v h = at_same rows i v (omega arith)

  at_other : (rows : List (Option V)) (i j : ℕ) (v : V) → j ≢ i → row_at (set rows i (Some v)) j ≡ row_at rows j
  at_other [] i j v h = refl
  at_other (r ∷ rows) zero zero v h = absurd (h refl)
  at_other (r ∷ rows) zero (suc j) v h = refl
  at_other (r ∷ rows) (suc i) zero v h = refl
  at_other (r ∷ rows) (suc i) (suc j) v h = at_other rows i j v (λ e. h (ap suc e))

  -- one place more is empty
  pub at_empty : (rows : List (Option V)) (i : ℕ) → row_at (rows ++ None ∷ []) i ≡ row_at rows i
  at_empty [] zero = refl
  at_empty [] (suc i) = refl
  at_empty (r ∷ rows) zero = refl
  at_empty (r ∷ rows) (suc i) = at_empty rows i

  at_past : (rows : List (Option V)) (i : ℕ) → length rows ≤ i → row_at rows i ≡ None
  at_past rows i h = ap (option_and_then (λ row. row)) (slice_get_past rows i h)

  -- a row that is put at a place is its name's, and every other name has the row that it had
  pub row_put : (names : List Name) (a : Name) (i : ℕ) (rows : List (Option V)) (v : V) → place_in names a ≡ Some i → i < length rows → (b : Name)
      → row_of names (set rows i (Some v)) b ≡ cond (same_name a b) (Some v) (row_of names rows b)
  row_put names a i rows v at within b = by_name (same_name a b) refl (place_in names b) refl
    where
      by_name : (s : Bool) → same_name a b ≡ s → (o : Option ℕ) → place_in names b ≡ o
          → option_and_then (λ j. row_at (set rows i (Some v)) j) o ≡ cond s (Some v) (option_and_then (λ j. row_at rows j) o)
      by_name true same None there = let e : a ≡ b = same_is a b same in absurd (cc)
      by_name true same (Some j) there =
          let e : a ≡ b = same_is a b same in
          let here : i ≡ j = cc in
          subst (λ k. row_at (set rows i (Some v)) k ≡ Some v) here (at_same rows i v within)
      by_name false other None there = refl
      by_name false other (Some j) there =
          at_other rows i j v (λ (e : j ≡ i).
          absurd (true≢false (sym (same_refl a) ∙ subst (λ n. same_name a n ≡ false) (sym (one_name names a b i at (there ∙ ap Some e))) other)))

  -- names that come behind change no row, where there are no more rows than names
  pub row_more : (names more : List Name) (rows : List (Option V)) → length rows ≤ length names → (b : Name)
      → row_of (names ++ more) rows b ≡ row_of names rows b
  row_more names more rows few b = by_place (place_in names b) refl (place_in (names ++ more) b) refl
    where
      by_place : (o : Option ℕ) → place_in names b ≡ o → (p : Option ℕ) → place_in (names ++ more) b ≡ p
          → option_and_then (λ j. row_at rows j) p ≡ option_and_then (λ j. row_at rows j) o
      by_place (Some i) at p there = ap (option_and_then (λ j. row_at rows j)) (sym there ∙ place_stays names more b i at)
      by_place None none None there = refl
      by_place None none (Some j) there =
          let behind = place_behind names more b none j there in
          at_past rows j (omega (arith, behind.1))

  -- where each place has the row that it had, each name has
  pub row_same : (names : List Name) (old new : List (Option V)) → ((i : ℕ) → row_at new i ≡ row_at old i) → (b : Name)
      → row_of names new b ≡ row_of names old b
  row_same names old new same b = by_place (place_in names b)
    where
      by_place : (o : Option ℕ) → option_and_then (λ j. row_at new j) o ≡ option_and_then (λ j. row_at old j) o
      by_place None = refl
      by_place (Some i) = same i
