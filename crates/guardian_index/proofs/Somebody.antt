-- What somebody holds stands in a row, whoever it is.
use Rattle.std.proofs.Common.{◌≡◌, ℕ, Bool, true, false, ◌||◌, List, [], ◌∷◌, refl, sym, ap, ◌∙◌, subst}
use Rattle.std.proofs.lemmas.Bool.{false≢true}
use Rattle.std.specs.Prelude.{◌↔◌, IsTrue}
use Rattle.std.specs.List.Sorted.{IsStrictlySortedBy}
use Rattle.std.specs.declared.vec.Vec.{Vec}
use Rattle.std.specs.Map.{keys_of, values_of}
use Rattle.action_names.specs.Names.{Name, same_name, name_cmp}
use Rattle.action_names.proofs.Ancestry.{same_refl}
use Rattle.holders.proofs.Sorted.{behind_same}
use Rattle.guardian_index.specs.Held.{Row, Rows, IsHeld, has_number, has_object, is_in_row, rows_in}
use Rattle.guardian_index.proofs.Rows.{row_first, row_behind, none_row}

module _ {Z : Type 0} where
  -- what is held is in a row
  held_in_a_row : (b : Name) (n : ℕ) (es : List (Name × Vec ℕ Z)) → has_object (rows_in es) b n ≡ true → is_in_row (values_of es) n ≡ true
  held_in_a_row b n [] h = absurd (false≢true h)
  held_in_a_row b n (e ∷ es) h = by_case (held_in_a_row b n es) (same_name e.0 b) refl where
    first : (s t : Bool) → s ≡ true → s || t ≡ true
    first true t k = refl
    first false t k = absurd (false≢true k)

    second : (s : Bool) {t : Bool} → t ≡ true → s || t ≡ true
    second true k = refl
    second false k = k

    by_case : (has_object (rows_in es) b n ≡ true → is_in_row (values_of es) n ≡ true) → (t : Bool) → same_name e.0 b ≡ t → is_in_row (values_of (e ∷ es)) n ≡ true
    by_case later true d = first (has_number e.1.items n) _ (ap (λ (r : Row). has_number r.objects n) (sym (row_first e es b d)) ∙ h)
    by_case later false d = second (has_number e.1.items n) (later (ap (λ (r : Row). has_number r.objects n) (sym (row_behind e es b d)) ∙ h))

  -- and what is in a row is held by its holder
  row_is_held : (n : ℕ) (es : List (Name × Vec ℕ Z)) → IsStrictlySortedBy name_cmp (keys_of es) → is_in_row (values_of es) n ≡ true → IsHeld (rows_in es) n
  unfolding IsStrictlySortedBy
  row_is_held n [] s h = absurd (false≢true h)
  row_is_held n (e ∷ es) s h = by_case (row_is_held n es s.1) (has_number e.1.items n) refl h where
    other : (b : Name) → has_object (rows_in es) b n ≡ true → (t : Bool) → same_name e.0 b ≡ t → has_object (rows_in (e ∷ es)) b n ≡ true
    other b k true d = absurd (false≢true (sym (ap (λ (r : Row). has_number r.objects n) (none_row b es (behind_same e.0 b (keys_of es) d s.0))) ∙ k))
    other b k false d = ap (λ (r : Row). has_number r.objects n) (row_behind e es b d) ∙ k

    more : IsHeld (rows_in es) n → IsHeld (rows_in (e ∷ es)) n
    more w = (w.0, other w.0 w.1 (same_name e.0 w.0) refl)

    by_case : (is_in_row (values_of es) n ≡ true → IsHeld (rows_in es) n) → (t : Bool) → has_number e.1.items n ≡ t → t || is_in_row (values_of es) n ≡ true
        → IsHeld (rows_in (e ∷ es)) n
    by_case later true d k = (e.0, ap (λ (r : Row). has_number r.objects n) (row_first e es e.0 (same_refl e.0)) ∙ d)
    by_case later false d k = more (later k)

  pub all_held : (s : Rows) (es : List (Name × Vec ℕ Z)) (rows : List (Vec ℕ Z)) → IsStrictlySortedBy name_cmp (keys_of es) → rows_in es ≡ s → rows ≡ values_of es
      → (n : ℕ) → IsTrue (is_in_row rows n) ↔ IsHeld s n
  all_held s es rows sorted e is n = (
    λ h. subst (λ (rs : Rows). IsHeld rs n) e (row_is_held n es sorted (sym (ap (λ vs. is_in_row vs n) is) ∙ h)),
    λ w. ap (λ vs. is_in_row vs n) is ∙ held_in_a_row w.0 n es (ap (λ (rs : Rows). has_object rs w.0 n) e ∙ w.1),
  )
