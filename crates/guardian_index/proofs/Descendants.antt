-- What an action and its descendants hold, row by row.
use Rattle.std.proofs.Common.{◌≡◌, ℕ, ◌+◌, ◌<◌, Bool, true, false, cond, ◌||◌, drop, filter, get_or, List, [], ◌∷◌, length, refl, sym, ap, ◌∙◌, subst, arith}
use Rattle.std.proofs.lemmas.Bool.{true≢false, false≢true}
use Rattle.std.proofs.lemmas.List.{drop_more}
use Rattle.std.proofs.lemmas.List.Sums.{take_while-cons}
use Rattle.std.specs.Prelude.{◌↔◌, IsTrue}
use Rattle.std.specs.List.{take_while}
use Rattle.std.specs.List.Sorted.{IsStrictlySortedBy}
use Rattle.std.specs.declared.vec.Vec.{Vec}
use Rattle.std.specs.declared.ops.Bound.TheVariants.{Included, Unbounded}
use Rattle.std.specs.BTreeMap.Range.{entries_between}
use Rattle.std.specs.Map.{keys_of}
use Rattle.action_names.specs.Names.{Name, same_name, name_cmp, is_ancestor}
use Rattle.action_names.proofs.Ancestry.{same_is, same_refl}
use Rattle.holders.proofs.Below.{first_from}
use Rattle.holders.proofs.Sorted.{behind_same}
use Rattle.guardian_index.specs.Held.{Row, Rows, has_number, has_object, count_below, HoldsBelow, rows_in}
use Rattle.guardian_index.proofs.Rows.{row_first, row_behind, none_row}
use Rattle.guardian_index.proofs.Counts.{count_all, count_among}

module _ {Z : Type 0} where
  -- whether one of the rows has the number
  abbrev pub any_has : List (Name × Vec ℕ Z) → ℕ → Bool
  any_has [] n = false
  any_has (e ∷ es) n = has_number e.1.items n || any_has es n

  -- the first rows are those of the action and its descendants
  abbrev pub first_below : Name → List (Name × Vec ℕ Z) → List (Name × Vec ℕ Z)
  first_below a es = take_while (λ e. is_ancestor a e.0) es

  pub one_below : (a : Name) (left : List (Name × Vec ℕ Z)) (e : Name × Vec ℕ Z) (rest : List (Name × Vec ℕ Z)) → left ≡ e ∷ rest → is_ancestor a e.0 ≡ true
      → first_below a left ≡ e ∷ first_below a rest
  one_below a left e rest q up =
      ap (first_below a) q ∙ take_while-cons (λ (e : Name × Vec ℕ Z). is_ancestor a e.0) e rest ∙ ap (λ t. cond t (e ∷ first_below a rest) []) up

  -- the rows from the action on begin with all those of the action and its descendants
  pub all_below : (a : Name) (es from it : List (Name × Vec ℕ Z)) → IsStrictlySortedBy name_cmp (keys_of es) → from ≡ entries_between name_cmp (Included a) Unbounded es
      → it ≡ from → first_below a it ≡ filter (λ e. is_ancestor a e.0) es
  all_below a es from it s between is = ap (first_below a) (is ∙ between) ∙ first_from a es s

  -- what is held below is in a row of the action and its descendants
  pub held_in_row : (a b : Name) (n : ℕ) (es : List (Name × Vec ℕ Z)) → is_ancestor a b ≡ true → has_object (rows_in es) b n ≡ true
      → any_has (filter (λ e. is_ancestor a e.0) es) n ≡ true
  held_in_row a b n [] up h = absurd (false≢true h)
  held_in_row a b n (e ∷ es) up h = by_case (held_in_row a b n es up) (same_name e.0 b) refl (is_ancestor a e.0) refl h where
    first : (s t : Bool) → s ≡ true → s || t ≡ true
    first true t k = refl
    first false t k = absurd (false≢true k)

    second : (s : Bool) {t : Bool} → t ≡ true → s || t ≡ true
    second true k = refl
    second false k = k

    here : same_name e.0 b ≡ true → has_object (rows_in (e ∷ es)) b n ≡ true → has_number e.1.items n ≡ true
    here d k = ap (λ (r : Row). has_number r.objects n) (sym (row_first e es b d)) ∙ k

    behind : same_name e.0 b ≡ false → has_object (rows_in (e ∷ es)) b n ≡ true → has_object (rows_in es) b n ≡ true
    behind d k = ap (λ (r : Row). has_number r.objects n) (sym (row_behind e es b d)) ∙ k

    by_case : (has_object (rows_in es) b n ≡ true → any_has (filter (λ e. is_ancestor a e.0) es) n ≡ true)
        → (t : Bool) → same_name e.0 b ≡ t → (u : Bool) → is_ancestor a e.0 ≡ u → has_object (rows_in (e ∷ es)) b n ≡ true
        → any_has (filter (λ e. is_ancestor a e.0) (e ∷ es)) n ≡ true
    by_case later true d true k h = simp k (first (has_number e.1.items n) _ (here d h))
    by_case later true d false k h = absurd (true≢false (sym (subst (λ m. is_ancestor a m ≡ true) (sym (same_is e.0 b d)) up) ∙ k))
    by_case later false d true k h = simp k (second (has_number e.1.items n) (later (behind d h)))
    by_case later false d false k h = simp k (later (behind d h))

  -- what a row of the action or a descendant has is held below
  pub row_holds : (a : Name) (n : ℕ) (es : List (Name × Vec ℕ Z)) → IsStrictlySortedBy name_cmp (keys_of es)
      → any_has (filter (λ e. is_ancestor a e.0) es) n ≡ true → HoldsBelow (rows_in es) a n
  unfolding IsStrictlySortedBy
  row_holds a n [] s h = absurd (false≢true h)
  row_holds a n (e ∷ es) s h = by_case (row_holds a n es s.1) (is_ancestor a e.0) refl (has_number e.1.items n) refl h where
    own : has_number e.1.items n ≡ true → has_object (rows_in (e ∷ es)) e.0 n ≡ true
    own k = ap (λ (r : Row). has_number r.objects n) (row_first e es e.0 (same_refl e.0)) ∙ k

    other : (b : Name) → has_object (rows_in es) b n ≡ true → (t : Bool) → same_name e.0 b ≡ t → has_object (rows_in (e ∷ es)) b n ≡ true
    other b k true d = absurd (false≢true (sym (ap (λ (r : Row). has_number r.objects n) (none_row b es (behind_same e.0 b (keys_of es) d s.0))) ∙ k))
    other b k false d = ap (λ (r : Row). has_number r.objects n) (row_behind e es b d) ∙ k

    more : HoldsBelow (rows_in es) a n → HoldsBelow (rows_in (e ∷ es)) a n
    more w = (w.0, w.1, other w.0 w.2 (same_name e.0 w.0) refl)

    by_case : (any_has (filter (λ e. is_ancestor a e.0) es) n ≡ true → HoldsBelow (rows_in es) a n)
        → (t : Bool) → is_ancestor a e.0 ≡ t → (u : Bool) → has_number e.1.items n ≡ u → any_has (filter (λ e. is_ancestor a e.0) (e ∷ es)) n ≡ true
        → HoldsBelow (rows_in (e ∷ es)) a n
    by_case later true d true k h = (e.0, d, own k)
    by_case later true d false k h = more (later (rw (d, k) at h))
    by_case later false d u k h = more (later (rw d at h))

  -- before the first row nothing is put in, and all rows are left
  pub none_taken : (s : Rows) (a : Name) (es left : List (Name × Vec ℕ Z)) (below : List ℕ) → IsStrictlySortedBy name_cmp (keys_of es) → rows_in es ≡ s
      → left ≡ filter (λ e. is_ancestor a e.0) es → below ≡ [] → (n : ℕ) → IsTrue (any_has left n || has_number below n) ↔ HoldsBelow s a n
  none_taken s a es left below sorted e all none n =
      let same : any_has left n || has_number below n ≡ any_has (filter (λ e. is_ancestor a e.0) es) n =
      ap (λ ns. any_has left n || has_number ns n) none ∙ or_false (any_has left n) ∙ ap (λ rs. any_has rs n) all in (
        λ h. subst (λ (rs : Rows). HoldsBelow rs a n) e (row_holds a n es sorted (sym same ∙ h)),
        λ w. same ∙ held_in_row a w.0 n es w.1 (ap (λ (rs : Rows). has_object rs w.0 n) e ∙ w.2),
      ) where
        or_false : (t : Bool) → t || false ≡ t
        or_false true = refl
        or_false false = refl

  pub all_counted : (s : Rows) (a : Name) (es left : List (Name × Vec ℕ Z)) → rows_in es ≡ s → left ≡ filter (λ e. is_ancestor a e.0) es
      → 0 + count_all left ≡ count_below s a
  all_counted s a es left e all =
      let whole : count_all left ≡ count_below s a = ap count_all all ∙ count_among a es ∙ ap (λ (rs : Rows). count_below rs a) e in
      omega (arith, whole)

  -- ---- one row more
  -- the numbers of a row were put in, and the rows behind it are left
  pub row_taken : (left rest : List (Name × Vec ℕ Z)) (e : Name × Vec ℕ Z) (now next : List ℕ) → left ≡ e ∷ rest
      → ((n : ℕ) → has_number next n ≡ has_number e.1.items n || has_number now n) → (n : ℕ)
      → any_has rest n || has_number next n ≡ any_has left n || has_number now n
  row_taken left rest e now next q step n =
      ap (λ t. any_has rest n || t) (step n)
      ∙ moved (has_number e.1.items n) (any_has rest n) (has_number now n)
      ∙ ap (λ es. any_has es n || has_number now n) (sym q) where
        moved : (s r h : Bool) → r || (s || h) ≡ (s || r) || h
        moved true true h = refl
        moved true false h = refl
        moved false r h = refl

  pub row_counted : (left rest : List (Name × Vec ℕ Z)) (e : Name × Vec ℕ Z) (c n : ℕ) → left ≡ e ∷ rest → n ≡ length e.1.items
      → (c + n) + count_all rest ≡ c + count_all left
  row_counted left rest e c n q is =
      let whole : count_all left ≡ length e.1.items + count_all rest = ap count_all q in
      omega (arith, whole, is)

  -- what is left of a list from a place on begins with what stands there
  pub next_left : (items : List (Name × Vec ℕ Z)) (i : ℕ) (e : Name × Vec ℕ Z) → e ≡ get_or items i e → i < length items → drop i items ≡ e ∷ drop (i + 1) items
  next_left items i e is lt = drop_more items i e lt ∙ ap (λ x. x ∷ drop (i + 1) items) (sym is)
