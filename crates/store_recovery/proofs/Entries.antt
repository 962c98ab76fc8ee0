-- The entries of finite maps of numbers, which rise.
use Rattle.std.proofs.Common.{◌≡◌, ℕ, List, [], ◌∷◌, Bool, true, false, ◌&&◌, T, cond, length, Some, None, refl, sym, ap, subst, ◌∙◌, nat_cmp, Ordering, Less, Equal, Greater, is_eq, is_lt, arith}
use Rattle.std.specs.Cmp.{nat_cmp_total}
use Rattle.std.specs.Ordering.{eq_by_cmp}
use Rattle.std.specs.List.{AllByRecursion}
use Rattle.std.specs.List.Sorted.{IsStrictlySortedBy}
use Rattle.std.specs.Map.{keys_of}
use Rattle.std.specs.FinMap.{FinMap, empty, entries, entries_sorted, entries-from_sorted, empty_of_len, find, from_entries, from_sorted, get-entries, get-from_entries, get-from_sorted, get-remove, is_sorted, len, len-empty, len-entries, nat_cmp-IsAntisymmetric, remove, same_map}
use Rattle.std.specs.FinMap.Entries.{below_all}
use Rattle.std.proofs.lemmas.Map.Keys.{sorted_head, sorted_tail}
use Rattle.stable_store.specs.Held.{record_of, records_of}
use Rattle.stable_store.specs.declared.kept.Prepared.{Prepared}
use Rattle.stable_store.proofs.Ordered.{seen}
use Rattle.atomic_types.specs.declared.part.Part.{Part}

both : (a b : Bool) → T a → T b → T (a && b)
both true b p q = q
both false b p q = absurd p

first : (a b : Bool) → T (a && b) → T a
first true b p = tt
first false b p = absurd p

second : (a b : Bool) → T (a && b) → T b
second true b p = p
second false b p = absurd p

apart : (o : Ordering) → T (is_lt o) → is_eq o ≡ false
apart Less h = refl
apart Equal h = absurd h
apart Greater h = absurd h

tied : (o : Ordering) → is_eq o ≡ true → o ≡ Equal
tied Less h = absurd (subst T (sym h) tt)
tied Equal h = refl
tied Greater h = absurd (subst T (sym h) tt)

none_left : {A : Type 0} (xs : List A) → length xs ≡ 0 → xs ≡ []
none_left [] h = refl
none_left (x ∷ xs) h = absurd (omega arith)

module _ {X : Type 0} where
  -- the map of entries that rise has these entries
  pub entries_of : (es : List (ℕ × X)) → T (is_sorted nat_cmp es) → entries (from_entries {R = nat_cmp} es) ≡ es
  entries_of es rise =
      ap entries (same_map nat_cmp_total nat_cmp-IsAntisymmetric (from_entries es) (from_sorted es) (λ q. get-from_entries nat_cmp_total es q ∙ sym (get-from_sorted nat_cmp es q rise)))
      ∙ entries-from_sorted nat_cmp es rise

  none_above : (k : ℕ) (es : List (ℕ × X)) → T (below_all nat_cmp k es) → find nat_cmp k es ≡ None
  none_above k [] h = refl
  none_above k (e ∷ es) h = ap (λ b. cond b (Some e.1) (find nat_cmp k es)) (apart (nat_cmp k e.0) (first _ _ h)) ∙ none_above k es (second _ _ h)

  -- what is left of the entries behind the first when its key is removed
  behind_first : (e : ℕ × X) (es : List (ℕ × X)) (q : ℕ) → T (below_all nat_cmp e.0 es)
      → cond (eq_by_cmp nat_cmp q e.0) None (find nat_cmp q (e ∷ es)) ≡ find nat_cmp q es
  behind_first e es q below = at (eq_by_cmp nat_cmp q e.0) refl
    where
      at : (b : Bool) → eq_by_cmp nat_cmp q e.0 ≡ b → cond b None (cond b (Some e.1) (find nat_cmp q es)) ≡ find nat_cmp q es
      at true is = sym (ap (λ k. find nat_cmp k es) (nat_cmp-IsAntisymmetric q e.0 (tied _ is)) ∙ none_above e.0 es below)
      at false is = refl

  -- the first entry taken out
  pub first_removed : (m : FinMap nat_cmp X) (e : ℕ × X) (rest : List (ℕ × X)) → entries m ≡ e ∷ rest → entries (remove m e.0) ≡ rest
  first_removed m e rest is =
      let rise : T (is_sorted nat_cmp (e ∷ rest)) = subst (λ es. T (is_sorted nat_cmp es)) is (entries_sorted m) in
      let left : T (is_sorted nat_cmp rest) = second _ _ rise in
      ap entries (same_map nat_cmp_total nat_cmp-IsAntisymmetric (remove m e.0) (from_sorted rest) (λ q.
      get-remove nat_cmp_total m e.0 q ∙ ap (λ o. cond (eq_by_cmp nat_cmp q e.0) None o) (get-entries m q ∙ ap (λ es. find nat_cmp q es) is)
      ∙ behind_first e rest q (first _ _ rise) ∙ sym (get-from_sorted nat_cmp rest q left)))
      ∙ entries-from_sorted nat_cmp rest left

  pub no_entries : (m : FinMap nat_cmp X) → m ≡ empty → entries m ≡ []
  no_entries m is = none_left (entries m) (sym (len-entries m) ∙ ap (λ n. len n) is ∙ len-empty nat_cmp X)

  pub is_empty : (m : FinMap nat_cmp X) → entries m ≡ [] → m ≡ empty
  is_empty m is = empty_of_len m (len-entries m ∙ ap (λ es. length es) is)

-- a map that keeps its entries in order

module _ {X Y : Type 0} (f : X → Y) where
  below_seen : (k : ℕ) (es : List (ℕ × X)) → AllByRecursion (λ y. nat_cmp k y ≡ Less) (keys_of es) → T (below_all nat_cmp k (seen f es))
  below_seen k [] h = tt
  below_seen k (e ∷ es) h = both _ _ (subst (λ o. T (is_lt o)) (sym h.0) tt) (below_seen k es h.1)

  rising_seen : (es : List (ℕ × X)) → IsStrictlySortedBy nat_cmp (keys_of es) → T (is_sorted nat_cmp (seen f es))
  rising_seen [] h = tt
  rising_seen (e ∷ es) h =
      both _ _ (below_seen e.0 es (sorted_head nat_cmp e.0 (keys_of es) h)) (rising_seen es (sorted_tail nat_cmp e.0 (keys_of es) h))

-- the records that a store keeps in order are its map's entries
pub records_are : (es : List (ℕ × Prepared)) → IsStrictlySortedBy nat_cmp (keys_of es) → entries (from_entries {R = nat_cmp} (records_of es)) ≡ records_of es
records_are es rise = entries_of (records_of es) (rising_seen record_of es rise)

-- and so are the parts
pub parts_are : (es : List (ℕ × Part)) → IsStrictlySortedBy nat_cmp (keys_of es) → entries (from_entries {R = nat_cmp} es) ≡ es
parts_are es rise = entries_of es (subst (λ l. T (is_sorted nat_cmp l)) (same es) (rising_seen (λ p. p) es rise))
  where
    same : (es : List (ℕ × Part)) → seen (λ p. p) es ≡ es
    same [] = refl
    same (e ∷ es) = ap (λ l. e ∷ l) (same es)
