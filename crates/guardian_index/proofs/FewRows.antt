-- Rows in a vector: what becomes of them is said as of rows in a tree.
use Rattle.std.proofs.Common.{◌≡◌, ℕ, ◌+◌, ◌<◌, ◌≤◌, Bool, true, false, cond, not, ◌&&◌, filter, get_or, take, List, [], ◌∷◌, length, refl, sym, ap, ◌∙◌, subst}
use Rattle.std.specs.Prelude.{Some, is_some}
use Rattle.std.proofs.Math.ListN.{get_or-map}
use Rattle.std.proofs.lemmas.Bool.{and_parts}
use Rattle.std.proofs.lemmas.List.{length-map, take_all}
use Rattle.std.specs.List.{AllByRecursion, insert}
use Rattle.std.specs.List.Retain.{RetainsInTurn}
use Rattle.std.specs.List.Sorted.{IsStrictlySortedBy}
use Rattle.std.specs.declared.cmp.Ordering.{Ordering}
use Rattle.std.specs.declared.cmp.Ordering.TheVariants.{Less, Equal, Greater}
use Rattle.std.specs.declared.vec.Vec.{Vec}
use Rattle.std.specs.BTreeMap.{is_at, insert_entry}
use Rattle.std.specs.Map.{keys_of, lookup, remove_entry}
use Rattle.std.specs.Map.Calls.{RetainsPairs}
use Rattle.action_names.specs.Names.{Name, has_name, name_cmp, same_name}
use Rattle.holders.specs.Places.{IsGapAt}
use Rattle.holders.proofs.FewRows.{inserted_next}
use Rattle.holders.proofs.Places.{insert_gap, sorted_in, sorted_none, sorted_out}
use Rattle.holders.proofs.Rows.{has_row, room_out}
use Rattle.holders.proofs.Sorted.{StandBehind}
use Rattle.guardian_index.specs.Held.{Row, Rows, IsRising, row_of, rows_in, IsOrderly}
use Rattle.guardian_index.proofs.Numbers.{no_numbers}
use Rattle.guardian_index.proofs.Rows.{AllRise, Leaves, orderly_out, orderly_put}

-- the objects of each row rise
abbrev RowsRise : Rows → Type 0
RowsRise rs = AllByRecursion (λ (r : Name × Row). IsRising r.1.objects) rs

module _ {Z : Type 0} where
  pub orderly_none : (es : List (Name × Vec ℕ Z)) → es ≡ [] → IsOrderly es
  orderly_none es none = subst (λ (rs : List (Name × Vec ℕ Z)). IsOrderly rs) (sym none) (record { names = sorted_none; objects = tt })

  -- the names of the rows
  pub keys_shown : (es : List (Name × Vec ℕ Z)) → keys_of (rows_in es) ≡ keys_of es
  keys_shown [] = refl
  keys_shown (e ∷ es) = ap (λ ns. e.0 ∷ ns) (keys_shown es)

  -- ---- a row taken out
  pub orderly_less : (es new : List (Name × Vec ℕ Z)) (a : Name) → IsOrderly es → new ≡ remove_entry (is_at (name_cmp a)) es → IsOrderly new
  orderly_less es new a o is =
      orderly_out es new a o is (subst (λ (rs : List (Name × Vec ℕ Z)). IsStrictlySortedBy name_cmp (keys_of rs)) (sym is) (sorted_out (is_at (name_cmp a)) es o.names))

  -- who has a row then had it before
  pub had_row : (s : Rows) (es new : List (Name × Vec ℕ Z)) (a b : Name) (w : Vec ℕ Z) → rows_in es ≡ s → IsOrderly es → new ≡ remove_entry (is_at (name_cmp a)) es
      → Some w ≡ lookup (is_at (name_cmp b)) new → has_name (keys_of s) b ≡ true
  had_row s es new a b w e o is q =
      let has : has_name (keys_of new) b ≡ true = sym (has_row b new) ∙ ap is_some (sym q) in
      let gone : has_name (keys_of new) b ≡ not (same_name a b) && has_name (keys_of es) b =
      ap (λ (rs : List (Name × Vec ℕ Z)). has_name (keys_of rs) b) is ∙ room_out a b es o.names in
      ap (λ (rs : Rows). has_name (keys_of rs) b) (sym e) ∙ ap (λ ns. has_name ns b) (keys_shown es) ∙ (and_parts _ _ (sym gone ∙ has)).1

  -- ---- a new row
  -- it stands in the gap that was found for it
  pub put_at : (es new : List (Name × Vec ℕ Z)) (a own : Name) (i : ℕ) (w : Vec ℕ Z) → IsGapAt es a i → own ≡ a → new ≡ insert es i (own, w)
      → new ≡ insert_entry name_cmp es a w
  put_at es new a own i w gap same is = is ∙ ap (λ n. insert es i (n, w)) same ∙ insert_gap es a i w gap

  pub orderly_given : (es new : List (Name × Vec ℕ Z)) (a : Name) (w : Vec ℕ Z) → IsOrderly es → new ≡ insert_entry name_cmp es a w → IsRising w.items → IsOrderly new
  orderly_given es new a w o is rises =
      orderly_put es new a w o is (subst (λ (rs : List (Name × Vec ℕ Z)). IsStrictlySortedBy name_cmp (keys_of rs)) (sym is) (sorted_in a w es o.names)) rises

  pub orderly_more : (es new : List (Name × Vec ℕ Z)) (a : Name) (w : Vec ℕ Z) → IsOrderly es → new ≡ insert_entry name_cmp es a w → w.items ≡ [] → IsOrderly new
  orderly_more es new a w o is none = orderly_given es new a w o is (subst IsRising (sym none) no_numbers)

  -- ---- rows that show the same
  shown_rise : (es : List (Name × Vec ℕ Z)) → AllRise es → RowsRise (rows_in es)
  shown_rise [] h = tt
  shown_rise (e ∷ es) h = (h.0, shown_rise es h.1)

  rise_shown : (es : List (Name × Vec ℕ Z)) → RowsRise (rows_in es) → AllRise es
  rise_shown [] h = tt
  rise_shown (e ∷ es) h = (h.0, rise_shown es h.1)

  -- are in the same order
  pub orderly_as : (es new : List (Name × Vec ℕ Z)) → rows_in new ≡ rows_in es → IsOrderly es → IsOrderly new
  orderly_as es new same o = record {
    names = subst (IsStrictlySortedBy name_cmp) (sym (keys_shown es) ∙ ap (λ (rs : Rows). keys_of rs) (sym same) ∙ keys_shown new) o.names;
    objects = rise_shown new (subst RowsRise (sym same) (shown_rise es o.objects));
  }

  shown_put : (a : Name) (w : Vec ℕ Z) (es : List (Name × Vec ℕ Z)) → rows_in (insert_entry name_cmp es a w) ≡ insert_entry name_cmp (rows_in es) a (row_of w)
  shown_put a w [] = refl
  shown_put a w (e ∷ es) = by_case (shown_put a w es) (name_cmp a e.0) refl where
    by_case : rows_in (insert_entry name_cmp es a w) ≡ insert_entry name_cmp (rows_in es) a (row_of w) → (o : Ordering) → name_cmp a e.0 ≡ o
        → rows_in (insert_entry name_cmp (e ∷ es) a w) ≡ insert_entry name_cmp (rows_in (e ∷ es)) a (row_of w)
    by_case later Less o = simp o refl
    by_case later Equal o = simp o refl
    by_case later Greater o = simp o (ap (λ (rs : Rows). (e.0, row_of e.1) ∷ rs) later)

  -- a copy of a row is put into a tree that shows the rows before it
  pub copied_next : (items entries new : List (Name × Vec ℕ Z)) (i : ℕ) (x : Name × Vec ℕ Z) (n : Name) (w : Vec ℕ Z) → IsStrictlySortedBy name_cmp (keys_of items)
      → x ≡ get_or items i x → i < length items → rows_in entries ≡ take i (rows_in items) → n ≡ x.0 → row_of w ≡ row_of x.1
      → new ≡ insert_entry name_cmp entries n w → rows_in new ≡ take (i + 1) (rows_in items)
  copied_next items entries new i x n w s is lt so_far named same q =
      let shown : Name × Vec ℕ Z → Name × Row = λ e. (e.0, row_of e.1) in
      inserted_next (rows_in items) (rows_in entries) (rows_in new) i (shown x) n (subst (IsStrictlySortedBy name_cmp) (sym (keys_shown items)) s)
      (ap shown is ∙ sym (get_or-map shown items i x)) (subst (λ m. i < m) (sym (length-map items shown)) lt) so_far named
      (ap (λ (es : List (Name × Vec ℕ Z)). rows_in es) q ∙ shown_put n w entries ∙ ap (insert_entry name_cmp (rows_in entries) n) same)

  -- and all of them
  pub all_copied : (items es entries : List (Name × Vec ℕ Z)) (i : ℕ) → rows_in entries ≡ take i (rows_in items) → length items ≤ i → items ≡ es
      → rows_in entries ≡ rows_in es
  all_copied items es entries i so_far past same =
      let shown : Name × Vec ℕ Z → Name × Row = λ e. (e.0, row_of e.1) in
      so_far ∙ take_all i (rows_in items) (subst (λ m. m ≤ i) (sym (length-map items shown)) past) ∙ ap (λ (rs : List (Name × Vec ℕ Z)). rows_in rs) same

  -- ---- rows kept by a test that leaves their names
  -- what one call left of a row
  pub row_leaves : {F : Type 0} (holds : Name → ℕ → Bool) {f g : F} {row left e y : Name × Vec ℕ Z} {stays : Bool} → row ≡ e → left ≡ y → left.0 ≡ row.0
      → left.1.items ≡ filter (holds row.0) row.1.items → (stays ≡ false → left.1.items ≡ []) → g ≡ f → (y.0 ≡ e.0) × Leaves holds f e.0 e.1 stays y.1 g
  row_leaves holds {f} {g} {row} {left} {e} {y} {stays} was is named objects none again = (
    ap (λ (r : Name × Vec ℕ Z). r.0) (sym is) ∙ named ∙ ap (λ (r : Name × Vec ℕ Z). r.0) was,
    record {
      objects = ap (λ (r : Name × Vec ℕ Z). r.1.items) (sym is) ∙ objects ∙ ap (λ (r : Name × Vec ℕ Z). filter (holds r.0) r.1.items) was;
      none = λ gone. ap (λ (r : Name × Vec ℕ Z). r.1.items) (sym is) ∙ none gone;
      again = again;
    },
  )

  -- what is retained in turn is retained by names
  pub in_pairs : {F : Type 0} (R : F → Name × Vec ℕ Z → Bool → F → Name × Vec ℕ Z → Type 0) (holds : Name → ℕ → Bool) (f : F)
      → ((x : Name × Vec ℕ Z) (b : Bool) (g : F) (y : Name × Vec ℕ Z) → R f x b g y → (y.0 ≡ x.0) × Leaves holds f x.0 x.1 b y.1 g)
      → (es kept : List (Name × Vec ℕ Z)) → RetainsInTurn R f es kept → RetainsPairs (λ g k v b w h. Leaves holds g k v b w h) f es kept
  in_pairs R holds f step [] kept r = r
  in_pairs {F} R holds f step (x ∷ xs) kept r =
      let left = step x r.0 r.1 r.2 r.3 in (
        r.0,
        r.2.1,
        f,
        r.4,
        record { objects = left.1.objects; none = left.1.none; again = refl },
        in_pairs R holds f step xs r.4 (subst (λ (g : F). RetainsInTurn R g xs r.4) left.1.again r.5),
        r.6 ∙ ap (λ n. cond r.0 ((n, r.2.1) ∷ r.4) r.4) left.0,
      )

  behind_kept : {F : Type 0} (T : F → Name → Vec ℕ Z → Bool → Vec ℕ Z → F → Type 0) (a : Name) (f : F) (es kept : List (Name × Vec ℕ Z))
      → RetainsPairs T f es kept → StandBehind a (keys_of es) → StandBehind a (keys_of kept)
  behind_kept T a f [] kept r h = subst (λ (ks : List (Name × Vec ℕ Z)). StandBehind a (keys_of ks)) (sym r) tt
  behind_kept {F} T a f (e ∷ es) kept r h =
      subst (λ (ks : List (Name × Vec ℕ Z)). StandBehind a (keys_of ks)) (sym r.6) (by_case r.0 (behind_kept T a r.2 es r.3 r.5 h.1)) where
        by_case : (t : Bool) → StandBehind a (keys_of r.3) → StandBehind a (keys_of (cond t ((e.0, r.1) ∷ r.3) r.3))
        by_case true later = (h.0, later)
        by_case false later = later

  pub kept_names : {F : Type 0} (T : F → Name → Vec ℕ Z → Bool → Vec ℕ Z → F → Type 0) (f : F) (es kept : List (Name × Vec ℕ Z))
      → RetainsPairs T f es kept → IsStrictlySortedBy name_cmp (keys_of es) → IsStrictlySortedBy name_cmp (keys_of kept)
  unfolding IsStrictlySortedBy
  kept_names T f [] kept r s = subst (λ (ks : List (Name × Vec ℕ Z)). IsStrictlySortedBy name_cmp (keys_of ks)) (sym r) tt
  kept_names {F} T f (e ∷ es) kept r s =
      subst (λ (ks : List (Name × Vec ℕ Z)). IsStrictlySortedBy name_cmp (keys_of ks)) (sym r.6)
      (by_case r.0 (behind_kept T e.0 r.2 es r.3 r.5 s.0) (kept_names T r.2 es r.3 r.5 s.1)) where
        by_case : (t : Bool) → StandBehind e.0 (keys_of r.3) → IsStrictlySortedBy name_cmp (keys_of r.3)
            → IsStrictlySortedBy name_cmp (keys_of (cond t ((e.0, r.1) ∷ r.3) r.3))
        by_case true front later = (front, later)
        by_case false front later = later
