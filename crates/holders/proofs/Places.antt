-- The place of a name among rows in the order of their names: how it is found, and what is done there.
use Rattle.std.proofs.Common.{◌≡◌, ℕ, zero, suc, ◌+◌, ◌<◌, ◌≤◌, Bool, true, false, cond, ◌||◌, List, [], ◌∷◌, ◌++◌, length, get_or, set, refl, sym, ap, ◌∙◌, subst, arith}
use Rattle.std.specs.Prelude.{Option, Some, None, Result, Ok, Err, IfOk, IfErr, OnOk, OnErr, is_some}
use Rattle.std.proofs.lemmas.Bool.{true≢false}
use Rattle.std.proofs.lemmas.List.{length_push}
use Rattle.std.proofs.lemmas.List.Sorted.{searchable_from_sorted}
use Rattle.std.specs.List.{insert, remove}
use Rattle.std.specs.List.Sorted.{IsStrictlySortedBy, IsSearchInRange, IsBinarySearchResult}
use Rattle.std.specs.Map.{keys_of, lookup, remove_entry, set_value}
use Rattle.std.specs.BTreeMap.{insert_entry, is_at}
use Rattle.std.specs.Ordering.{is_eq, is_lt, is_le, ordering_reverse, match_ordering}
use Rattle.std.specs.declared.cmp.Ordering.{Ordering}
use Rattle.std.specs.declared.cmp.Ordering.TheVariants.{Less, Equal, Greater}
use Rattle.action_names.specs.Names.{Name, same_name, has_name, name_cmp}
use Rattle.action_names.specs.Comparison.{name_cmp-total}
use Rattle.holders.specs.Places.{IsRowAt, IsGapAt, IsStartAt}
use Rattle.holders.proofs.Sorted.{StandBehind, not_behind, at_name, behind, greater}
use Rattle.holders.proofs.Rows.{has_row, keys_set}

-- ---- found by a binary search

turned : (a n : Name) (o : Ordering) → name_cmp n a ≡ o → name_cmp a n ≡ ordering_reverse o
turned a n o e = name_cmp-total.antisymm a n ∙ ap ordering_reverse e

-- no row is of a lesser name than the row before it
never_falls : {R : Type 0} (rs : List (Name × R)) → IsStrictlySortedBy name_cmp (keys_of rs) → (k : ℕ) (d : Name × R) → k + 1 < length rs
    → is_lt (name_cmp (get_or rs (k + 1) d).0 (get_or rs k d).0) ≡ false
unfolding IsStrictlySortedBy
never_falls [] s k d lt = absurd (omega arith)
never_falls (r ∷ []) s k d lt = absurd (omega arith)
never_falls (r ∷ q ∷ rs) s zero d lt = ap is_lt (greater q.0 r.0 s.0.0)
never_falls (r ∷ q ∷ rs) s (suc k) d lt =
    let e : suc k + 1 ≡ suc (k + 1) = omega arith in
    ap (λ i. is_lt (name_cmp (get_or (r ∷ q ∷ rs) i d).0 (get_or (q ∷ rs) k d).0)) e ∙ never_falls (q ∷ rs) s.1 k d (omega arith)

-- a name that has a row is there
has_at : {R : Type 0} (rs : List (Name × R)) (a : Name) (i : ℕ) → IsRowAt rs a i → has_name (keys_of rs) a ≡ true
has_at [] a i here = absurd here
has_at (r ∷ rs) a zero here = let e : same_name r.0 a ≡ true = sym (at_name a r.0) ∙ ap is_eq here in rw e refl
has_at (r ∷ rs) a (suc i) here = or (same_name r.0 a) (has_at rs a i here.1) where
  or : (s : Bool) {t : Bool} → t ≡ true → s || t ≡ true
  or true e = refl
  or false e = e

row_from : {R : Type 0} (rs : List (Name × R)) (a : Name) (i : ℕ) → IsStrictlySortedBy name_cmp (keys_of rs) → i < length rs
    → ((d : Name × R) → name_cmp (get_or rs i d).0 a ≡ Equal) → IsRowAt rs a i
unfolding IsStrictlySortedBy
row_from [] a i s lt same = absurd (omega arith)
row_from (r ∷ rs) a zero s lt same = turned a r.0 Equal (same r)
row_from (r ∷ rs) a (suc i) s lt same =
    let later = row_from rs a i s.1 (omega arith) same in (greater a r.0 (behind r.0 a (keys_of rs) s.0 (has_at rs a i later)), later)

gap_from : {R : Type 0} (rs : List (Name × R)) (a : Name) (i : ℕ) → i ≤ length rs → ((k : ℕ) (d : Name × R) → k < i → name_cmp (get_or rs k d).0 a ≡ Less)
    → ((k : ℕ) (d : Name × R) → i ≤ k → k < length rs → name_cmp (get_or rs k d).0 a ≡ Greater) → IsGapAt rs a i
gap_from [] a zero le before after = tt
gap_from [] a (suc i) le before after = absurd (omega arith)
gap_from (r ∷ rs) a zero le before after = turned a r.0 Greater (after 0 r (omega arith) (omega arith))
gap_from (r ∷ rs) a (suc i) le before after = (
  turned a r.0 Less (before 0 r (omega arith)),
  gap_from rs a i (omega arith) (λ k d lt. before (suc k) d (omega arith)) (λ k d ge lt. after (suc k) d (omega arith) (omega arith)),
)

searched : {R : Type 0} (rs : List (Name × R)) (a : Name) → IsStrictlySortedBy name_cmp (keys_of rs) → (r : Result ℕ ℕ) → IsSearchInRange r (length rs)
    → IsBinarySearchResult (λ y. name_cmp y.0 a) rs r
    → record { found : IfOk r (IsRowAt rs a); absent : IfErr r (IsGapAt rs a); within : IsSearchInRange r (length rs) }
searched rs a s (Ok i) within same = record { found = row_from rs a i s within same; absent = tt; within = within }
searched {R} rs a s (Err i) within parted =
    let sorted = searchable_from_sorted name_cmp-total (λ (r : Name × R). r.0) rs a (λ k d ge lt. never_falls rs s k d lt) in
    let parts = parted sorted in
    record {
      found = tt;
      absent = gap_from rs a i within (λ k d lt. parts.0 k d (omega arith) lt) (λ k d ge lt. parts.1 k d ge lt);
      within = within;
    }

-- ---- the last row is looked at first

behind_last : {R : Type 0} (n : Name) (rs : List (Name × R)) (r : Name × R) → StandBehind n (keys_of (rs ++ r ∷ [])) → name_cmp n r.0 ≡ Less
behind_last n [] r h = h.0
behind_last n (q ∷ rs) r h = behind_last n rs r h.1

behind_others : {R : Type 0} (n : Name) (rs : List (Name × R)) (r : Name × R) → StandBehind n (keys_of (rs ++ r ∷ [])) → StandBehind n (keys_of rs)
behind_others n [] r h = tt
behind_others n (q ∷ rs) r h = (h.0, behind_others n rs r h.1)

sorted_before : {R : Type 0} (rs : List (Name × R)) (r : Name × R) → IsStrictlySortedBy name_cmp (keys_of (rs ++ r ∷ []))
    → IsStrictlySortedBy name_cmp (keys_of rs)
unfolding IsStrictlySortedBy
sorted_before [] r s = tt
sorted_before (q ∷ rs) r s = (behind_others q.0 rs r s.0, sorted_before rs r s.1)

-- its name is the one that is looked for
pub last_row : {R : Type 0} (all rs : List (Name × R)) (a : Name) (r : Name × R) → all ≡ rs ++ r ∷ [] → IsStrictlySortedBy name_cmp (keys_of all)
    → name_cmp r.0 a ≡ Equal → IsRowAt all a (length rs)
unfolding IsStrictlySortedBy
last_row {R} all rs a r e s same = rw e (by_others rs (rw e at s)) where
  by_others : (rs : List (Name × R)) → IsStrictlySortedBy name_cmp (keys_of (rs ++ r ∷ [])) → IsRowAt (rs ++ r ∷ []) a (length rs)
  by_others [] s = turned a r.0 Equal same
  by_others (q ∷ rs) s =
      let later = by_others rs s.1 in (greater a q.0 (behind q.0 a (keys_of (rs ++ r ∷ [])) s.0 (has_at (rs ++ r ∷ []) a (length rs) later)), later)

-- its name is less
pub gap_behind : {R : Type 0} (all rs : List (Name × R)) (a : Name) (r : Name × R) → all ≡ rs ++ r ∷ [] → IsStrictlySortedBy name_cmp (keys_of all)
    → name_cmp r.0 a ≡ Less → IsGapAt all a (length all)
unfolding IsStrictlySortedBy
gap_behind {R} all rs a r e s less = rw e (by_others rs (rw e at s)) where
  by_others : (rs : List (Name × R)) → IsStrictlySortedBy name_cmp (keys_of (rs ++ r ∷ [])) → IsGapAt (rs ++ r ∷ []) a (length (rs ++ r ∷ []))
  by_others [] s = (greater a r.0 less, tt)
  by_others (q ∷ rs) s = (greater a q.0 (name_cmp-total.trans q.0 r.0 a (behind_last q.0 rs r s.0) less), by_others rs s.1)

row_before : {R : Type 0} (rs : List (Name × R)) (a : Name) (r : Name × R) (i : ℕ) → IsRowAt rs a i → IsRowAt (rs ++ r ∷ []) a i
row_before [] a r i here = absurd here
row_before (q ∷ rs) a r zero here = here
row_before (q ∷ rs) a r (suc i) here = (here.0, row_before rs a r i here.1)

gap_before : {R : Type 0} (rs : List (Name × R)) (a : Name) (r : Name × R) (i : ℕ) → name_cmp a r.0 ≡ Less → IsGapAt rs a i → IsGapAt (rs ++ r ∷ []) a i
gap_before [] a r zero less here = less
gap_before [] a r (suc i) less here = absurd here
gap_before (q ∷ rs) a r zero less here = here
gap_before (q ∷ rs) a r (suc i) less here = (here.0, gap_before rs a r i less here.1)

-- its name is greater: a search among the others finds the place among all
pub searched_before : {R : Type 0} (all rs : List (Name × R)) (a : Name) (r : Name × R) → all ≡ rs ++ r ∷ [] → IsStrictlySortedBy name_cmp (keys_of all)
    → name_cmp r.0 a ≡ Greater → (o : Result ℕ ℕ) → IsSearchInRange o (length rs) → IsBinarySearchResult (λ y. name_cmp y.0 a) rs o
    → record { found : IfOk o (IsRowAt all a); absent : IfErr o (IsGapAt all a); within : IsSearchInRange o (length all) }
searched_before {R} all rs a r e s more o within parted =
    rw e (by_result o (searched rs a (sorted_before rs r (rw e at s)) o within parted)) where
      by_result : (o : Result ℕ ℕ) → record { found : IfOk o (IsRowAt rs a); absent : IfErr o (IsGapAt rs a); within : IsSearchInRange o (length rs) }
          → record { found : IfOk o (IsRowAt (rs ++ r ∷ []) a); absent : IfErr o (IsGapAt (rs ++ r ∷ []) a); within : IsSearchInRange o (length (rs ++ r ∷ [])) }
      by_result (Ok i) h = record { found = row_before rs a r i h.found; absent = tt; within = omega (arith, h.within, length_push rs r) }
      by_result (Err i) h = record { found = tt; absent = gap_before rs a r i (turned a r.0 Greater more) h.absent; within = omega (arith, h.within, length_push rs r) }

pub start_at_row : {R : Type 0} (rs : List (Name × R)) (a : Name) (i : ℕ) → IsRowAt rs a i → IsStartAt rs a i
start_at_row [] a i here = tt
start_at_row (r ∷ rs) a zero here = ap is_le here
start_at_row (r ∷ rs) a (suc i) here = (here.0, start_at_row rs a i here.1)

pub start_at_gap : {R : Type 0} (rs : List (Name × R)) (a : Name) (i : ℕ) → IsGapAt rs a i → IsStartAt rs a i
start_at_gap [] a i here = tt
start_at_gap (r ∷ rs) a zero here = ap is_le here
start_at_gap (r ∷ rs) a (suc i) here = (here.0, start_at_gap rs a i here.1)

-- ---- what is done at a place

pub lookup_at : {R : Type 0} (rs : List (Name × R)) (a : Name) (i : ℕ) (d : Name × R) → IsRowAt rs a i → lookup (is_at (name_cmp a)) rs ≡ Some (get_or rs i d).1
lookup_at [] a i d here = absurd here
lookup_at (s ∷ rs) a zero d here = ap (λ o. cond (is_eq o) (Some s.1) (lookup (is_at (name_cmp a)) rs)) here
lookup_at (s ∷ rs) a (suc i) d here =
    ap (λ o. cond (is_eq o) (Some s.1) (lookup (is_at (name_cmp a)) rs)) here.0 ∙ lookup_at rs a i d here.1

pub lookup_row : {R : Type 0} (rs : List (Name × R)) (a : Name) (i : ℕ) (r : Name × R) → IsRowAt rs a i → r ≡ get_or rs i r
    → lookup (is_at (name_cmp a)) rs ≡ Some r.1
lookup_row {R} rs a i r here is = lookup_at rs a i r here ∙ ap (λ (t : Name × R). Some t.1) (sym is)

pub set_row : {R : Type 0} (rs : List (Name × R)) (a : Name) (i : ℕ) (r : Name × R) (w : R) → IsRowAt rs a i → r ≡ get_or rs i r
    → set rs i (r.0, w) ≡ set_value (is_at (name_cmp a)) rs w
set_row [] a i r w here is = absurd here
set_row {R} (s ∷ rs) a zero r w here is =
    ap (λ (t : Name × R). (t.0, w) ∷ rs) is ∙ sym (ap (λ o. cond (is_eq o) ((s.0, w) ∷ rs) (s ∷ set_value (is_at (name_cmp a)) rs w)) here)
set_row (s ∷ rs) a (suc i) r w here is =
    ap (λ t. s ∷ t) (set_row rs a i r w here.1 is) ∙ sym (ap (λ o. cond (is_eq o) ((s.0, w) ∷ rs) (s ∷ set_value (is_at (name_cmp a)) rs w)) here.0)

pub remove_row : {R : Type 0} (rs : List (Name × R)) (a : Name) (i : ℕ) → IsRowAt rs a i → remove rs i ≡ remove_entry (is_at (name_cmp a)) rs
remove_row [] a i here = absurd here
remove_row (s ∷ rs) a zero here = sym (ap (λ o. cond (is_eq o) rs (s ∷ remove_entry (is_at (name_cmp a)) rs)) here)
remove_row (s ∷ rs) a (suc i) here =
    ap (λ t. s ∷ t) (remove_row rs a i here.1) ∙ sym (ap (λ o. cond (is_eq o) rs (s ∷ remove_entry (is_at (name_cmp a)) rs)) here.0)

pub insert_gap : {R : Type 0} (rs : List (Name × R)) (a : Name) (i : ℕ) (w : R) → IsGapAt rs a i → insert rs i (a, w) ≡ insert_entry name_cmp rs a w
insert_gap [] a zero w here = refl
insert_gap [] a (suc i) w here = absurd here
insert_gap (s ∷ rs) a zero w here = simp here refl
insert_gap (s ∷ rs) a (suc i) w here = let first : name_cmp a s.0 ≡ Greater = here.0 in simp first (ap (λ t. s ∷ t) (insert_gap rs a i w here.1))

-- ---- a gap's name has no row

pub behind_lesser : (a n : Name) (ns : List Name) → name_cmp a n ≡ Less → StandBehind n ns → StandBehind a ns
behind_lesser a n [] less h = tt
behind_lesser a n (m ∷ ns) less h = (name_cmp-total.trans a n m less h.0, behind_lesser a n ns less h.1)

pub no_name_at_gap : {R : Type 0} (rs : List (Name × R)) (a : Name) (i : ℕ) → IsStrictlySortedBy name_cmp (keys_of rs) → IsGapAt rs a i
    → has_name (keys_of rs) a ≡ false
unfolding IsStrictlySortedBy
no_name_at_gap [] a i s here = refl
no_name_at_gap (r ∷ rs) a zero s here = not_behind a (keys_of (r ∷ rs)) (here, behind_lesser a r.0 (keys_of rs) here s.0)
no_name_at_gap (r ∷ rs) a (suc i) s here =
    let other : same_name r.0 a ≡ false = sym (at_name a r.0) ∙ ap is_eq here.0 in rw other (no_name_at_gap rs a i s.1 here.1)

pub lookup_gap : {R : Type 0} (rs : List (Name × R)) (a : Name) (i : ℕ) → IsStrictlySortedBy name_cmp (keys_of rs) → IsGapAt rs a i
    → None ≡ lookup (is_at (name_cmp a)) rs
lookup_gap {R} rs a i s here = none (lookup (is_at (name_cmp a)) rs) (has_row a rs ∙ no_name_at_gap rs a i s here) where
  none : (o : Option R) → is_some o ≡ false → None ≡ o
  none None e = refl
  none (Some r) e = absurd (true≢false e)

-- a name without a row has none to be changed or taken out
pub set_gap : {R : Type 0} (rs : List (Name × R)) (a : Name) (w : R) → has_name (keys_of rs) a ≡ false → rs ≡ set_value (is_at (name_cmp a)) rs w
set_gap [] a w none = refl
set_gap {R} (r ∷ rs) a w none = by_case (set_gap rs a w) (same_name r.0 a) refl none where
  by_case : (has_name (keys_of rs) a ≡ false → rs ≡ set_value (is_at (name_cmp a)) rs w) → (t : Bool) → same_name r.0 a ≡ t
      → same_name r.0 a || has_name (keys_of rs) a ≡ false → r ∷ rs ≡ set_value (is_at (name_cmp a)) (r ∷ rs) w
  by_case later true d e = absurd (true≢false (rw d at e))
  by_case later false d e = simp (at_name a r.0 ∙ d) (ap (λ es. r ∷ es) (later (rw d at e)))

pub remove_gap : {R : Type 0} (rs : List (Name × R)) (a : Name) → has_name (keys_of rs) a ≡ false → rs ≡ remove_entry (is_at (name_cmp a)) rs
remove_gap [] a none = refl
remove_gap {R} (r ∷ rs) a none = by_case (remove_gap rs a) (same_name r.0 a) refl none where
  by_case : (has_name (keys_of rs) a ≡ false → rs ≡ remove_entry (is_at (name_cmp a)) rs) → (t : Bool) → same_name r.0 a ≡ t
      → same_name r.0 a || has_name (keys_of rs) a ≡ false → r ∷ rs ≡ remove_entry (is_at (name_cmp a)) (r ∷ rs)
  by_case later true d e = absurd (true≢false (rw d at e))
  by_case later false d e = simp (at_name a r.0 ∙ d) (ap (λ es. r ∷ es) (later (rw d at e)))

-- a row that is there is not put in again, and another goes into its gap
pub there_again_row : {R : Type 0} (rs : List (Name × R)) (a : Name) (i : ℕ) (w : R) → IsRowAt rs a i
    → rs ≡ cond (has_name (keys_of rs) a) rs (insert_entry name_cmp rs a w)
there_again_row rs a i w here = sym (ap (λ t. cond t rs (insert_entry name_cmp rs a w)) (has_at rs a i here))

pub added_row : {R : Type 0} (rs new : List (Name × R)) (a own : Name) (i : ℕ) (w : R) → IsStrictlySortedBy name_cmp (keys_of rs) → IsGapAt rs a i
    → own ≡ a → new ≡ insert rs i (own, w) → new ≡ cond (has_name (keys_of rs) a) rs (insert_entry name_cmp rs a w)
added_row rs new a own i w s here same is =
    is ∙ ap (λ n. insert rs i (n, w)) same ∙ insert_gap rs a i w here
    ∙ sym (ap (λ t. cond t rs (insert_entry name_cmp rs a w)) (no_name_at_gap rs a i s here))

-- ---- the rows stay in order

behind_out : {R : Type 0} (n : Name) (p : Name → Bool) (rs : List (Name × R)) → StandBehind n (keys_of rs) → StandBehind n (keys_of (remove_entry p rs))
behind_out n p [] h = h
behind_out n p (r ∷ rs) h = by_case (behind_out n p rs h.1) (p r.0) where
  by_case : StandBehind n (keys_of (remove_entry p rs)) → (t : Bool) → StandBehind n (keys_of (cond t rs (r ∷ remove_entry p rs)))
  by_case later true = h.1
  by_case later false = (h.0, later)

pub sorted_out : {R : Type 0} (p : Name → Bool) (rs : List (Name × R)) → IsStrictlySortedBy name_cmp (keys_of rs)
    → IsStrictlySortedBy name_cmp (keys_of (remove_entry p rs))
unfolding IsStrictlySortedBy
sorted_out p [] s = s
sorted_out p (r ∷ rs) s = by_case (sorted_out p rs s.1) (p r.0) where
  by_case : IsStrictlySortedBy name_cmp (keys_of (remove_entry p rs)) → (t : Bool) → IsStrictlySortedBy name_cmp (keys_of (cond t rs (r ∷ remove_entry p rs)))
  by_case later true = s.1
  by_case later false = (behind_out r.0 p rs s.0, later)

behind_in : {R : Type 0} (n a : Name) (w : R) (rs : List (Name × R)) → name_cmp n a ≡ Less → StandBehind n (keys_of rs)
    → StandBehind n (keys_of (insert_entry name_cmp rs a w))
behind_in n a w [] less h = (less, tt)
behind_in n a w (r ∷ rs) less h = by_case (behind_in n a w rs less h.1) (name_cmp a r.0) where
  by_case : StandBehind n (keys_of (insert_entry name_cmp rs a w)) → (o : Ordering)
      → StandBehind n (keys_of (match_ordering o ((a, w) ∷ r ∷ rs) ((r.0, w) ∷ rs) (r ∷ insert_entry name_cmp rs a w)))
  by_case later Less = (less, h)
  by_case later Equal = h
  by_case later Greater = (h.0, later)

pub sorted_in : {R : Type 0} (a : Name) (w : R) (rs : List (Name × R)) → IsStrictlySortedBy name_cmp (keys_of rs)
    → IsStrictlySortedBy name_cmp (keys_of (insert_entry name_cmp rs a w))
unfolding IsStrictlySortedBy
sorted_in a w [] s = (tt, tt)
sorted_in a w (r ∷ rs) s = by_case (sorted_in a w rs s.1) (name_cmp a r.0) refl where
  by_case : IsStrictlySortedBy name_cmp (keys_of (insert_entry name_cmp rs a w)) → (o : Ordering) → name_cmp a r.0 ≡ o
      → IsStrictlySortedBy name_cmp (keys_of (match_ordering o ((a, w) ∷ r ∷ rs) ((r.0, w) ∷ rs) (r ∷ insert_entry name_cmp rs a w)))
  by_case later Less k = ((k, behind_lesser a r.0 (keys_of rs) k s.0), s)
  by_case later Equal k = s
  by_case later Greater k = (behind_in r.0 a w rs (turned r.0 a Greater k) s.0, later)

pub sorted_set : {R : Type 0} (p : Name → Bool) (w : R) (rs : List (Name × R)) → IsStrictlySortedBy name_cmp (keys_of rs)
    → IsStrictlySortedBy name_cmp (keys_of (set_value p rs w))
sorted_set p w rs s = subst (IsStrictlySortedBy name_cmp) (sym (keys_set p w rs)) s

pub sorted_made : {V E : Type 0} (rs new : List (Name × Option V)) (a : Name) (r : Result (Unit {0}) E) → IsStrictlySortedBy name_cmp (keys_of rs)
    → OnOk r (new ≡ cond (has_name (keys_of rs) a) rs (insert_entry name_cmp rs a None)) → OnErr r (new ≡ rs) → IsStrictlySortedBy name_cmp (keys_of new)
sorted_made {V} rs new a (Err x) s ok err = subst (λ (es : List (Name × Option V)). IsStrictlySortedBy name_cmp (keys_of es)) (sym err) s
sorted_made {V} rs new a (Ok x) s ok err =
    subst (λ (es : List (Name × Option V)). IsStrictlySortedBy name_cmp (keys_of es)) (sym ok) (by_case (has_name (keys_of rs) a)) where
      by_case : (t : Bool) → IsStrictlySortedBy name_cmp (keys_of (cond t rs (insert_entry name_cmp rs a None)))
      by_case true = s
      by_case false = sorted_in a None rs s

pub sorted_none : IsStrictlySortedBy name_cmp []
unfolding IsStrictlySortedBy
sorted_none = tt
