-- Overlays of arrays joined, and laid in place.
use Rattle.std.proofs.Common.{◌≡◌, inl, inr, ℕ, zero, suc, ◌<◌, List, [], ◌∷◌, length, set, Bool, true, false, Some, None, refl, sym, ap, subst, ◌∙◌, arith, pos, ◌+ℤ◌}
use Rattle.std.specs.Prelude.{ℤ, ◌-ℤ◌, Option, cond, filter, is_some, int_le, unsigned_abs, slice_get, if◌then◌else◌}
use Rattle.std.specs.List.{AllByRecursion}
use Rattle.std.specs.Ordering.{int_cmp}
use Rattle.std.specs.declared.cmp.Ordering.TheVariants.{Less}
use Rattle.std.specs.List.Sorted.{IsStrictlySortedBy}
use Rattle.std.specs.Map.{keys_of}
use Rattle.std.proofs.lemmas.Map.Entries.{lookup-filter-keys}
use Rattle.std.proofs.lemmas.Map.Keys.{sorted_head, sorted_tail}
use Rattle.std.proofs.lemmas.Int.{ints}
use Rattle.std.proofs.lemmas.List.{length-set}
use Rattle.std.specs.BTreeMap.{is_at}
use Rattle.std.proofs.lemmas.Bool.{true≢false, false≢true}
use Rattle.std.proofs.lemmas.Option.{none-some}
use Rattle.values.specs.declared.value.Value.{Value}
use Rattle.values.specs.Values.{kind_of}
use Rattle.values.specs.Items.{ArrayContent, item_at, set_item}
use Rattle.values.specs.Bounds.{stored_over, AreOfKind}
use Rattle.overlays.specs.declared.bounds.Bounds.{Bounds}
use Rattle.overlays.specs.RecordOverlays.{or_below}
use Rattle.overlays.specs.ArrayOverlays.{ArrayChange, ArrayFits, AreLimitedWhere, AreJoined, changed_at, lies_in, put_over, upper_bounds, bounds_of, bounds_over, is_within, item_over, item_or_zero, laid_array}
use Rattle.overlays.proofs.ArrayLaws.{laid_kind, laid_bounds, laid_inside, laid_item, laid_outside, laid_is, below_test}
use Rattle.overlays.proofs.Places.{Place, place, item_at_place, set_item_place, within_place, not_within_below, at_itself, at_another, is_same_index}

-- ---- joined

module _ (a : ArrayContent) (l u p : ArrayChange) (joined : AreJoined l u p) (lower : ArrayFits a l) (upper : ArrayFits (laid_array a l) u) where
  joined_bounds : bounds_over a p.bounds ≡ bounds_over (laid_array a l) u.bounds
  joined_bounds = ap (bounds_over a) joined.bounds ∙ by_upper u.bounds where
    by_upper : (b : Option Bounds) → bounds_over a (upper_bounds b l.bounds) ≡ bounds_over (laid_array a l) b
    by_upper None = sym (laid_bounds a l)
    by_upper (Some b) = refl

  -- what lies in the bounds of both is in those that are left
  is_left : (i : ℤ) → is_within (bounds_over (laid_array a l) u.bounds) i ≡ true → lies_in u.bounds i ≡ true
  is_left i h = by_upper u.bounds h where
    by_upper : (b : Option Bounds) → is_within (bounds_over (laid_array a l) b) i ≡ true → lies_in b i ≡ true
    by_upper None h = refl
    by_upper (Some b) h = h

  lower_item : (i : ℤ) → is_some (item_at (laid_array a l) i) ≡ true → item_at (laid_array a l) i ≡ item_over a l i
  lower_item i held = by_test (is_within (bounds_over a l.bounds) i) refl where
    by_test : (t : Bool) → is_within (bounds_over a l.bounds) i ≡ t → item_at (laid_array a l) i ≡ item_over a l i
    by_test true e = laid_item a l i lower e
    by_test false e = absurd (false≢true (ap is_some (sym (laid_outside a l i e)) ∙ held))

  joined_item : (i : ℤ) → is_within (bounds_over (laid_array a l) u.bounds) i ≡ true → item_over a p i ≡ item_over (laid_array a l) u i
  joined_item i h =
      ap (λ x. or_below x (item_at a i)) (joined.items i ∙ ap (λ t. or_below (changed_at u.items i) (if t then changed_at l.items i else None)) (is_left i h))
      ∙ by_upper (changed_at u.items i) refl
    where
      by_upper : (x : Option Value) → changed_at u.items i ≡ x
          → or_below (or_below x (changed_at l.items i)) (item_at a i) ≡ or_below x (item_at (laid_array a l) i)
      by_upper None e = sym (lower_item i (ap (λ x. is_some (or_below x (item_at (laid_array a l) i))) (sym e) ∙ upper.held i h))
      by_upper (Some v) e = refl

  pub laid_joined : laid_array a p ≡ laid_array (laid_array a l) u
  laid_joined = sym (laid_is a p (laid_array (laid_array a l) u) (laid_kind (laid_array a l) u ∙ laid_kind a l) (laid_bounds (laid_array a l) u ∙ sym joined_bounds) each) where
    each : (i : ℤ) → is_within (bounds_over a p.bounds) i ≡ true → item_at (laid_array (laid_array a l) u) i ≡ Some (item_or_zero (item_over a p i))
    each i h =
        let inside : is_within (bounds_over (laid_array a l) u.bounds) i ≡ true = ap (λ b. is_within b i) (sym joined_bounds) ∙ h in
        laid_inside (laid_array a l) u i inside ∙ ap (λ x. Some (item_or_zero x)) (sym (joined_item i inside))

  pub fits_joined : ArrayFits a p
  fits_joined = record {
    limited = subst AreLimitedWhere (sym joined.bounds) (limited u.bounds upper.limited);
    held = λ i h.
        let inside : is_within (bounds_over (laid_array a l) u.bounds) i ≡ true = ap (λ b. is_within b i) (sym joined_bounds) ∙ h in
        ap is_some (joined_item i inside) ∙ upper.held i inside;
    inside = λ i h. ap (λ b. is_within b i) joined_bounds ∙ inside i (changed_at u.items i) refl (ap is_some (sym (joined.items i)) ∙ h);
    of_kind = λ i v h. of_kind i v (changed_at u.items i) refl (sym (joined.items i) ∙ h);
  }
    where
      limited : (b : Option Bounds) → AreLimitedWhere b → AreLimitedWhere (upper_bounds b l.bounds)
      limited None h = lower.limited
      limited (Some b) h = h

      among_lower : (i : ℤ) (b : Option Bounds) → is_some (if lies_in b i then changed_at l.items i else None) ≡ true → is_within (bounds_over (laid_array a l) b) i ≡ true
      among_lower i None h = ap (λ b. is_within b i) (laid_bounds a l) ∙ lower.inside i h
      among_lower i (Some b) h = by_test (is_within b i) h where
        by_test : (t : Bool) → is_some (if t then changed_at l.items i else None) ≡ true → t ≡ true
        by_test true h = refl
        by_test false h = absurd (false≢true h)

      inside : (i : ℤ) (x : Option Value) → changed_at u.items i ≡ x → is_some (or_below x (if lies_in u.bounds i then changed_at l.items i else None)) ≡ true
          → is_within (bounds_over (laid_array a l) u.bounds) i ≡ true
      inside i None e h = among_lower i u.bounds h
      inside i (Some v) e h = upper.inside i (ap is_some e)

      lower_kind : (i : ℤ) (v : Value) (t : Bool) → (if t then changed_at l.items i else None) ≡ Some v → kind_of v ≡ a.kind
      lower_kind i v true h = lower.of_kind i v h
      lower_kind i v false h = absurd (none-some v h)

      of_kind : (i : ℤ) (v : Value) (x : Option Value) → changed_at u.items i ≡ x → or_below x (if lies_in u.bounds i then changed_at l.items i else None) ≡ Some v
          → kind_of v ≡ a.kind
      of_kind i v None e h = lower_kind i v (lies_in u.bounds i) h
      of_kind i v (Some w) e h = upper.of_kind i v (e ∙ h) ∙ laid_kind a l

-- ---- laid in place

pub stored_kind : (a : ArrayContent) (es : List (ℤ × Value)) → (stored_over a es).kind ≡ a.kind
stored_kind a [] = refl
stored_kind a (e ∷ es) = stored_kind a es

set_bounds : (a : ArrayContent) (i : ℤ) (v : Value) → bounds_of (set_item a i v) ≡ bounds_of a
set_bounds a i v = by_test (int_le a.low i) where
  by_test : (t : Bool) → record { low = a.low; size = length (if t then set a.items (unsigned_abs (i -ℤ a.low)) v else a.items) } ≡ bounds_of a
  by_test true = ap (λ n. record { low = a.low; size = n }) (length-set a.items (unsigned_abs (i -ℤ a.low)) v)
  by_test false = refl

pub stored_bounds : (a : ArrayContent) (es : List (ℤ × Value)) → bounds_of (stored_over a es) ≡ bounds_of a
stored_bounds a [] = refl
stored_bounds a (e ∷ es) = set_bounds (stored_over a es) e.0 e.1 ∙ stored_bounds a es

get_set_same : (vs : List Value) (k : ℕ) (v : Value) → k < length vs → slice_get (set vs k v) k ≡ Some v
get_set_same [] k v h = absurd (omega arith)
get_set_same (w ∷ vs) zero v h = refl
get_set_same (w ∷ vs) (suc k) v h = get_set_same vs k v (omega arith)

get_set_other : (vs : List Value) (j k : ℕ) (v : Value) → (j ≡ k → ⊥) → slice_get (set vs k v) j ≡ slice_get vs j
get_set_other [] j k v h = refl
get_set_other (w ∷ vs) zero zero v h = absurd (h refl)
get_set_other (w ∷ vs) zero (suc k) v h = refl
get_set_other (w ∷ vs) (suc j) zero v h = refl
get_set_other (w ∷ vs) (suc j) (suc k) v h = get_set_other vs j k v (λ e. h (ap suc e))

-- what an array has at an index once another one was stored, and that one
set_other : (a : ArrayContent) (i q : ℤ) (v : Value) → (q ≡ i → ⊥) → item_at (set_item a i v) q ≡ item_at a q
set_other a i q v apart = by_places (place a.low i) (place a.low q) where
  by_places : Place a.low i → Place a.low q → item_at (set_item a i v) q ≡ item_at a q
  by_places (inl below) r = rw below refl
  by_places (inr s) (inl below) = rw below refl
  by_places (inr (k, e)) (inr (j, f)) =
      let b : ArrayContent = record a { items = set a.items k v } in
      ap (λ c. item_at c q) (ap (λ n. set_item a n v) e ∙ set_item_place a k v) ∙ ap (item_at b) f ∙ item_at_place b j
      ∙ get_set_other a.items j k v (λ s. apart (f ∙ ap (λ n. a.low +ℤ pos n) s ∙ sym e)) ∙ sym (item_at_place a j) ∙ ap (item_at a) (sym f)

set_same : (a : ArrayContent) (i : ℤ) (v : Value) → is_within (bounds_of a) i ≡ true → item_at (set_item a i v) i ≡ Some v
set_same a i v h = by_place (place a.low i) where
  by_place : Place a.low i → item_at (set_item a i v) i ≡ Some v
  by_place (inl below) = absurd (false≢true (sym (not_within_below (bounds_of a) i below) ∙ h))
  by_place (inr (k, e)) =
      let b : ArrayContent = record a { items = set a.items k v } in
      let inside : k < length a.items = below_test _ _ (sym (within_place (bounds_of a) k) ∙ ap (is_within (bounds_of a)) (sym e) ∙ h) in
      ap (λ c. item_at c i) (ap (λ n. set_item a n v) e ∙ set_item_place a k v) ∙ ap (item_at b) e ∙ item_at_place b k ∙ get_set_same a.items k v inside

-- an array with all items stored has at each index what was stored, else its own
pub stored_items : (a : ArrayContent) (es : List (ℤ × Value)) (q : ℤ) → is_within (bounds_of a) q ≡ true → item_at (stored_over a es) q ≡ or_below (changed_at es q) (item_at a q)
stored_items a [] q h = refl
stored_items a (e ∷ es) q h = by_test (stored_items a es q h) (is_at (int_cmp q) e.0) refl where
  by_test : item_at (stored_over a es) q ≡ or_below (changed_at es q) (item_at a q) → (t : Bool) → is_at (int_cmp q) e.0 ≡ t
      → item_at (stored_over a (e ∷ es)) q ≡ or_below (if is_at (int_cmp q) e.0 then Some e.1 else changed_at es q) (item_at a q)
  by_test later true t =
      let same : q ≡ e.0 = is_same_index q e.0 t in
      ap (λ n. item_at (set_item (stored_over a es) n e.1) q) (sym same)
      ∙ set_same (stored_over a es) q e.1 (ap (λ b. is_within b q) (stored_bounds a es) ∙ h)
      ∙ ap (λ b. or_below (if b then Some e.1 else changed_at es q) (item_at a q)) (sym t)
  by_test later false t =
      set_other (stored_over a es) e.0 q e.1 (λ same. true≢false (sym (ap (is_at (int_cmp q)) (sym same) ∙ at_itself q) ∙ t))
      ∙ later
      ∙ ap (λ b. or_below (if b then Some e.1 else changed_at es q) (item_at a q)) (sym t)

less_apart : (i j : ℤ) → int_cmp i j ≡ Less → is_at (int_cmp j) i ≡ false
less_apart i j h = grind (arith, ints)

-- a key below all others is none of them
pub absent : (i : ℤ) (es : List (ℤ × Value)) → AllByRecursion (λ j. int_cmp i j ≡ Less) (keys_of es) → (j : ℤ) (v : Value) → changed_at es j ≡ Some v → is_at (int_cmp j) i ≡ false
absent i [] h j v e = absurd (none-some v e)
absent i (f ∷ es) h j v e = by_test (absent i es h.1 j v) (is_at (int_cmp j) f.0) refl e where
  by_test : (changed_at es j ≡ Some v → is_at (int_cmp j) i ≡ false) → (t : Bool) → is_at (int_cmp j) f.0 ≡ t → changed_at (f ∷ es) j ≡ Some v → is_at (int_cmp j) i ≡ false
  by_test later true t e = rw (is_same_index j f.0 t) (less_apart i f.0 h.0)
  by_test later false t e = later (rw t at e)

each_kind : (a : ArrayContent) (es : List (ℤ × Value)) → IsStrictlySortedBy int_cmp (keys_of es) → ((i : ℤ) (v : Value) → changed_at es i ≡ Some v → kind_of v ≡ a.kind) → AreOfKind a es
each_kind a [] s h = tt
each_kind a (e ∷ es) s h = (
  h e.0 e.1 (ap (λ t. if t then Some e.1 else changed_at es e.0) (at_itself e.0)),
  each_kind a es (sorted_tail int_cmp e.0 (keys_of es) s) (λ i v k. h i v (ap (λ t. if t then Some e.1 else changed_at es i) (absent e.0 es (sorted_head int_cmp e.0 (keys_of es) s) i v k) ∙ k)),
)

-- the kinds of the items, where the keys are those of a map
pub kinds_of_all : (a : ArrayContent) (o : ArrayChange) → ArrayFits a o → IsStrictlySortedBy int_cmp (keys_of o.items) → AreOfKind a o.items
kinds_of_all a o fits sorted = each_kind a o.items sorted fits.of_kind

-- ---- items put over others

over_nothing : (x : Option Value) → or_below x None ≡ x
over_nothing None = refl
over_nothing (Some v) = refl

pub none_at : (i : ℤ) (es : List (ℤ × Value)) → AllByRecursion (λ j. int_cmp i j ≡ Less) (keys_of es) → changed_at es i ≡ None
none_at i es h = by_item (changed_at es i) refl where
  by_item : (x : Option Value) → changed_at es i ≡ x → changed_at es i ≡ None
  by_item None e = e
  by_item (Some v) e = absurd (true≢false (sym (at_itself i) ∙ absent i es h i v e))

module _ (w : Option Bounds) (k : ℤ) (v : Value) (rest old : List (ℤ × Value)) where
  -- the first item put, and then the others
  pub put_taken : (new : List (ℤ × Value)) → IsStrictlySortedBy int_cmp (k ∷ keys_of rest) → lies_in w k ≡ true
      → ((q : ℤ) → changed_at new q ≡ (if is_at (int_cmp k) q then Some v else changed_at old q))
      → (i : ℤ) → put_over w rest new i ≡ put_over w ((k, v) ∷ rest) old i
  put_taken new sorted within updated i = by_test (is_at (int_cmp i) k) refl where
    by_test : (t : Bool) → is_at (int_cmp i) k ≡ t → put_over w rest new i ≡ put_over w ((k, v) ∷ rest) old i
    by_test true t =
        let same : i ≡ k = is_same_index i k t in
        ap (λ x. or_below (if lies_in w i then x else None) (changed_at new i)) (ap (changed_at rest) same ∙ none_at k rest (sorted_head int_cmp k (keys_of rest) sorted))
        ∙ none_in (lies_in w i) (changed_at new i)
        ∙ updated i ∙ ap (λ b. if b then Some v else changed_at old i) (ap (is_at (int_cmp k)) same ∙ at_itself k)
        ∙ sym (ap (λ b. or_below (if b then (if is_at (int_cmp i) k then Some v else changed_at rest i) else None) (changed_at old i)) (ap (lies_in w) same ∙ within)
        ∙ ap (λ b. or_below (if b then Some v else changed_at rest i) (changed_at old i)) t)
      where
        none_in : (b : Bool) (x : Option Value) → or_below (if b then None else None) x ≡ x
        none_in true x = refl
        none_in false x = refl
    by_test false t =
        let apart : is_at (int_cmp k) i ≡ false = at_another k i (λ same. true≢false (sym (ap (is_at (int_cmp i)) same ∙ at_itself i) ∙ t)) in
        ap (λ x. or_below (if lies_in w i then changed_at rest i else None) x) (updated i ∙ ap (λ b. if b then Some v else changed_at old i) apart)
        ∙ ap (λ b. or_below (if lies_in w i then (if b then Some v else changed_at rest i) else None) (changed_at old i)) (sym t)

  -- the first item left out, since it lies outside
  pub put_skipped : lies_in w k ≡ false → (i : ℤ) → put_over w rest old i ≡ put_over w ((k, v) ∷ rest) old i
  put_skipped outside i = by_test (is_at (int_cmp i) k) refl where
    by_test : (t : Bool) → is_at (int_cmp i) k ≡ t → put_over w rest old i ≡ put_over w ((k, v) ∷ rest) old i
    by_test true t =
        let there : lies_in w i ≡ false = ap (lies_in w) (is_same_index i k t) ∙ outside in
        ap (λ b. or_below (if b then changed_at rest i else None) (changed_at old i)) there
        ∙ sym (ap (λ b. or_below (if b then (if is_at (int_cmp i) k then Some v else changed_at rest i) else None) (changed_at old i)) there)
    by_test false t = ap (λ b. or_below (if lies_in w i then (if b then Some v else changed_at rest i) else None) (changed_at old i)) (sym t)

-- all put on nothing are as they were
pub put_on_nothing : (es none : List (ℤ × Value)) → none ≡ [] → (i : ℤ) → put_over None es none i ≡ changed_at es i
put_on_nothing es none e i = ap (λ xs. or_below (changed_at es i) (changed_at xs i)) e ∙ over_nothing (changed_at es i)

-- the upper items put over the lower ones, where the upper bounds stay as the lower ones are
pub joined_all : (l u p : ArrayChange) → u.bounds ≡ None → p.bounds ≡ l.bounds → ((i : ℤ) → changed_at p.items i ≡ put_over None u.items l.items i) → AreJoined l u p
joined_all l u p none bounds put = record {
  bounds = bounds ∙ ap (λ b. upper_bounds b l.bounds) (sym none);
  items = λ i. put i ∙ ap (λ b. or_below (changed_at u.items i) (if lies_in b i then changed_at l.items i else None)) (sym none);
}

-- the upper items put over the lower ones, and then those outside the upper bounds dropped, where no upper item lies
pub joined_within : (l u p : ArrayChange) (b : Bounds) (between : List (ℤ × Value)) → u.bounds ≡ Some b → p.bounds ≡ u.bounds
    → ((i : ℤ) → changed_at between i ≡ put_over None u.items l.items i) → p.items ≡ filter (λ e. is_within b e.0) between
    → ((i : ℤ) → is_some (changed_at u.items i) ≡ true → is_within b i ≡ true) → AreJoined l u p
joined_within l u p b between some bounds put dropped inside = record {
  bounds = bounds ∙ some ∙ ap (λ c. upper_bounds c l.bounds) (sym some);
  items = λ i. ap (λ es. changed_at es i) dropped
      ∙ lookup-filter-keys (is_at (int_cmp i)) (is_within b) (is_within b i) (λ k at. ap (is_within b) (sym (is_same_index i k at))) between
      ∙ ap (λ x. cond (is_within b i) x None) (put i) ∙ left (is_within b i) (changed_at u.items i) (changed_at l.items i) (inside i)
      ∙ ap (λ c. or_below (changed_at u.items i) (if lies_in c i then changed_at l.items i else None)) (sym some);
} where
  left : (t : Bool) (x y : Option Value) → (is_some x ≡ true → t ≡ true) → cond t (or_below x y) None ≡ or_below x (cond t y None)
  left true x y h = refl
  left false None y h = refl
  left false (Some v) y h = absurd (false≢true (h refl))
