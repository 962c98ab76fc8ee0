-- The laws of the overlays of arrays.
use Rattle.std.proofs.Common.{◌≡◌, ◌⊎◌, inl, inr, ℕ, zero, suc, ◌-◌, ◌<◌, ◌≤◌, List, [], ◌∷◌, ◌++◌, length, take, Bool, true, false, Some, None, refl, sym, ap, subst, ◌∙◌, arith, pos, ◌+ℤ◌}
use Rattle.std.specs.Prelude.{ℤ, ◌-ℤ◌, Option, is_some, int_le, nat_lt, slice_get}
use Rattle.std.specs.Ordering.{int_cmp}
use Rattle.std.specs.BTreeMap.{is_at}
use Rattle.std.proofs.lemmas.Int.{ints}
use Rattle.std.proofs.lemmas.Option.{none-some, slice_get_past}
use Rattle.std.proofs.lemmas.Bool.{true≢false, false≢true}
use Rattle.std.proofs.lemmas.Bool.Decides.{nat_tests}
use Rattle.values.specs.declared.value.Value.{Value}
use Rattle.values.specs.Values.{kind_of}
use Rattle.values.specs.Items.{ArrayContent, item_at, set_item, with_item_above, with_item_below, without_last, without_first, but_first}
use Rattle.overlays.specs.declared.bounds.Bounds.{Bounds}
use Rattle.overlays.specs.RecordOverlays.{or_below}
use Rattle.overlays.specs.ArrayOverlays.{ArrayChange, ArrayFits, AreLimitedWhere, IsNoted, changed_at, bounds_of, bounds_over, is_within, item_over, item_or_zero, listed, listed_in, laid_array}
use Rattle.overlays.proofs.Listed.{length_listed, same_listed, get_listed, get_past_listed, listed_last, listed_own, set_listed, take_listed}
use Rattle.overlays.proofs.Places.{Place, place, same_place, item_at_place, item_below, set_item_place, within_place, not_within_below, at_itself, is_same_index}

pub below_test : (j k : ℕ) → nat_lt j k ≡ true → j < k
below_test j k h = grind (arith, nat_tests)

pub test_below : (j k : ℕ) → j < k → nat_lt j k ≡ true
test_below j k h = grind (arith, nat_tests)

pub test_not_below : (j k : ℕ) → nat_lt j k ≡ false → k ≤ j
test_not_below j k h = grind (arith, nat_tests)

-- ---- what an array has under an overlay

pub laid_kind : (a : ArrayContent) (o : ArrayChange) → (laid_array a o).kind ≡ a.kind
unfolding laid_array
laid_kind a o = refl

pub laid_low : (a : ArrayContent) (o : ArrayChange) → (laid_array a o).low ≡ (bounds_over a o.bounds).low
unfolding laid_array
laid_low a o = refl

pub laid_items : (a : ArrayContent) (o : ArrayChange) → (laid_array a o).items ≡ listed_in (bounds_over a o.bounds) (item_over a o)
unfolding laid_array
laid_items a o = refl

pub laid_size : (a : ArrayContent) (o : ArrayChange) → length (laid_array a o).items ≡ (bounds_over a o.bounds).size
laid_size a o = ap length (laid_items a o) ∙ length_listed (bounds_over a o.bounds).size _

pub laid_bounds : (a : ArrayContent) (o : ArrayChange) → bounds_of (laid_array a o) ≡ bounds_over a o.bounds
laid_bounds a o = rw (laid_low a o) (rw (laid_size a o) refl)

pub laid_inside : (a : ArrayContent) (o : ArrayChange) (i : ℤ) → is_within (bounds_over a o.bounds) i ≡ true
    → item_at (laid_array a o) i ≡ Some (item_or_zero (item_over a o i))
laid_inside a o i h = by_place (place (bounds_over a o.bounds).low i) where
  by_place : Place (bounds_over a o.bounds).low i → item_at (laid_array a o) i ≡ Some (item_or_zero (item_over a o i))
  by_place (inl below) = absurd (false≢true (sym (not_within_below (bounds_over a o.bounds) i below) ∙ h))
  by_place (inr (k, e)) =
      let low : (laid_array a o).low ≡ (bounds_over a o.bounds).low = laid_low a o in
      let inside : k < (bounds_over a o.bounds).size = below_test _ _ (sym (within_place (bounds_over a o.bounds) k) ∙ ap (is_within (bounds_over a o.bounds)) (sym e) ∙ h) in
      ap (λ j. item_at (laid_array a o) j) (e ∙ ap (λ l. l +ℤ pos k) (sym low))
      ∙ item_at_place (laid_array a o) k
      ∙ ap (λ vs. slice_get vs k) (laid_items a o)
      ∙ get_listed (bounds_over a o.bounds).size k (λ j. item_over a o ((bounds_over a o.bounds).low +ℤ pos j)) inside
      ∙ ap (λ j. Some (item_or_zero (item_over a o j))) (sym e)

pub laid_outside : (a : ArrayContent) (o : ArrayChange) (i : ℤ) → is_within (bounds_over a o.bounds) i ≡ false → item_at (laid_array a o) i ≡ None
laid_outside a o i h = by_place (place (bounds_over a o.bounds).low i) where
  by_place : Place (bounds_over a o.bounds).low i → item_at (laid_array a o) i ≡ None
  by_place (inl below) = item_below (laid_array a o) i (ap (λ l. int_le l i) (laid_low a o) ∙ below)
  by_place (inr (k, e)) =
      let outside : (bounds_over a o.bounds).size ≤ k = test_not_below _ _ (sym (within_place (bounds_over a o.bounds) k) ∙ ap (is_within (bounds_over a o.bounds)) (sym e) ∙ h) in
      ap (λ j. item_at (laid_array a o) j) (e ∙ ap (λ l. l +ℤ pos k) (sym (laid_low a o)))
      ∙ item_at_place (laid_array a o) k
      ∙ ap (λ vs. slice_get vs k) (laid_items a o)
      ∙ get_past_listed (bounds_over a o.bounds).size k (λ j. item_over a o ((bounds_over a o.bounds).low +ℤ pos j)) outside

pub some_or_zero : (x : Option Value) → is_some x ≡ true → Some (item_or_zero x) ≡ x
some_or_zero None h = absurd (false≢true h)
some_or_zero (Some v) h = refl

-- in the bounds of an overlay that fits an array has what was put, else its own
pub laid_item : (a : ArrayContent) (o : ArrayChange) (i : ℤ) → ArrayFits a o → is_within (bounds_over a o.bounds) i ≡ true
    → item_at (laid_array a o) i ≡ item_over a o i
laid_item a o i fits h = laid_inside a o i h ∙ some_or_zero (item_over a o i) (fits.held i h)

-- an array of the bounds and the items is the laid one
pub laid_is : (a : ArrayContent) (o : ArrayChange) (r : ArrayContent) → r.kind ≡ a.kind → bounds_of r ≡ bounds_over a o.bounds
    → ((i : ℤ) → is_within (bounds_over a o.bounds) i ≡ true → item_at r i ≡ Some (item_or_zero (item_over a o i)))
    → r ≡ laid_array a o
unfolding laid_array
laid_is a o r kinds bounds items =
    rw (← kinds) (rw (← bounds) (ap (λ vs. record r { items = vs }) (sym (listed_own r.items) ∙ same_listed (length r.items) (slice_get r.items) (λ k. item_over a o (r.low +ℤ pos k)) each)))
  where
    each : (k : ℕ) → k < length r.items → item_or_zero (slice_get r.items k) ≡ item_or_zero (item_over a o (r.low +ℤ pos k))
    each k h =
        let inside : is_within (bounds_over a o.bounds) (r.low +ℤ pos k) ≡ true =
        ap (λ b. is_within b (r.low +ℤ pos k)) (sym bounds) ∙ within_place (bounds_of r) k ∙ test_below k (length r.items) h in
        ap item_or_zero (sym (item_at_place r k) ∙ items (r.low +ℤ pos k) inside)

has_item : (vs : List Value) (k : ℕ) → k < length vs → is_some (slice_get vs k) ≡ true
has_item [] k h = absurd (omega arith)
has_item (v ∷ vs) zero h = refl
has_item (v ∷ vs) (suc k) h = has_item vs k (omega arith)

-- an array has an item at each index in its bounds, and none outside
pub own_item : (a : ArrayContent) (i : ℤ) → is_within (bounds_of a) i ≡ true → is_some (item_at a i) ≡ true
own_item a i h = by_place (place a.low i) where
  by_place : Place a.low i → is_some (item_at a i) ≡ true
  by_place (inl below) = absurd (false≢true (sym (not_within_below (bounds_of a) i below) ∙ h))
  by_place (inr (k, e)) =
      let inside : k < length a.items = below_test _ _ (sym (within_place (bounds_of a) k) ∙ ap (is_within (bounds_of a)) (sym e) ∙ h) in
      ap (λ j. is_some (item_at a j)) e ∙ ap is_some (item_at_place a k) ∙ has_item a.items k inside

pub no_item : (a : ArrayContent) (i : ℤ) → is_within (bounds_of a) i ≡ false → item_at a i ≡ None
no_item a i h = by_place (place a.low i) where
  by_place : Place a.low i → item_at a i ≡ None
  by_place (inl below) = item_below a i below
  by_place (inr (k, e)) =
      let outside : length a.items ≤ k = test_not_below _ _ (sym (within_place (bounds_of a) k) ∙ ap (is_within (bounds_of a)) (sym e) ∙ h) in
      ap (λ j. item_at a j) e ∙ item_at_place a k ∙ slice_get_past a.items k outside

-- ---- an overlay that changes nothing

pub laid_nothing : (a : ArrayContent) (o : ArrayChange) → o.bounds ≡ None → o.items ≡ [] → laid_array a o ≡ a
laid_nothing a o none empty = sym (laid_is a o a refl (sym (ap (bounds_over a) none)) items)
  where
    items : (i : ℤ) → is_within (bounds_over a o.bounds) i ≡ true → item_at a i ≡ Some (item_or_zero (item_over a o i))
    items i h =
        sym (some_or_zero (item_at a i) (own_item a i (ap (λ b. is_within (bounds_over a b) i) (sym none) ∙ h)))
        ∙ ap (λ es. Some (item_or_zero (or_below (changed_at es i) (item_at a i)))) (sym empty)

pub fits_nothing : (a : ArrayContent) (o : ArrayChange) → o.bounds ≡ None → o.items ≡ [] → ArrayFits a o
fits_nothing a o none empty = record {
  limited = subst AreLimitedWhere (sym none) tt;
  held = λ i h. ap (λ es. is_some (or_below (changed_at es i) (item_at a i))) empty ∙ own_item a i (ap (λ b. is_within (bounds_over a b) i) (sym none) ∙ h);
  inside = λ i h. absurd (false≢true (ap (λ es. is_some (changed_at es i)) (sym empty) ∙ h));
  of_kind = λ i v h. absurd (none-some v (ap (λ es. changed_at es i) (sym empty) ∙ h));
}

-- ---- what was noted

-- at the index, and at any other one
noted_cases : (o p : ArrayChange) (i : ℤ) (w : Option Value) (nb : Option Bounds) → IsNoted o p i w nb → (q : ℤ)
    → ((i ≡ q) × (changed_at p.items q ≡ w)) ⊎ ((i ≡ q → ⊥) × (changed_at p.items q ≡ changed_at o.items q))
noted_cases o p i w nb noted q = by_test (is_at (int_cmp i) q) refl where
  by_test : (t : Bool) → is_at (int_cmp i) q ≡ t → ((i ≡ q) × (changed_at p.items q ≡ w)) ⊎ ((i ≡ q → ⊥) × (changed_at p.items q ≡ changed_at o.items q))
  by_test true e = inl (is_same_index i q e, rw e at (noted.items q))
  by_test false e = inr (λ same. true≢false (sym (ap (λ j. is_at (int_cmp i) j) (sym same) ∙ at_itself i) ∙ e), rw e at (noted.items q))

pub item_put : (a : ArrayContent) (o p : ArrayChange) (i : ℤ) (v : Value) (nb : Option Bounds) → IsNoted o p i (Some v) nb → item_over a p i ≡ Some v
item_put a o p i v nb noted = elim (noted_cases o p i (Some v) nb noted i) [
  | inl here ↦ ap (λ x. or_below x (item_at a i)) here.1
  | inr there ↦ absurd (there.0 refl)
]

pub item_left : (a : ArrayContent) (o p : ArrayChange) (i : ℤ) (w : Option Value) (nb : Option Bounds) → IsNoted o p i w nb → (q : ℤ) → (i ≡ q → ⊥)
    → item_over a p q ≡ item_over a o q
item_left a o p i w nb noted q apart = elim (noted_cases o p i w nb noted q) [
  | inl here ↦ absurd (apart here.0)
  | inr there ↦ ap (λ x. or_below x (item_at a q)) there.1
]

some_over : (w below : Option Value) → is_some w ≡ true → is_some (or_below w below) ≡ true
some_over None below h = absurd (false≢true h)
some_over (Some v) below h = refl

-- it still fits where an item was put at an index in the new bounds, or taken from one that is not
pub fits_noted : (a : ArrayContent) (o p : ArrayChange) (i : ℤ) (w : Option Value) (nb : Option Bounds) → IsNoted o p i w nb → AreLimitedWhere nb
    → ((q : ℤ) → (i ≡ q → ⊥) → is_within (bounds_over a nb) q ≡ is_within (bounds_over a o.bounds) q)
    → is_within (bounds_over a nb) i ≡ is_some w
    → ((v : Value) → w ≡ Some v → kind_of v ≡ a.kind)
    → ArrayFits a o → ArrayFits a p
fits_noted a o p i w nb noted limited others here kinds fits = record {
  limited = subst AreLimitedWhere (sym noted.bounds) limited;
  held = λ q h. held q (noted_cases o p i w nb noted q) (ap (λ b. is_within (bounds_over a b) q) (sym noted.bounds) ∙ h);
  inside = λ q h. ap (λ b. is_within (bounds_over a b) q) noted.bounds ∙ inside q (noted_cases o p i w nb noted q) h;
  of_kind = λ q v h. of_kind q v (noted_cases o p i w nb noted q) h;
}
  where
    held : (q : ℤ) → ((i ≡ q) × (changed_at p.items q ≡ w)) ⊎ ((i ≡ q → ⊥) × (changed_at p.items q ≡ changed_at o.items q))
        → is_within (bounds_over a nb) q ≡ true → is_some (item_over a p q) ≡ true
    held q (inl r) h = ap (λ x. is_some (or_below x (item_at a q))) r.1
        ∙ some_over w (item_at a q) (sym here ∙ ap (is_within (bounds_over a nb)) r.0 ∙ h)
    held q (inr r) h = ap (λ x. is_some (or_below x (item_at a q))) r.1 ∙ fits.held q (sym (others q r.0) ∙ h)

    inside : (q : ℤ) → ((i ≡ q) × (changed_at p.items q ≡ w)) ⊎ ((i ≡ q → ⊥) × (changed_at p.items q ≡ changed_at o.items q))
        → is_some (changed_at p.items q) ≡ true → is_within (bounds_over a nb) q ≡ true
    inside q (inl r) h = ap (is_within (bounds_over a nb)) (sym r.0) ∙ here ∙ ap is_some (sym r.1) ∙ h
    inside q (inr r) h = others q r.0 ∙ fits.inside q (ap is_some (sym r.1) ∙ h)

    of_kind : (q : ℤ) (v : Value) → ((i ≡ q) × (changed_at p.items q ≡ w)) ⊎ ((i ≡ q → ⊥) × (changed_at p.items q ≡ changed_at o.items q))
        → changed_at p.items q ≡ Some v → kind_of v ≡ a.kind
    of_kind q v (inl r) h = kinds v (sym r.1 ∙ h)
    of_kind q v (inr r) h = fits.of_kind q v (sym r.1 ∙ h)

-- ---- what operations leave

laid_as : (a : ArrayContent) (p : ArrayChange) (b : Bounds) → bounds_over a p.bounds ≡ b
    → laid_array a p ≡ record { kind = a.kind; low = b.low; items = listed_in b (item_over a p) }
unfolding laid_array
laid_as a p b e = ap (λ c. let d : Bounds = c in record { kind = a.kind; low = d.low; items = listed_in d (item_over a p) }) e

abbrev with_items : ArrayContent → ℤ → List Value → ArrayContent
with_items a low vs = record { kind = a.kind; low = low; items = vs }

pub laid_stored : (a : ArrayContent) (o p : ArrayChange) (k : ℕ) (v : Value) → k < (bounds_over a o.bounds).size
    → IsNoted o p ((bounds_over a o.bounds).low +ℤ pos k) (Some v) o.bounds
    → laid_array a p ≡ set_item (laid_array a o) ((bounds_over a o.bounds).low +ℤ pos k) v
unfolding laid_array
laid_stored a o p k v inside noted =
    let b = bounds_over a o.bounds in
    let i = b.low +ℤ pos k in
    laid_as a p b (ap (bounds_over a) noted.bounds)
    ∙ ap (with_items a b.low) (sym (set_listed b.size k (λ j. item_over a o (b.low +ℤ pos j)) (λ j. item_over a p (b.low +ℤ pos j)) v inside
    (item_put a o p i v o.bounds noted)
    (λ j below apart. item_left a o p i (Some v) o.bounds noted (b.low +ℤ pos j) (λ e. apart (sym (same_place b.low k j e))))))
    ∙ sym (set_item_place (laid_array a o) k v)

pub laid_added_high : (a : ArrayContent) (o p : ArrayChange) (v : Value) (nb : Option Bounds)
    → nb ≡ Some (record { low = (bounds_over a o.bounds).low; size = suc (bounds_over a o.bounds).size })
    → IsNoted o p ((bounds_over a o.bounds).low +ℤ pos (bounds_over a o.bounds).size) (Some v) nb
    → laid_array a p ≡ with_item_above (laid_array a o) v
unfolding laid_array
laid_added_high a o p v nb e noted =
    let b = bounds_over a o.bounds in
    let i = b.low +ℤ pos b.size in
    let f : ℕ → Option Value = λ j. item_over a o (b.low +ℤ pos j) in
    let g : ℕ → Option Value = λ j. item_over a p (b.low +ℤ pos j) in
    let same : listed g b.size ≡ listed f b.size = same_listed b.size g f (λ j below. ap item_or_zero
    (item_left a o p i (Some v) nb noted (b.low +ℤ pos j) (λ q. absurd (apart j b.size below (same_place b.low b.size j q))))) in
    laid_as a p (record { low = b.low; size = suc b.size }) (ap (bounds_over a) (noted.bounds ∙ e))
    ∙ ap (with_items a b.low) (listed_last b.size g ∙ ap (λ vs. vs ++ item_or_zero (g b.size) ∷ []) same ∙ ap (λ x. listed f b.size ++ item_or_zero x ∷ []) (item_put a o p i v nb noted))
  where
    apart : (j n : ℕ) → j < n → n ≡ j → ⊥
    apart j n h q = omega arith

pub laid_added_low : (a : ArrayContent) (o p : ArrayChange) (v : Value) (nb : Option Bounds)
    → nb ≡ Some (record { low = (bounds_over a o.bounds).low -ℤ pos 1; size = suc (bounds_over a o.bounds).size })
    → IsNoted o p ((bounds_over a o.bounds).low -ℤ pos 1) (Some v) nb
    → laid_array a p ≡ with_item_below (laid_array a o) v
unfolding laid_array
laid_added_low a o p v nb e noted =
    let b = bounds_over a o.bounds in
    let i = b.low -ℤ pos 1 in
    let f : ℕ → Option Value = λ j. item_over a o (b.low +ℤ pos j) in
    let g : ℕ → Option Value = λ j. item_over a p (i +ℤ pos j) in
    let first : g zero ≡ Some v = ap (item_over a p) (from_itself i) ∙ item_put a o p i v nb noted in
    let rest : listed (λ j. g (suc j)) b.size ≡ listed f b.size = same_listed b.size (λ j. g (suc j)) f (λ j below. ap item_or_zero
    (ap (item_over a p) (one_further b.low j) ∙ item_left a o p i (Some v) nb noted (b.low +ℤ pos j) (lower b.low j))) in
    laid_as a p (record { low = i; size = suc b.size }) (ap (bounds_over a) (noted.bounds ∙ e))
    ∙ ap (with_items a i) (ap (λ x. item_or_zero x ∷ listed (λ j. g (suc j)) b.size) first ∙ ap (λ vs. v ∷ vs) rest)
  where
    from_itself : (i : ℤ) → i +ℤ pos zero ≡ i
    from_itself i = omega (arith, ints)

    one_further : (low : ℤ) (j : ℕ) → (low -ℤ pos 1) +ℤ pos (suc j) ≡ low +ℤ pos j
    one_further low j = omega (arith, ints)

    lower : (low : ℤ) (j : ℕ) → low -ℤ pos 1 ≡ low +ℤ pos j → ⊥
    lower low j q = omega (arith, ints)

pub laid_removed_high : (a : ArrayContent) (o p : ArrayChange) (m : ℕ) (nb : Option Bounds) → (bounds_over a o.bounds).size ≡ suc m
    → nb ≡ Some (record { low = (bounds_over a o.bounds).low; size = m })
    → IsNoted o p ((bounds_over a o.bounds).low +ℤ pos m) None nb
    → laid_array a p ≡ without_last (laid_array a o)
unfolding laid_array
laid_removed_high a o p m nb size e noted =
    let b = bounds_over a o.bounds in
    let i = b.low +ℤ pos m in
    let f : ℕ → Option Value = λ j. item_over a o (b.low +ℤ pos j) in
    let g : ℕ → Option Value = λ j. item_over a p (b.low +ℤ pos j) in
    let same : listed g m ≡ listed f m = same_listed m g f (λ j below. ap item_or_zero
    (item_left a o p i None nb noted (b.low +ℤ pos j) (λ q. absurd (apart j m below (same_place b.low m j q))))) in
    let kept : take (length (listed f b.size) - 1) (listed f b.size) ≡ listed f m =
    ap (λ n. take (n - 1) (listed f b.size)) (length_listed b.size f ∙ size) ∙ ap (λ n. take n (listed f b.size)) (one_less m)
    ∙ ap (λ n. take m (listed f n)) size ∙ take_listed m f in
    laid_as a p (record { low = b.low; size = m }) (ap (bounds_over a) (noted.bounds ∙ e))
    ∙ ap (with_items a b.low) (same ∙ sym kept)
  where
    apart : (j n : ℕ) → j < n → n ≡ j → ⊥
    apart j n h q = omega arith

    one_less : (n : ℕ) → suc n - 1 ≡ n
    one_less n = omega arith

pub laid_removed_low : (a : ArrayContent) (o p : ArrayChange) (m : ℕ) (nb : Option Bounds) → (bounds_over a o.bounds).size ≡ suc m
    → nb ≡ Some (record { low = (bounds_over a o.bounds).low +ℤ pos 1; size = m })
    → IsNoted o p (bounds_over a o.bounds).low None nb
    → laid_array a p ≡ without_first (laid_array a o)
unfolding laid_array
laid_removed_low a o p m nb size e noted =
    let b = bounds_over a o.bounds in
    let i = b.low in
    let f : ℕ → Option Value = λ j. item_over a o (b.low +ℤ pos j) in
    let g : ℕ → Option Value = λ j. item_over a p ((i +ℤ pos 1) +ℤ pos j) in
    let same : listed g m ≡ listed (λ j. f (suc j)) m = same_listed m g (λ j. f (suc j)) (λ j below. ap item_or_zero
    (ap (item_over a p) (one_further i j) ∙ item_left a o p i None nb noted (b.low +ℤ pos (suc j)) (higher i j))) in
    let kept : but_first a.kind i (listed f b.size) ≡ with_items a (i +ℤ pos 1) (listed (λ j. f (suc j)) m) =
    ap (λ n. but_first a.kind i (listed f n)) size in
    laid_as a p (record { low = i +ℤ pos 1; size = m }) (ap (bounds_over a) (noted.bounds ∙ e))
    ∙ ap (with_items a (i +ℤ pos 1)) same ∙ sym kept
  where
    one_further : (low : ℤ) (j : ℕ) → (low +ℤ pos 1) +ℤ pos j ≡ low +ℤ pos (suc j)
    one_further low j = omega (arith, ints)

    higher : (low : ℤ) (j : ℕ) → low ≡ low +ℤ pos (suc j) → ⊥
    higher low j q = omega (arith, ints)
