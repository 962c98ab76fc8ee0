-- Operations noted in the overlay of an array: their replies, what they leave, and that it fits.
use Rattle.std.proofs.Common.{◌≡◌, inl, inr, ℕ, zero, suc, ◌-◌, ◌<◌, ◌≤◌, List, [], ◌∷◌, length, set, take, Bool, true, false, Some, None, refl, sym, ap, subst, ◌∙◌, arith, pos, ◌+ℤ◌}
use Rattle.std.specs.Borrow.{Bor}
use Rattle.std.specs.Option.{option_or, option_copied}
use Rattle.std.specs.Prelude.{IsTrue, ℤ, ◌-ℤ◌, ◌≤ℤ◌, ◌&&◌, Option, is_some, int_lt, nat_lt, slice_get, if◌then◌else◌}
use Rattle.std.proofs.lemmas.Int.{ints}
use Rattle.std.proofs.lemmas.Bool.{true≢false, false≢true}
use Rattle.std.proofs.lemmas.Bool.Decides.{nat_tests}
use Rattle.std.proofs.lemmas.Option.{none-some, same_Some}
use Rattle.values.specs.declared.value.Value.{Value}
use Rattle.values.specs.declared.value.Value.TheVariants.{Int}
use Rattle.values.specs.Values.{kind_of}
use Rattle.values.specs.Items.{ArrayContent, item_at, set_item, has_room_above, has_room_below, with_item_above, with_item_below, last_item, first_item, but_first, max_items, least_index, greatest_index}
use Rattle.atomic_types.specs.declared.operation.Operation.TheVariants.{Low, High, Size, Fetch, Store, AddHigh, AddLow, RemoveHigh, RemoveLow}
use Rattle.atomic_types.specs.Operations.{Op, is_read}
use Rattle.atomic_types.specs.declared.op.Reply.{Reply}
use Rattle.atomic_types.specs.declared.op.Reply.TheVariants.{Done, Gives, Signals}
use Rattle.atomic_types.specs.declared.op.Signal.TheVariants.{Bounds, Limit}
use Rattle.atomic_types.specs.Arrays.{array_reply, gives_or_bounds}
use Rattle.overlays.specs.declared.bounds.Bounds as bounds
use Rattle.overlays.specs.RecordOverlays.{or_below}
use Rattle.overlays.specs.ArrayOverlays.{ArrayChange, ArrayFits, AreLimited, AreLimitedWhere, IsEnd, IsNoted, IsAnswered, is_fetch, bounds_of, bounds_over, is_within, changed_at, lies_in, item_over, laid_array, room_above, room_below}
use Rattle.overlays.proofs.Places.{Place, place, distance, le_place, item_at_place, within_place, not_within_below}
use Rattle.overlays.proofs.ArrayLaws.{below_test, test_not_below, laid_bounds, laid_low, laid_size, laid_item, laid_inside, laid_outside, no_item, fits_noted, laid_stored, laid_added_high, laid_added_low, laid_removed_high, laid_removed_low}

set_past : (vs : List Value) (k : ℕ) (v : Value) → length vs ≤ k → set vs k v ≡ vs
set_past [] k v h = refl
set_past (w ∷ vs) zero v h = absurd (omega arith)
set_past (w ∷ vs) (suc k) v h = ap (λ ws. w ∷ ws) (set_past vs k v (omega arith))

-- to put an item outside the bounds changes nothing
set_outside : (a : ArrayContent) (i : ℤ) (v : Value) → is_within (bounds_of a) i ≡ false → set_item a i v ≡ a
set_outside a i v h = by_place (place a.low i) where
  by_place : Place a.low i → set_item a i v ≡ a
  by_place (inl below) = rw below refl
  by_place (inr (k, e)) =
      let outside : length a.items ≤ k = test_not_below _ _ (sym (within_place (bounds_of a) k) ∙ ap (is_within (bounds_of a)) (sym e) ∙ h) in
      rw e (rw (le_place a.low k) (rw (distance a.low k) (ap (λ vs. record a { items = vs }) (set_past a.items k v outside))))

within_laid : (a : ArrayContent) (o : ArrayChange) (i : ℤ) (t : Bool) → is_within (bounds_over a o.bounds) i ≡ t → is_within (bounds_of (laid_array a o)) i ≡ t
within_laid a o i t h = ap (λ b. is_within b i) (laid_bounds a o) ∙ h

-- ---- store

pub stored_outside : (a : ArrayContent) (o : ArrayChange) (i : ℤ) (v : Value) → ArrayFits a o → is_within (bounds_over a o.bounds) i ≡ false
    → IsAnswered a o o (Store i v) (Signals Bounds)
stored_outside a o i v fits h = record {
  replies = ap (λ x. if is_some x then Done else Signals Bounds) (sym (laid_outside a o i h));
  leaves = sym (set_outside (laid_array a o) i v (within_laid a o i false h));
  fits_still = fits;
}

pub stored_inside : (a : ArrayContent) (o p : ArrayChange) (i : ℤ) (v : Value) → ArrayFits a o → is_within (bounds_over a o.bounds) i ≡ true
    → kind_of v ≡ a.kind → IsNoted o p i (Some v) o.bounds → IsAnswered a o p (Store i v) Done
stored_inside a o p i v fits h kind noted = record {
  replies = ap (λ x. if is_some x then Done else Signals Bounds) (sym (laid_inside a o i h));
  leaves = by_place (place (bounds_over a o.bounds).low i);
  fits_still = fits_noted a o p i (Some v) o.bounds noted fits.limited (λ q apart. refl) h (λ w e. ap kind_of (sym (same_Some v w e)) ∙ kind) fits;
}
  where
    by_place : Place (bounds_over a o.bounds).low i → laid_array a p ≡ set_item (laid_array a o) i v
    by_place (inl below) = absurd (false≢true (sym (not_within_below (bounds_over a o.bounds) i below) ∙ h))
    by_place (inr (k, e)) =
        let inside : k < (bounds_over a o.bounds).size = below_test _ _ (sym (within_place (bounds_over a o.bounds) k) ∙ ap (is_within (bounds_over a o.bounds)) (sym e) ∙ h) in
        laid_stored a o p k v inside (subst (λ j. IsNoted o p j (Some v) o.bounds) e noted) ∙ ap (λ j. set_item (laid_array a o) j v) (sym e)

-- ---- an item more

room_above_laid : (a : ArrayContent) (o : ArrayChange) → has_room_above (laid_array a o) ≡ room_above (bounds_over a o.bounds)
room_above_laid a o = ap room_above (laid_bounds a o)

room_below_laid : (a : ArrayContent) (o : ArrayChange) → has_room_below (laid_array a o) ≡ room_below (bounds_over a o.bounds)
room_below_laid a o = ap room_below (laid_bounds a o)

pub full_above : (a : ArrayContent) (o : ArrayChange) (v : Value) → ArrayFits a o → room_above (bounds_over a o.bounds) ≡ false
    → IsAnswered a o o (AddHigh v) (Signals Limit)
full_above a o v fits h = record {
  replies = ap (λ t. if t then Done else Signals Limit) (sym (room_above_laid a o ∙ h));
  leaves = ap (λ t. if t then with_item_above (laid_array a o) v else laid_array a o) (sym (room_above_laid a o ∙ h));
  fits_still = fits;
}

pub full_below : (a : ArrayContent) (o : ArrayChange) (v : Value) → ArrayFits a o → room_below (bounds_over a o.bounds) ≡ false
    → IsAnswered a o o (AddLow v) (Signals Limit)
full_below a o v fits h = record {
  replies = ap (λ t. if t then Done else Signals Limit) (sym (room_below_laid a o ∙ h));
  leaves = ap (λ t. if t then with_item_below (laid_array a o) v else laid_array a o) (sym (room_below_laid a o ∙ h));
  fits_still = fits;
}

-- bounds with one index more, or one less
abbrev pub higher : bounds.Bounds → bounds.Bounds
higher b = record { low = b.low; size = suc b.size }

abbrev pub lower : bounds.Bounds → bounds.Bounds
lower b = record { low = b.low -ℤ pos 1; size = suc b.size }

within_higher : (b : bounds.Bounds) (q : ℤ) → ((b.low +ℤ pos b.size) ≡ q → ⊥) → is_within (higher b) q ≡ is_within b q
within_higher b q apart = grind (arith, ints)

within_top : (b : bounds.Bounds) → is_within (higher b) (b.low +ℤ pos b.size) ≡ true
within_top b = grind (arith, ints)

within_lower : (b : bounds.Bounds) (q : ℤ) → ((b.low -ℤ pos 1) ≡ q → ⊥) → is_within (lower b) q ≡ is_within b q
within_lower b q apart = grind (arith, ints)

within_bottom : (b : bounds.Bounds) → is_within (lower b) (b.low -ℤ pos 1) ≡ true
within_bottom b = grind (arith, ints)

pub added_high : (a : ArrayContent) (o p : ArrayChange) (v : Value) (nb : Option bounds.Bounds) → ArrayFits a o → room_above (bounds_over a o.bounds) ≡ true
    → kind_of v ≡ a.kind → nb ≡ Some (higher (bounds_over a o.bounds)) → AreLimited (higher (bounds_over a o.bounds))
    → IsNoted o p ((bounds_over a o.bounds).low +ℤ pos (bounds_over a o.bounds).size) (Some v) nb → IsAnswered a o p (AddHigh v) Done
added_high a o p v nb fits h kind e limited noted =
    let b = bounds_over a o.bounds in
    record {
      replies = ap (λ t. if t then Done else Signals Limit) (sym (room_above_laid a o ∙ h));
      leaves = laid_added_high a o p v nb e noted ∙ ap (λ t. if t then with_item_above (laid_array a o) v else laid_array a o) (sym (room_above_laid a o ∙ h));
      fits_still = fits_noted a o p (b.low +ℤ pos b.size) (Some v) nb noted (subst AreLimitedWhere (sym e) limited)
          (λ q apart. ap (λ c. is_within (bounds_over a c) q) e ∙ within_higher b q apart)
          (ap (λ c. is_within (bounds_over a c) (b.low +ℤ pos b.size)) e ∙ within_top b)
          (λ w s. ap kind_of (sym (same_Some v w s)) ∙ kind) fits;
    }

pub added_low : (a : ArrayContent) (o p : ArrayChange) (v : Value) (nb : Option bounds.Bounds) → ArrayFits a o → room_below (bounds_over a o.bounds) ≡ true
    → kind_of v ≡ a.kind → nb ≡ Some (lower (bounds_over a o.bounds)) → AreLimited (lower (bounds_over a o.bounds))
    → IsNoted o p ((bounds_over a o.bounds).low -ℤ pos 1) (Some v) nb → IsAnswered a o p (AddLow v) Done
added_low a o p v nb fits h kind e limited noted =
    let b = bounds_over a o.bounds in
    record {
      replies = ap (λ t. if t then Done else Signals Limit) (sym (room_below_laid a o ∙ h));
      leaves = laid_added_low a o p v nb e noted ∙ ap (λ t. if t then with_item_below (laid_array a o) v else laid_array a o) (sym (room_below_laid a o ∙ h));
      fits_still = fits_noted a o p (b.low -ℤ pos 1) (Some v) nb noted (subst AreLimitedWhere (sym e) limited)
          (λ q apart. ap (λ c. is_within (bounds_over a c) q) e ∙ within_lower b q apart)
          (ap (λ c. is_within (bounds_over a c) (b.low -ℤ pos 1)) e ∙ within_bottom b)
          (λ w s. ap kind_of (sym (same_Some v w s)) ∙ kind) fits;
    }

-- ---- an item less

no_items : (a : ArrayContent) → length a.items ≡ 0 → a.items ≡ []
no_items a h = by_items a.items h where
  by_items : (vs : List Value) → length vs ≡ 0 → vs ≡ []
  by_items [] h = refl
  by_items (v ∷ vs) h = absurd (omega arith)

pub none_high : (a : ArrayContent) (o : ArrayChange) → ArrayFits a o → (bounds_over a o.bounds).size ≡ 0 → IsAnswered a o o RemoveHigh (Signals Bounds)
none_high a o fits h =
    let l = laid_array a o in
    let empty : l.items ≡ [] = no_items l (laid_size a o ∙ h) in
    record {
      replies = ap (λ vs. gives_or_bounds (slice_get vs (length vs - 1))) (sym empty);
      leaves = ap (λ vs. record l { items = vs }) empty ∙ ap (λ vs. record l { items = take (length vs - 1) vs }) (sym empty);
      fits_still = fits;
    }

pub none_low : (a : ArrayContent) (o : ArrayChange) → ArrayFits a o → (bounds_over a o.bounds).size ≡ 0 → IsAnswered a o o RemoveLow (Signals Bounds)
none_low a o fits h =
    let l = laid_array a o in
    let empty : l.items ≡ [] = no_items l (laid_size a o ∙ h) in
    record {
      replies = ap (λ vs. gives_or_bounds (slice_get vs 0)) (sym empty);
      leaves = ap (λ vs. record l { items = vs }) empty ∙ ap (λ vs. but_first l.kind l.low vs) (sym empty);
      fits_still = fits;
    }

within_last : (b : bounds.Bounds) (m : ℕ) → b.size ≡ suc m → is_within b (b.low +ℤ pos m) ≡ true
within_last b m size = grind (arith, ints)

within_first : (b : bounds.Bounds) (m : ℕ) → b.size ≡ suc m → is_within b b.low ≡ true
within_first b m size = grind (arith, ints)

within_less : (b : bounds.Bounds) (m : ℕ) (q : ℤ) → b.size ≡ suc m → ((b.low +ℤ pos m) ≡ q → ⊥) → is_within (record { low = b.low; size = m }) q ≡ is_within b q
within_less b m q size apart = grind (arith, ints)

not_within_last : (b : bounds.Bounds) (m : ℕ) → is_within (record { low = b.low; size = m }) (b.low +ℤ pos m) ≡ false
not_within_last b m = grind (arith, ints)

within_more : (b : bounds.Bounds) (m : ℕ) (q : ℤ) → b.size ≡ suc m → (b.low ≡ q → ⊥) → is_within (record { low = b.low +ℤ pos 1; size = m }) q ≡ is_within b q
within_more b m q size apart = grind (arith, ints)

not_within_first : (b : bounds.Bounds) (m : ℕ) → is_within (record { low = b.low +ℤ pos 1; size = m }) b.low ≡ false
not_within_first b m = grind (arith, ints)

pub removed_high : (a : ArrayContent) (o p : ArrayChange) (m : ℕ) (nb : Option bounds.Bounds) (r : Reply) → ArrayFits a o
    → (bounds_over a o.bounds).size ≡ suc m → nb ≡ Some (record { low = (bounds_over a o.bounds).low; size = m })
    → AreLimitedWhere nb → r ≡ gives_or_bounds (item_over a o ((bounds_over a o.bounds).low +ℤ pos m))
    → IsNoted o p ((bounds_over a o.bounds).low +ℤ pos m) None nb → IsAnswered a o p RemoveHigh r
removed_high a o p m nb r fits size e limited replies noted =
    let b = bounds_over a o.bounds in
    let l = laid_array a o in
    let i = b.low +ℤ pos m in
    let last : last_item l ≡ item_over a o i =
    ap (λ n. slice_get l.items (n - 1)) (laid_size a o ∙ size) ∙ ap (slice_get l.items) (one_less m)
    ∙ sym (item_at_place l m) ∙ ap (λ low. item_at l (low +ℤ pos m)) (laid_low a o) ∙ laid_item a o i fits (within_last b m size) in
    record {
      replies = replies ∙ ap gives_or_bounds (sym last);
      leaves = laid_removed_high a o p m nb size e noted;
      fits_still = fits_noted a o p i None nb noted limited
          (λ q apart. ap (λ c. is_within (bounds_over a c) q) e ∙ within_less b m q size apart)
          (ap (λ c. is_within (bounds_over a c) i) e ∙ not_within_last b m)
          (λ w s. absurd (none-some w s)) fits;
    }
  where
    one_less : (n : ℕ) → suc n - 1 ≡ n
    one_less n = omega arith

pub removed_low : (a : ArrayContent) (o p : ArrayChange) (m : ℕ) (nb : Option bounds.Bounds) (r : Reply) → ArrayFits a o
    → (bounds_over a o.bounds).size ≡ suc m → nb ≡ Some (record { low = (bounds_over a o.bounds).low +ℤ pos 1; size = m })
    → AreLimitedWhere nb → r ≡ gives_or_bounds (item_over a o (bounds_over a o.bounds).low)
    → IsNoted o p (bounds_over a o.bounds).low None nb → IsAnswered a o p RemoveLow r
removed_low a o p m nb r fits size e limited replies noted =
    let b = bounds_over a o.bounds in
    let l = laid_array a o in
    let first : first_item l ≡ item_over a o b.low =
    sym (item_at_place l 0) ∙ ap (item_at l) (from_itself l.low) ∙ ap (item_at l) (laid_low a o) ∙ laid_item a o b.low fits (within_first b m size) in
    record {
      replies = replies ∙ ap gives_or_bounds (sym first);
      leaves = laid_removed_low a o p m nb size e noted;
      fits_still = fits_noted a o p b.low None nb noted limited
          (λ q apart. ap (λ c. is_within (bounds_over a c) q) e ∙ within_more b m q size apart)
          (ap (λ c. is_within (bounds_over a c) b.low) e ∙ not_within_first b m)
          (λ w s. absurd (none-some w s)) fits;
    }
  where
    from_itself : (i : ℤ) → i +ℤ pos 0 ≡ i
    from_itself i = omega (arith, ints)

-- ---- the item at an end

pub end_item : (a : ArrayContent) (o : ArrayChange) (i : ℤ) (below : Option Value) → ArrayFits a o → is_within (bounds_over a o.bounds) i ≡ true
    → (is_some (item_at a i) ≡ true → below ≡ item_at a i) → or_below (changed_at o.items i) below ≡ item_over a o i
end_item a o i below fits h same = by_change (changed_at o.items i) refl where
  by_change : (x : Option Value) → changed_at o.items i ≡ x → or_below x below ≡ or_below x (item_at a i)
  by_change None e = same (ap (λ x. is_some (or_below x (item_at a i))) (sym e) ∙ fits.held i h)
  by_change (Some v) e = refl

-- the size of bounds that are not empty
pub size_more : (b : bounds.Bounds) → (b.size ≡ 0 → ⊥) → b.size ≡ suc (b.size - 1)
size_more b h = omega arith

-- what a search in the overlay and one below it found
pub or_copied : (x y : Option (Bor Value)) → option_copied (option_or x y) ≡ or_below (option_copied x) (option_copied y)
or_copied None y = refl
or_copied (Some b) y = refl

pub end_given : (x y : Option (Bor Value)) (o : ArrayChange) (i : ℤ) (r : Option (Bor Value)) → option_copied x ≡ changed_at o.items i → r ≡ option_or x y
    → or_below (changed_at o.items i) (option_copied y) ≡ option_copied r
end_given x y o i r found is = ap (λ w. or_below w (option_copied y)) (sym found) ∙ sym (or_copied x y) ∙ ap option_copied (sym is)

-- ---- what one overlay shows of an item

pub peek_outside : (a : ArrayContent) (o : ArrayChange) (i : ℤ) → lies_in o.bounds i ≡ false → array_reply (laid_array a o) (Fetch i) ≡ Signals Bounds
peek_outside a o i h = ap gives_or_bounds (laid_outside a o i (by_bounds o.bounds h)) where
  by_bounds : (b : Option bounds.Bounds) → lies_in b i ≡ false → is_within (bounds_over a b) i ≡ false
  by_bounds None h = absurd (true≢false h)
  by_bounds (Some b) h = h

pub peek_changed : (a : ArrayContent) (o : ArrayChange) (i : ℤ) (v : Value) → ArrayFits a o → changed_at o.items i ≡ Some v
    → array_reply (laid_array a o) (Fetch i) ≡ Gives v
peek_changed a o i v fits h =
    ap gives_or_bounds (laid_item a o i fits (fits.inside i (ap is_some h)) ∙ ap (λ x. or_below x (item_at a i)) h)

pub peek_unchanged : (a : ArrayContent) (o : ArrayChange) (i : ℤ) → ArrayFits a o → lies_in o.bounds i ≡ true → changed_at o.items i ≡ None
    → array_reply (laid_array a o) (Fetch i) ≡ array_reply a (Fetch i)
peek_unchanged a o i fits inside h = ap gives_or_bounds (by_test (is_within (bounds_over a o.bounds) i) refl) where
  by_bounds : (b : Option bounds.Bounds) → lies_in b i ≡ true → is_within (bounds_over a b) i ≡ false → is_within (bounds_of a) i ≡ false
  by_bounds None l e = e
  by_bounds (Some b) l e = absurd (true≢false (sym l ∙ e))

  by_test : (t : Bool) → is_within (bounds_over a o.bounds) i ≡ t → item_at (laid_array a o) i ≡ item_at a i
  by_test true e = laid_item a o i fits e ∙ ap (λ x. or_below x (item_at a i)) h
  by_test false e = laid_outside a o i e ∙ sym (no_item a i (by_bounds o.bounds inside e))

-- ---- the same where the bounds are at hand

pub stored_outside_of : (a : ArrayContent) (o : ArrayChange) (b : bounds.Bounds) (i : ℤ) (v : Value) → ArrayFits a o → b ≡ bounds_over a o.bounds
    → is_within b i ≡ false → IsAnswered a o o (Store i v) (Signals Bounds)
stored_outside_of a o b i v fits e h = stored_outside a o i v fits (ap (λ c. is_within c i) (sym e) ∙ h)

pub stored_inside_of : (a : ArrayContent) (o p : ArrayChange) (b : bounds.Bounds) (i : ℤ) (v : Value) → ArrayFits a o → b ≡ bounds_over a o.bounds
    → is_within b i ≡ true → kind_of v ≡ a.kind → IsNoted o p i (Some v) o.bounds → IsAnswered a o p (Store i v) Done
stored_inside_of a o p b i v fits e h kind noted = stored_inside a o p i v fits (ap (λ c. is_within c i) (sym e) ∙ h) kind noted

pub full_above_of : (a : ArrayContent) (o : ArrayChange) (b : bounds.Bounds) (v : Value) → ArrayFits a o → b ≡ bounds_over a o.bounds
    → room_above b ≡ false → IsAnswered a o o (AddHigh v) (Signals Limit)
full_above_of a o b v fits e h = full_above a o v fits (ap room_above (sym e) ∙ h)

pub full_below_of : (a : ArrayContent) (o : ArrayChange) (b : bounds.Bounds) (v : Value) → ArrayFits a o → b ≡ bounds_over a o.bounds
    → room_below b ≡ false → IsAnswered a o o (AddLow v) (Signals Limit)
full_below_of a o b v fits e h = full_below a o v fits (ap room_below (sym e) ∙ h)

both_true : (s t : Bool) → s && t ≡ true → (s ≡ true) × (t ≡ true)
both_true true true h = (refl, refl)
both_true true false h = absurd (false≢true h)
both_true false t h = absurd (false≢true h)

limited_higher : (b : bounds.Bounds) → AreLimited b → room_above b ≡ true → AreLimited (higher b)
limited_higher b limits h =
    let r : (nat_lt b.size max_items ≡ true) × (int_lt ((b.low +ℤ pos b.size) -ℤ pos 1) greatest_index ≡ true) = both_true _ _ h in
    record { size = grind (arith, nat_tests, r.0); low = limits.low; high = grind (arith, ints, r.1) }

limited_lower : (b : bounds.Bounds) → AreLimited b → room_below b ≡ true → AreLimited (lower b)
limited_lower b limits h =
    let r : (nat_lt b.size max_items ≡ true) × (int_lt least_index b.low ≡ true) = both_true _ _ h in
    record { size = grind (arith, nat_tests, r.0); low = grind (arith, ints, r.1); high = omega (arith, ints, limits.high) }

-- the index and the new bounds as the code has them
pub added_high_of : (a : ArrayContent) (o p : ArrayChange) (b c : bounds.Bounds) (i : ℤ) (v : Value) → ArrayFits a o → b ≡ bounds_over a o.bounds
    → AreLimited b → room_above b ≡ true → kind_of v ≡ a.kind → c.low ≡ b.low → c.size ≡ suc b.size → i ≡ b.low +ℤ pos b.size
    → IsNoted o p i (Some v) (Some c) → IsAnswered a o p (AddHigh v) Done
added_high_of a o p b c i v fits e limits h kind low size at noted =
    let same : c ≡ higher b = rw low (rw size refl) in
    added_high a o p v (Some c) fits (ap room_above (sym e) ∙ h) kind (ap (λ d. Some d) (same ∙ ap higher e))
    (subst (λ d. AreLimited (higher d)) e (limited_higher b limits h))
    (subst (λ j. IsNoted o p j (Some v) (Some c)) (at ∙ ap (λ d. let f : bounds.Bounds = d in f.low +ℤ pos f.size) e) noted)

pub added_low_of : (a : ArrayContent) (o p : ArrayChange) (b c : bounds.Bounds) (i : ℤ) (v : Value) → ArrayFits a o → b ≡ bounds_over a o.bounds
    → AreLimited b → room_below b ≡ true → kind_of v ≡ a.kind → c.low ≡ b.low -ℤ pos 1 → c.size ≡ suc b.size → i ≡ b.low -ℤ pos 1
    → IsNoted o p i (Some v) (Some c) → IsAnswered a o p (AddLow v) Done
added_low_of a o p b c i v fits e limits h kind low size at noted =
    let same : c ≡ lower b = rw low (rw size refl) in
    added_low a o p v (Some c) fits (ap room_below (sym e) ∙ h) kind (ap (λ d. Some d) (same ∙ ap lower e))
    (subst (λ d. AreLimited (lower d)) e (limited_lower b limits h))
    (subst (λ j. IsNoted o p j (Some v) (Some c)) (at ∙ ap (λ d. let f : bounds.Bounds = d in f.low -ℤ pos 1) e) noted)

-- the bounds as the code has them once an end was removed, and the item that was there
pub removed_high_of : (a : ArrayContent) (o p : ArrayChange) (b c : bounds.Bounds) (i : ℤ) (below : Option Value) (r : Reply) → ArrayFits a o
    → b ≡ bounds_over a o.bounds → AreLimited b → c.low ≡ b.low → suc c.size ≡ b.size → i ≡ b.low +ℤ pos c.size
    → IsEnd a b RemoveHigh below → r ≡ gives_or_bounds (or_below (changed_at o.items i) below) → IsNoted o p i None (Some c) → IsAnswered a o p RemoveHigh r
removed_high_of a o p b c i below r fits e limits low size at end replies noted =
    let over = bounds_over a o.bounds in
    let many : over.size ≡ suc c.size = ap (λ d. let f : bounds.Bounds = d in f.size) (sym e) ∙ sym size in
    let first : b.low ≡ over.low = ap (λ d. let f : bounds.Bounds = d in f.low) e in
    let there : i ≡ over.low +ℤ pos c.size = at ∙ ap (λ l. l +ℤ pos c.size) first in
    let inside : is_within over i ≡ true = ap (is_within over) there ∙ within_last over c.size many in
    let last : (b.low +ℤ pos b.size) -ℤ pos 1 ≡ i = omega (arith, ints) in
    let found : r ≡ gives_or_bounds (item_over a o i) = replies ∙ ap gives_or_bounds (end_item a o i below fits inside (end i (ap (λ q. Some q) last))) in
    removed_high a o p c.size (Some c) r fits many
    (ap (λ l. Some (let f : bounds.Bounds = record { low = l; size = c.size } in f)) (low ∙ first))
    (record { size = omega (arith, limits.size); low = subst (λ l. least_index ≤ℤ l) (sym low) limits.low; high = omega (arith, ints, limits.high) })
    (found ∙ ap (λ j. gives_or_bounds (item_over a o j)) there)
    (subst (λ j. IsNoted o p j None (Some c)) there noted)

pub removed_low_of : (a : ArrayContent) (o p : ArrayChange) (b c : bounds.Bounds) (i : ℤ) (below : Option Value) (r : Reply) → ArrayFits a o
    → b ≡ bounds_over a o.bounds → AreLimited b → c.low ≡ b.low +ℤ pos 1 → suc c.size ≡ b.size → i ≡ b.low
    → IsEnd a b RemoveLow below → r ≡ gives_or_bounds (or_below (changed_at o.items i) below) → IsNoted o p i None (Some c) → IsAnswered a o p RemoveLow r
removed_low_of a o p b c i below r fits e limits low size at end replies noted =
    let over = bounds_over a o.bounds in
    let many : over.size ≡ suc c.size = ap (λ d. let f : bounds.Bounds = d in f.size) (sym e) ∙ sym size in
    let first : b.low ≡ over.low = ap (λ d. let f : bounds.Bounds = d in f.low) e in
    let there : i ≡ over.low = at ∙ first in
    let inside : is_within over i ≡ true = ap (is_within over) there ∙ within_first over c.size many in
    let found : r ≡ gives_or_bounds (item_over a o i) = replies ∙ ap gives_or_bounds (end_item a o i below fits inside (end i (ap (λ q. Some q) (sym at)))) in
    removed_low a o p c.size (Some c) r fits many
    (ap (λ l. Some (let f : bounds.Bounds = record { low = l; size = c.size } in f)) (low ∙ ap (λ l. l +ℤ pos 1) first))
    (record { size = omega (arith, limits.size); low = omega (arith, ints, limits.low); high = omega (arith, ints, limits.high) })
    (found ∙ ap (λ j. gives_or_bounds (item_over a o j)) there)
    (subst (λ j. IsNoted o p j None (Some c)) there noted)

-- ---- what one overlay shows of the bounds

module _ (a : ArrayContent) (o : ArrayChange) (b : bounds.Bounds) (is : o.bounds ≡ Some b) where
  given_bounds : bounds_of (laid_array a o) ≡ b
  given_bounds = laid_bounds a o ∙ ap (bounds_over a) is

  pub peek_low : (op : Op) (l : ℤ) → op ≡ Low → l ≡ b.low → array_reply (laid_array a o) op ≡ Gives (Int l)
  peek_low op l e at =
      ap (array_reply (laid_array a o)) e ∙ ap (λ d. let f : bounds.Bounds = d in Gives (Int f.low)) given_bounds ∙ ap (λ q. Gives (Int q)) (sym at)

  pub peek_high : (op : Op) (h : ℤ) → op ≡ High → h ≡ (b.low +ℤ pos b.size) -ℤ pos 1 → array_reply (laid_array a o) op ≡ Gives (Int h)
  peek_high op h e at =
      ap (array_reply (laid_array a o)) e ∙ ap (λ d. let f : bounds.Bounds = d in Gives (Int ((f.low +ℤ pos f.size) -ℤ pos 1))) given_bounds ∙ ap (λ q. Gives (Int q)) (sym at)

  pub peek_size : (op : Op) (n : ℤ) → op ≡ Size → n ≡ pos b.size → array_reply (laid_array a o) op ≡ Gives (Int n)
  peek_size op n e at =
      ap (array_reply (laid_array a o)) e ∙ ap (λ d. let f : bounds.Bounds = d in Gives (Int (pos f.size))) given_bounds ∙ ap (λ q. Gives (Int q)) (sym at)

-- where the bounds stay, what fetches no item is answered the same
pub peek_same : (a : ArrayContent) (o : ArrayChange) (op : Op) → o.bounds ≡ None → IsTrue (is_read op) → is_fetch op ≡ false
    → array_reply (laid_array a o) op ≡ array_reply a op
peek_same a o Low none r f = ap (λ d. let b : bounds.Bounds = d in Gives (Int b.low)) (laid_bounds a o ∙ ap (bounds_over a) none)
peek_same a o High none r f = ap (λ d. let b : bounds.Bounds = d in Gives (Int ((b.low +ℤ pos b.size) -ℤ pos 1))) (laid_bounds a o ∙ ap (bounds_over a) none)
peek_same a o Size none r f = ap (λ d. let b : bounds.Bounds = d in Gives (Int (pos b.size))) (laid_bounds a o ∙ ap (bounds_over a) none)
peek_same a o (Fetch i) none r f = absurd (true≢false f)
peek_same a o (Store i v) none r f = absurd (false≢true r)
peek_same a o (AddHigh v) none r f = absurd (false≢true r)
peek_same a o (AddLow v) none r f = absurd (false≢true r)
peek_same a o RemoveHigh none r f = absurd (false≢true r)
peek_same a o RemoveLow none r f = absurd (false≢true r)
peek_same a o _ none r f = refl

-- ---- what an overlay leaves of an item

pub changed_shows : (a : ArrayContent) (o : ArrayChange) (i : ℤ) (v : Value) → ArrayFits a o → changed_at o.items i ≡ Some v → item_at (laid_array a o) i ≡ Some v
changed_shows a o i v fits h = laid_item a o i fits (fits.inside i (ap is_some h)) ∙ ap (λ x. or_below x (item_at a i)) h

pub unchanged_shows : (a : ArrayContent) (o : ArrayChange) (i : ℤ) → ArrayFits a o → changed_at o.items i ≡ None → is_some (item_at (laid_array a o) i) ≡ true
    → item_at (laid_array a o) i ≡ item_at a i
unchanged_shows a o i fits h held = by_test (is_within (bounds_over a o.bounds) i) refl where
  by_test : (t : Bool) → is_within (bounds_over a o.bounds) i ≡ t → item_at (laid_array a o) i ≡ item_at a i
  by_test true e = laid_item a o i fits e ∙ ap (λ x. or_below x (item_at a i)) h
  by_test false e = absurd (false≢true (sym (ap is_some (laid_outside a o i e)) ∙ held))
