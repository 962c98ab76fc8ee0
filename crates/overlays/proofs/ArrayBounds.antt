-- An array that is given other bounds, and laid on.
use Rattle.std.proofs.Common.{◌≡◌, inl, inr, ℕ, zero, suc, ◌+◌, ◌-◌, ◌<◌, ◌≤◌, min, List, [], ◌∷◌, ◌++◌, length, take, drop, replicate, true, Some, None, refl, sym, ap, ◌∙◌, arith, pos, ◌+ℤ◌}
use Rattle.std.specs.Prelude.{ℤ, Option, is_some, slice_get}
use Rattle.std.proofs.lemmas.Bool.{false≢true}
use Rattle.std.proofs.lemmas.Int.{ints}
use Rattle.std.proofs.lemmas.List.{length-take, length-drop}
use Rattle.values.specs.declared.value.Value.{Value}
use Rattle.values.specs.Items.{ArrayContent, item_at}
use Rattle.values.specs.Bounds.{steps_up, plain_value, items_below, new_below, items_kept, new_above, with_bounds, stored_over}
use Rattle.values.proofs.Bounds.{size_with_bounds}
use Rattle.overlays.specs.declared.bounds.Bounds.{Bounds}
use Rattle.overlays.specs.RecordOverlays.{or_below}
use Rattle.overlays.specs.ArrayOverlays.{ArrayChange, ArrayFits, changed_at, bounds_of, bounds_over, is_within, item_over, item_or_zero, laid_array}
use Rattle.overlays.proofs.ArrayLaws.{laid_is, some_or_zero, below_test}
use Rattle.overlays.proofs.ArrayJoins.{stored_kind, stored_bounds, stored_items}
use Rattle.overlays.proofs.Places.{Place, place, item_at_place, item_below, not_within_below, within_place}

-- ---- places in a row with items in front

get_behind : (n : ℕ) (v : Value) (ys : List Value) (k m : ℕ) → k ≡ n + m → slice_get (replicate n v ++ ys) k ≡ slice_get ys m
get_behind zero v ys k m e = let same : k ≡ m = omega arith in ap (slice_get ys) same
get_behind (suc n) v ys zero m e = absurd (omega arith)
get_behind (suc n) v ys (suc k) m e = get_behind n v ys k m (omega arith)

get_front : (xs ys : List Value) (k : ℕ) → k < length xs → slice_get (xs ++ ys) k ≡ slice_get xs k
get_front [] ys k h = absurd (omega arith)
get_front (x ∷ xs) ys zero h = refl
get_front (x ∷ xs) ys (suc k) h = get_front xs ys k (omega arith)

get_taken : (n : ℕ) (xs : List Value) (k : ℕ) → k < n → slice_get (take n xs) k ≡ slice_get xs k
get_taken zero xs k h = absurd (omega arith)
get_taken (suc n) [] k h = refl
get_taken (suc n) (x ∷ xs) zero h = refl
get_taken (suc n) (x ∷ xs) (suc k) h = get_taken n xs k (omega arith)

get_dropped : (n : ℕ) (xs : List Value) (k j : ℕ) → j ≡ n + k → slice_get (drop n xs) k ≡ slice_get xs j
get_dropped zero xs k j e = let same : k ≡ j = omega arith in ap (slice_get xs) same
get_dropped (suc n) [] k j e = refl
get_dropped (suc n) (x ∷ xs) k zero e = absurd (omega arith)
get_dropped (suc n) (x ∷ xs) k (suc j) e = get_dropped n xs k j (omega arith)

-- the item at place j, where so many are dropped and others put in front
kept_at : (v : Value) (xs : List Value) (dropped below kept above m k j : ℕ) → k ≡ below + m → j ≡ dropped + m → m < kept → dropped + kept ≤ length xs
    → slice_get (replicate below v ++ (take kept (drop dropped xs) ++ replicate above v)) k ≡ slice_get xs j
kept_at v xs dropped below kept above m k j e d within fit =
    let inside : m < length (take kept (drop dropped xs)) = simp (length-take, length-drop) (omega arith) in
    get_behind below v _ k m e ∙ get_front (take kept (drop dropped xs)) (replicate above v) m inside ∙ get_taken kept (drop dropped xs) m within ∙ get_dropped dropped xs m j d

-- ---- an array with other bounds

steps_are : (l o : ℤ) (k j : ℕ) → l +ℤ pos k ≡ o +ℤ pos j → steps_up l o ≡ k - j
steps_are l o k j e = grind (arith, ints)

some_within : (xs : List Value) (j : ℕ) → is_some (slice_get xs j) ≡ true → j < length xs
some_within [] j h = absurd (false≢true h)
some_within (x ∷ xs) zero h = omega arith
some_within (x ∷ xs) (suc j) h = let r = some_within xs j h in omega arith

-- in the bounds an item keeps its index
pub with_bounds_keeps : (a : ArrayContent) (b : Bounds) (i : ℤ) → is_within b i ≡ true → is_some (item_at a i) ≡ true
    → item_at (with_bounds a b.low b.size) i ≡ item_at a i
unfolding with_bounds
with_bounds_keeps a b i inside held = by_places (place b.low i) (place a.low i) where
  by_places : Place b.low i → Place a.low i → item_at (with_bounds a b.low b.size) i ≡ item_at a i
  by_places (inl below) r = absurd (false≢true (sym (not_within_below b i below) ∙ inside))
  by_places (inr r) (inl below) = absurd (false≢true (sym (ap is_some (item_below a i below)) ∙ held))
  by_places (inr (k, e)) (inr (j, f)) =
      let within : k < b.size = below_test _ _ (sym (within_place b k) ∙ ap (is_within b) (sym e) ∙ inside) in
      let own : j < length a.items = some_within a.items j (ap is_some (sym (item_at_place a j)) ∙ ap (λ q. is_some (item_at a q)) (sym f) ∙ held) in
      let up : steps_up b.low a.low ≡ k - j = steps_are b.low a.low k j (sym e ∙ f) in
      let down : steps_up a.low b.low ≡ j - k = steps_are a.low b.low j k (sym f ∙ e) in
      let dropped : items_below a b.low ≡ j - k = ap (λ n. min n (length a.items)) down ∙ omega arith in
      let new : new_below a b.low b.size ≡ k - j = ap (λ n. min n b.size) up ∙ omega arith in
      let kept : items_kept a b.low b.size ≡ min (b.size - (k - j)) (length a.items - (j - k)) =
      ap (λ n. min (b.size - n) (length a.items - items_below a b.low)) new ∙ ap (λ n. min (b.size - (k - j)) (length a.items - n)) dropped in
      ap (item_at (with_bounds a b.low b.size)) e ∙ item_at_place (with_bounds a b.low b.size) k
      ∙ ap (λ n. slice_get (replicate (new_below a b.low b.size) (plain_value a.kind) ++ (take (items_kept a b.low b.size) (drop n a.items) ++ replicate (new_above a b.low b.size) (plain_value a.kind))) k) dropped
      ∙ ap (λ n. slice_get (replicate n (plain_value a.kind) ++ (take (items_kept a b.low b.size) (drop (j - k) a.items) ++ replicate (new_above a b.low b.size) (plain_value a.kind))) k) new
      ∙ ap (λ n. slice_get (replicate (k - j) (plain_value a.kind) ++ (take n (drop (j - k) a.items) ++ replicate (new_above a b.low b.size) (plain_value a.kind))) k) kept
      ∙ kept_at (plain_value a.kind) a.items (j - k) (k - j) (min (b.size - (k - j)) (length a.items - (j - k))) (new_above a b.low b.size) (min k j) k j
      (omega arith) (omega arith) (omega arith) (omega arith)
      ∙ sym (item_at_place a j) ∙ ap (item_at a) (sym f)

pub bounds_with_bounds : (a : ArrayContent) (b : Bounds) → bounds_of (with_bounds a b.low b.size) ≡ b
unfolding with_bounds
bounds_with_bounds a b = ap (λ n. let c : Bounds = record { low = b.low; size = n } in c) (size_with_bounds a b.low b.size)

pub kind_with_bounds : (a : ArrayContent) (b : Bounds) → (with_bounds a b.low b.size).kind ≡ a.kind
unfolding with_bounds
kind_with_bounds a b = refl

-- to set the bounds and to store all items lays the overlay
pub laid_in_bounds : (a : ArrayContent) (o : ArrayChange) (b : Bounds) → ArrayFits a o → bounds_over a o.bounds ≡ b → stored_over (with_bounds a b.low b.size) o.items ≡ laid_array a o
laid_in_bounds a o b fits is =
    laid_is a o (stored_over w o.items) (stored_kind w o.items ∙ kind_with_bounds a b) (stored_bounds w o.items ∙ bounds_with_bounds a b ∙ sym is) each
  where
    w : ArrayContent
    w = with_bounds a b.low b.size

    by_change : (i : ℤ) (x : Option Value) → changed_at o.items i ≡ x → is_within b i ≡ true → is_some (item_over a o i) ≡ true
        → or_below (changed_at o.items i) (item_at w i) ≡ item_over a o i
    by_change i None e h held =
        ap (λ x. or_below x (item_at w i)) e
        ∙ with_bounds_keeps a b i h (ap (λ x. is_some (or_below x (item_at a i))) (sym e) ∙ held)
        ∙ sym (ap (λ x. or_below x (item_at a i)) e)
    by_change i (Some v) e h held = ap (λ x. or_below x (item_at w i)) e ∙ sym (ap (λ x. or_below x (item_at a i)) e)

    each : (i : ℤ) → is_within (bounds_over a o.bounds) i ≡ true → item_at (stored_over w o.items) i ≡ Some (item_or_zero (item_over a o i))
    each i h =
        let inside : is_within b i ≡ true = ap (λ c. is_within c i) (sym is) ∙ h in
        stored_items w o.items i (ap (λ c. is_within c i) (bounds_with_bounds a b) ∙ inside)
        ∙ by_change i (changed_at o.items i) refl inside (fits.held i h) ∙ sym (some_or_zero (item_over a o i) (fits.held i h))
