-- Indices by their distance from the lowest.
use Rattle.std.proofs.Common.{◌≡◌, ◌⊎◌, inl, inr, ℕ, set, true, false, None, refl, arith, pos, ◌+ℤ◌}
use Rattle.std.specs.Prelude.{ℤ, negsuc, ◌-ℤ◌, int_le, nat_lt, slice_get}
use Rattle.std.specs.Ordering.{int_cmp}
use Rattle.std.specs.BTreeMap.{is_at}
use Rattle.std.proofs.lemmas.Int.{ints}
use Rattle.std.proofs.lemmas.Bool.Decides.{nat_tests}
use Rattle.values.specs.declared.value.Value.{Value}
use Rattle.values.specs.Items.{ArrayContent, item_at, set_item}
use Rattle.overlays.specs.declared.bounds.Bounds.{Bounds}
use Rattle.overlays.specs.ArrayOverlays.{is_within}

abbrev pub Place : ℤ → ℤ → Type 0
Place low i = (int_le low i ≡ false) ⊎ ((k : ℕ) × (i ≡ low +ℤ pos k))

placed_by : (low i d : ℤ) → i -ℤ low ≡ d → Place low i
placed_by low i (pos k) e = inr (k, omega (arith, ints))
placed_by low i (negsuc k) e = inl (grind (arith, ints))

-- an index is below the lowest, or so far from it
pub place : (low i : ℤ) → Place low i
place low i = placed_by low i (i -ℤ low) refl

pub le_place : (low : ℤ) (k : ℕ) → int_le low (low +ℤ pos k) ≡ true
le_place low k = grind (arith, ints)

pub distance : (low : ℤ) (k : ℕ) → (low +ℤ pos k) -ℤ low ≡ pos k
distance low k = omega (arith, ints)

pub same_place : (low : ℤ) (j k : ℕ) → low +ℤ pos j ≡ low +ℤ pos k → j ≡ k
same_place low j k e = omega (arith, ints)

pub item_at_place : (a : ArrayContent) (k : ℕ) → item_at a (a.low +ℤ pos k) ≡ slice_get a.items k
item_at_place a k = rw (le_place a.low k) (rw (distance a.low k) refl)

pub item_below : (a : ArrayContent) (i : ℤ) → int_le a.low i ≡ false → item_at a i ≡ None
item_below a i h = rw h refl

pub set_item_place : (a : ArrayContent) (k : ℕ) (v : Value) → set_item a (a.low +ℤ pos k) v ≡ record a { items = set a.items k v }
set_item_place a k v = rw (le_place a.low k) (rw (distance a.low k) refl)

pub within_place : (b : Bounds) (k : ℕ) → is_within b (b.low +ℤ pos k) ≡ nat_lt k b.size
within_place b k = rw (le_place b.low k) (grind (arith, ints, nat_tests))

pub not_within_below : (b : Bounds) (i : ℤ) → int_le b.low i ≡ false → is_within b i ≡ false
not_within_below b i h = rw h refl

pub at_itself : (i : ℤ) → is_at (int_cmp i) i ≡ true
at_itself i = grind (arith, ints)

pub at_another : (i j : ℤ) → (i ≡ j → ⊥) → is_at (int_cmp i) j ≡ false
at_another i j h = grind (arith, ints)

pub is_same_index : (i j : ℤ) → is_at (int_cmp i) j ≡ true → i ≡ j
is_same_index i j h = grind (arith, ints)
