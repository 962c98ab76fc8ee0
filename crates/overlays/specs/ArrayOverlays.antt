-- What an action changed of an array: its bounds, if it changed them, and items.
use Rattle.std.proofs.lemmas.Bool.{false≢true}
use Rattle.std.specs.Prelude.{◌≡◌, ℕ, zero, suc, ℤ, pos, ◌+ℤ◌, ◌-ℤ◌, ◌≤ℤ◌, ◌≤◌, int_le, int_lt, nat_lt, Bool, true, false, ◌&&◌, List, [], ◌∷◌, length, Option, Some, None, is_some, refl, if◌then◌else◌}
use Rattle.std.specs.Ordering.{int_cmp}
use Rattle.std.specs.BTreeMap.{is_at}
use Rattle.std.specs.Map.{lookup}
use Rattle.values.specs.declared.value.Value.{Value}
use Rattle.values.specs.declared.value.Value.TheVariants.{Int}
use Rattle.values.specs.Values.{kind_of}
use Rattle.values.specs.Items.{ArrayContent, item_at, max_items, least_index, greatest_index}
use Rattle.atomic_types.specs.Operations.{Op}
use Rattle.atomic_types.specs.declared.operation.Operation.TheVariants.{Low, High, Size, Fetch, Store, AddHigh, AddLow, RemoveHigh, RemoveLow}
use Rattle.atomic_types.specs.declared.op.Reply.{Reply}
use Rattle.atomic_types.specs.Arrays.{array_knows, array_reply, array_after}
use Rattle.overlays.specs.declared.bounds.Bounds.{Bounds}
use Rattle.overlays.specs.RecordOverlays.{or_below}
use Rattle.overlays.specs.Overlays.{IsNotedIn}
use Rattle.overlays.specs.Laws.{OverlaysKnow, FitsStay, AddsSum, WritesCover, AlwaysDone}

-- the bounds that the array was given, if any, and the items that were put, each with its index
pub record ArrayChange : Type 0 where
  pub bounds : Option Bounds
  pub items : List (ℤ × Value)

-- the item that was put at an index
abbrev pub changed_at : List (ℤ × Value) → ℤ → Option Value
changed_at items i = lookup (is_at (int_cmp i)) items

abbrev pub bounds_of : ArrayContent → Bounds
bounds_of a = record { low = a.low; size = length a.items }

abbrev pub bounds_over : ArrayContent → Option Bounds → Bounds
bounds_over a None = bounds_of a
bounds_over a (Some b) = b

-- the index lies in the bounds
abbrev pub is_within : Bounds → ℤ → Bool
is_within b i = int_le b.low i && int_lt i (b.low +ℤ pos b.size)

-- the item that was put at an index, else the array's own
abbrev pub item_over : ArrayContent → ArrayChange → ℤ → Option Value
item_over a o i = or_below (changed_at o.items i) (item_at a i)

-- an item, and something in the place of one that there is not
abbrev pub item_or_zero : Option Value → Value
item_or_zero None = Int (pos 0)
item_or_zero (Some v) = v

-- the first n items
abbrev pub listed : (ℕ → Option Value) → ℕ → List Value
listed item zero = []
listed item (suc n) = item_or_zero (item zero) ∷ listed (λ k. item (suc k)) n

-- the items in the bounds, the lowest first
abbrev pub listed_in : Bounds → (ℤ → Option Value) → List Value
listed_in b item = listed (λ k. item (b.low +ℤ pos k)) b.size

-- the array with these bounds, and in them the items that were put, else its own
unfoldable pub laid_array : ArrayContent → ArrayChange → ArrayContent
laid_array a o = record {
  kind = a.kind;
  low = (bounds_over a o.bounds).low;
  items = listed_in (bounds_over a o.bounds) (item_over a o);
}

-- the bounds are within the limits of arrays
pub record AreLimited (b : Bounds) : Type 0 where
  pub size : b.size ≤ max_items
  pub low : least_index ≤ℤ b.low
  pub high : ((b.low +ℤ pos b.size) -ℤ pos 1) ≤ℤ greatest_index

abbrev pub AreLimitedWhere : Option Bounds → Type 0
AreLimitedWhere None = Unit {0}
AreLimitedWhere (Some b) = AreLimited b

-- new bounds are within the limits; in the bounds each index has an item, and only there items were put, of the
-- array's kind
pub record ArrayFits (a : ArrayContent) (o : ArrayChange) : Type 0 where
  pub limited : AreLimitedWhere o.bounds
  pub held : (i : ℤ) → is_within (bounds_over a o.bounds) i ≡ true
      → is_some (item_over a o i) ≡ true
  pub inside : (i : ℤ) → is_some (changed_at o.items i) ≡ true
      → is_within (bounds_over a o.bounds) i ≡ true
  pub of_kind : (i : ℤ) (v : Value) → changed_at o.items i ≡ Some v → kind_of v ≡ a.kind

-- the changes once other bounds were noted, and at an index that an item was put or taken
pub record IsNoted (o p : ArrayChange) (i : ℤ) (w : Option Value) (b : Option Bounds) : Type 0 where
  pub bounds : p.bounds ≡ b
  pub items : (q : ℤ)
      → changed_at p.items q ≡ (if is_at (int_cmp i) q then w else changed_at o.items q)

-- in what bounds the upper changes leave the lower ones
abbrev pub lies_in : Option Bounds → ℤ → Bool
lies_in None i = true
lies_in (Some b) i = is_within b i

-- the upper bounds, else the lower ones
abbrev pub upper_bounds : Option Bounds → Option Bounds → Option Bounds
upper_bounds None lower = lower
upper_bounds (Some b) lower = Some b

-- the items of the one list, as far as they lie in the bounds, over those of the other
abbrev pub put_over : Option Bounds → List (ℤ × Value) → List (ℤ × Value) → ℤ → Option Value
put_over within upper lower i =
    or_below (if lies_in within i then changed_at upper i else None) (changed_at lower i)

-- the upper changes joined into the lower ones
pub record AreJoined (lower upper joined : ArrayChange) : Type 0 where
  pub bounds : joined.bounds ≡ upper_bounds upper.bounds lower.bounds
  pub items : (i : ℤ) → changed_at joined.items i ≡ or_below (changed_at upper.items i)
      (if lies_in upper.bounds i then changed_at lower.items i else None)

-- an item more fits above the last, or below the first
abbrev pub room_above : Bounds → Bool
room_above b = nat_lt b.size max_items && int_lt ((b.low +ℤ pos b.size) -ℤ pos 1) greatest_index

abbrev pub room_below : Bounds → Bool
room_below b = nat_lt b.size max_items && int_lt least_index b.low

-- what was noted gives the operation's reply, and what it leaves, and still fits
abbrev pub IsAnswered : ArrayContent → ArrayChange → ArrayChange → Op → Reply → Type 0
IsAnswered a o p op r = IsNotedIn array_reply array_after laid_array ArrayFits a o p op r

abbrev pub is_fetch : Op → Bool
is_fetch (Fetch i) = true
is_fetch _ = false

-- the operation puts or removes an item
abbrev pub is_item_write : Op → Bool
is_item_write (Store i v) = true
is_item_write (AddHigh v) = true
is_item_write (AddLow v) = true
is_item_write RemoveHigh = true
is_item_write RemoveLow = true
is_item_write _ = false

-- the index at which the operation removes an item, where there is one
abbrev pub end_removed : Bounds → Op → Option ℤ
end_removed b RemoveHigh = Some ((b.low +ℤ pos b.size) -ℤ pos 1)
end_removed b RemoveLow = Some b.low
end_removed b _ = None

-- this is what the array has there, if it has an item
abbrev pub IsEnd : ArrayContent → Bounds → Op → Option Value → Type 0
IsEnd a b op item = (i : ℤ) → end_removed b op ≡ Some i → is_some (item_at a i) ≡ true
    → item ≡ item_at a i

pub array_overlays_know : OverlaysKnow array_knows laid_array ArrayFits
unfolding laid_array
array_overlays_know a o Low h = refl
array_overlays_know a o High h = refl
array_overlays_know a o Size h = refl
array_overlays_know a o (Fetch i) h = refl
array_overlays_know a o (Store i v) h = refl
array_overlays_know a o (AddHigh v) h = refl
array_overlays_know a o (AddLow v) h = refl
array_overlays_know a o RemoveHigh h = refl
array_overlays_know a o RemoveLow h = refl
array_overlays_know a o _ h = refl

-- nothing adds to an array
pub array_fits_stay : FitsStay array_after ArrayFits
array_fits_stay a o z h = h

pub array_adds_sum : AddsSum array_after
array_adds_sum a y z = refl

pub array_writes_cover : WritesCover array_knows array_reply array_after
array_writes_cover a z op known writes = (refl, refl)

pub array_always_done : AlwaysDone array_reply
array_always_done a Low done = absurd (false≢true done)
array_always_done a High done = absurd (false≢true done)
array_always_done a Size done = absurd (false≢true done)
array_always_done a (Fetch i) done = absurd (false≢true done)
array_always_done a (Store i v) done = absurd (false≢true done)
array_always_done a (AddHigh v) done = absurd (false≢true done)
array_always_done a (AddLow v) done = absurd (false≢true done)
array_always_done a RemoveHigh done = absurd (false≢true done)
array_always_done a RemoveLow done = absurd (false≢true done)
array_always_done a _ done = refl
