-- What an action changed of an object, by the type of what it holds.
use Rattle.std.specs.Prelude.{◌≡◌, ℕ, ℤ, pos, Bool, true, false, List, Option, Some, None, IsTrue, refl}
use Rattle.std.proofs.Common.{ap, sym, ◌∙◌}
use Rattle.values.specs.declared.value.Value.TheVariants.{Int}
use Rattle.values.specs.declared.value.Value.{Value}
use Rattle.values.specs.declared.record.Field.{Field}
use Rattle.values.specs.declared.content.Content.{Content}
use Rattle.values.specs.declared.content.Content.TheVariants.{Record, Array, Variant, Counter}
use Rattle.values.specs.Items.{ArrayContent, item_at}
use Rattle.atomic_types.specs.Operations.{Op}
use Rattle.atomic_types.specs.Arrays.{array_knows}
use Rattle.atomic_types.specs.declared.operation.Operation.TheVariants.{Add}
use Rattle.atomic_types.specs.Objects.{knows, reply_of, content_after}
use Rattle.atomic_types.specs.TypeLaws.{known_stay}
use Rattle.overlays.specs.declared.bounds.Bounds.{Bounds}
use Rattle.overlays.specs.declared.content.ContentOverlay.{ContentOverlay}
use Rattle.overlays.specs.declared.content.ContentOverlay.TheVariants as over
use Rattle.overlays.specs.Laws.{OverlaysKnow, FitsStay, AddsSum, WritesCover, AlwaysDone}
use Rattle.overlays.specs.RecordOverlays.{laid_fields, FieldsFit}
use Rattle.overlays.specs.RecordOverlayLaws.{record_overlays_know, record_always_done}
use Rattle.overlays.specs.ArrayOverlays.{ArrayChange, bounds_of, changed_at, laid_array, ArrayFits, array_overlays_know, array_always_done}
use Rattle.overlays.specs.VariantOverlays.{laid_tag, TagFits, variant_overlays_know, variant_always_done}
use Rattle.overlays.specs.CounterOverlays.{laid_number, NumberFits, counter_overlays_know, counter_adds_sum, counter_writes_cover, counter_always_done}

abbrev pub are_alike : Content → Content → Bool
are_alike (Record fields) (Record others) = true
are_alike (Array a) (Array b) = true
are_alike (Variant v) (Variant w) = true
are_alike (Counter n) (Counter m) = true
are_alike c d = false

-- the contents are of one type and have the same operations
pub record HaveSameOps (c d : Content) : Type 0 where
  pub alike : are_alike c d ≡ true
  pub knows_same : (op : Op) → knows d op ≡ knows c op

-- What an overlay of a type makes of an object. One of another type does not fit: it leaves nothing of the object,
-- whatever that held.
abbrev pub laid_record : Content → List Field → Content
laid_record (Record fields) o = Record (laid_fields fields o)
laid_record c o = Counter (pos 0)

abbrev pub laid_items : Content → ArrayChange → Content
laid_items (Array a) o = Array (laid_array a o)
laid_items c o = Counter (pos 0)

abbrev pub laid_variant : Content → Option (List ℕ × Value) → Content
laid_variant (Variant v) o = Variant (laid_tag v o)
laid_variant c o = Counter (pos 0)

abbrev pub laid_counter : Content → Option ℤ → Content
laid_counter (Counter n) o = Counter (laid_number n o)
laid_counter c o = Counter (pos 0)

-- the object under the overlay
abbrev pub laid_content : Content → ContentOverlay → Content
laid_content c (over.Nothing alloc) = c
laid_content c (over.Record o) = laid_record c o
laid_content c (over.Array o) = laid_items c o
laid_content c (over.Variant o) = laid_variant c o
laid_content c (over.Counter o) = laid_counter c o
laid_content c (over.Replaced d) = d

abbrev pub RecordFits : Content → List Field → Type 0
RecordFits (Record fields) o = FieldsFit fields o
RecordFits c o = ⊥

abbrev pub ItemsFit : Content → ArrayChange → Type 0
ItemsFit (Array a) o = ArrayFits a o
ItemsFit c o = ⊥

abbrev pub VariantFits : Content → Option (List ℕ × Value) → Type 0
VariantFits (Variant v) o = TagFits v o
VariantFits c o = ⊥

abbrev pub CounterFits : Content → Option ℤ → Type 0
CounterFits (Counter n) o = NumberFits n o
CounterFits c o = ⊥

-- the overlay may be laid on the object: it is of the object's type and fits, or it holds a content of the same
-- operations
abbrev pub ContentFits : Content → ContentOverlay → Type 0
ContentFits c (over.Nothing alloc) = Unit {0}
ContentFits c (over.Record o) = RecordFits c o
ContentFits c (over.Array o) = ItemsFit c o
ContentFits c (over.Variant o) = VariantFits c o
ContentFits c (over.Counter o) = CounterFits c o
ContentFits c (over.Replaced d) = HaveSameOps c d

abbrev pub is_something : ContentOverlay → Bool
is_something (over.Nothing alloc) = false
is_something _ = true

abbrev pub is_whole : ContentOverlay → Bool
is_whole (over.Replaced d) = true
is_whole _ = false

-- the object is an array
abbrev pub IsArray : Content → Type 0
IsArray c = (a : ArrayContent) × (c ≡ Array a)

-- it is one that has the operation, and on which the overlay may be laid
abbrev pub IsArrayUnder : Content → ArrayChange → Op → Type 0
IsArrayUnder c o op = (a : ArrayContent) × (c ≡ Array a) × ArrayFits a o × IsTrue (array_knows a op)

record_know : (c : Content) (o : List Field) (op : Op) → RecordFits c o
    → knows (laid_record c o) op ≡ knows c op
record_know (Record fields) o op h = record_overlays_know fields o op h
record_know _ o op h = absurd h

items_know : (c : Content) (o : ArrayChange) (op : Op) → ItemsFit c o
    → knows (laid_items c o) op ≡ knows c op
items_know (Array a) o op h = array_overlays_know a o op h
items_know _ o op h = absurd h

variant_know : (c : Content) (o : Option (List ℕ × Value)) (op : Op) → VariantFits c o
    → knows (laid_variant c o) op ≡ knows c op
variant_know (Variant v) o op h = variant_overlays_know v o op h
variant_know _ o op h = absurd h

counter_know : (c : Content) (o : Option ℤ) (op : Op) → CounterFits c o
    → knows (laid_counter c o) op ≡ knows c op
counter_know (Counter n) o op h = counter_overlays_know n o op h
counter_know _ o op h = absurd h

-- the bounds and the items that the overlay gives an array
abbrev pub bounds_held : Content → Option Bounds
bounds_held (Array a) = Some (bounds_of a)
bounds_held _ = None

abbrev pub bounds_given : ContentOverlay → Option Bounds
bounds_given (over.Array o) = o.bounds
bounds_given (over.Replaced d) = bounds_held d
bounds_given _ = None

abbrev pub item_held : Content → ℤ → Option Value
item_held (Array a) i = item_at a i
item_held _ i = None

abbrev pub item_given : ContentOverlay → ℤ → Option Value
item_given (over.Array o) i = changed_at o.items i
item_given (over.Replaced d) i = item_held d i
item_given _ i = None

pub content_overlays_know : OverlaysKnow knows laid_content ContentFits
content_overlays_know c (over.Nothing alloc) op h = refl
content_overlays_know c (over.Record o) op h = record_know c o op h
content_overlays_know c (over.Array o) op h = items_know c o op h
content_overlays_know c (over.Variant o) op h = variant_know c o op h
content_overlays_know c (over.Counter o) op h = counter_know c o op h
content_overlays_know c (over.Replaced d) op h = h.knows_same op

-- a number added leaves an object the type and the operations that it had
alike_added : (c d : Content) (z : ℤ) → are_alike (content_after c (Add (Int z))) d ≡ are_alike c d
alike_added (Record fields) d z = refl
alike_added (Array a) d z = refl
alike_added (Variant v) d z = refl
alike_added (Counter n) (Record fields) z = refl
alike_added (Counter n) (Array a) z = refl
alike_added (Counter n) (Variant v) z = refl
alike_added (Counter n) (Counter m) z = refl

knows_added : (c : Content) (z : ℤ) (op : Op)
    → knows (content_after c (Add (Int z))) op ≡ knows c op
knows_added (Record fields) z op = refl
knows_added (Array a) z op = refl
knows_added (Variant v) z op = refl
knows_added (Counter n) z op = known_stay (Counter n) (Add (Int z)) op refl

record_stays : (c : Content) (o : List Field) (z : ℤ) → RecordFits c o
    → RecordFits (content_after c (Add (Int z))) o
record_stays (Record fields) o z h = h
record_stays _ o z h = absurd h

items_stay : (c : Content) (o : ArrayChange) (z : ℤ) → ItemsFit c o
    → ItemsFit (content_after c (Add (Int z))) o
items_stay (Array a) o z h = h
items_stay _ o z h = absurd h

variant_stays : (c : Content) (o : Option (List ℕ × Value)) (z : ℤ) → VariantFits c o
    → VariantFits (content_after c (Add (Int z))) o
variant_stays (Variant v) o z h = h
variant_stays _ o z h = absurd h

counter_stays : (c : Content) (o : Option ℤ) (z : ℤ) → CounterFits c o
    → CounterFits (content_after c (Add (Int z))) o
counter_stays (Counter n) o z h = h
counter_stays _ o z h = absurd h

pub content_fits_stay : FitsStay content_after ContentFits
content_fits_stay c (over.Nothing alloc) z h = h
content_fits_stay c (over.Record o) z h = record_stays c o z h
content_fits_stay c (over.Array o) z h = items_stay c o z h
content_fits_stay c (over.Variant o) z h = variant_stays c o z h
content_fits_stay c (over.Counter o) z h = counter_stays c o z h
content_fits_stay c (over.Replaced d) z h =
    record { alike = alike_added c d z ∙ h.alike; knows_same = λ op. h.knows_same op ∙ sym (knows_added c z op) }

pub content_adds_sum : AddsSum content_after
content_adds_sum (Record fields) y z = refl
content_adds_sum (Array a) y z = refl
content_adds_sum (Variant v) y z = refl
content_adds_sum (Counter n) y z = ap (λ m. Counter m) (counter_adds_sum n y z)

pub content_writes_cover : WritesCover knows reply_of content_after
content_writes_cover (Record fields) z op known writes = (refl, refl)
content_writes_cover (Array a) z op known writes = (refl, refl)
content_writes_cover (Variant v) z op known writes = (refl, refl)
content_writes_cover (Counter n) z op known writes =
    let covered = counter_writes_cover n z op known writes in
    (ap (λ m. Counter m) covered.0, covered.1)

pub content_always_done : AlwaysDone reply_of
content_always_done (Record fields) op done = record_always_done fields op done
content_always_done (Array a) op done = array_always_done a op done
content_always_done (Variant v) op done = variant_always_done v op done
content_always_done (Counter n) op done = counter_always_done n op done
