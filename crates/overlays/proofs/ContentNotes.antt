-- Operations noted in overlays of objects, by the type of what the object holds.
use Rattle.std.proofs.Common.{◌≡◌, List, true, refl, sym, ap, ◌∙◌}
use Rattle.std.specs.Prelude.{ℕ, ℤ, Option, Result, Ok, Err, IfOk, IsTrue}
use Rattle.std.proofs.lemmas.Bool.{false≢true}
use Rattle.values.specs.declared.value.Value.{Value}
use Rattle.values.specs.declared.value.Value.TheVariants.{Int}
use Rattle.atomic_types.specs.declared.operation.Operation.TheVariants.{Add}
use Rattle.values.specs.declared.record.Field.{Field}
use Rattle.values.specs.declared.content.Content.{Content}
use Rattle.values.specs.declared.content.Content.TheVariants.{Record, Array, Variant, Counter}
use Rattle.values.specs.Items.{ArrayContent}
use Rattle.values.specs.Tags.{VariantContent}
use Rattle.atomic_types.specs.Operations.{Op}
use Rattle.atomic_types.specs.declared.op.Reply.{Reply}
use Rattle.atomic_types.specs.Objects.{knows, reply_of, content_after}
use Rattle.atomic_types.specs.TypeLaws.{known_stay}
use Rattle.atomic_types.specs.Records.{record_knows, record_reply, record_after}
use Rattle.atomic_types.specs.Variants.{variant_knows, variant_reply, variant_after}
use Rattle.atomic_types.specs.Counters.{counter_reply, counter_after}
use Rattle.overlays.specs.declared.content.ContentOverlay.{ContentOverlay}
use Rattle.overlays.specs.declared.content.ContentOverlay.TheVariants as over
use Rattle.overlays.specs.Overlays.{Covers, IsNotedIn}
use Rattle.overlays.specs.RecordOverlays.{laid_fields, FieldsFit}
use Rattle.overlays.specs.ArrayOverlays.{ArrayChange, ArrayFits, IsAnswered}
use Rattle.overlays.specs.VariantOverlays.{laid_tag, TagFits}
use Rattle.overlays.specs.CounterOverlays.{laid_number, NumberFits}
use Rattle.overlays.specs.ContentOverlays.{laid_content, laid_record, laid_items, laid_variant, ContentFits, RecordFits, ItemsFit, VariantFits, CounterFits, HaveSameOps, are_alike}

abbrev pub IsNotedAt : Content → ContentOverlay → ContentOverlay → Op → Reply → Type 0
IsNotedAt c o p op r = IsNotedIn reply_of content_after laid_content ContentFits c o p op r

-- ---- an overlay of the object's type

pub fits_record : (o : List Field) (others : List Field) → ((fields : List Field) → FieldsFit fields o) → (c : Content) → are_alike c (Record others) ≡ true → RecordFits c o
fits_record o others h (Record fields) alike = h fields
fits_record o others h _ alike = absurd (false≢true alike)

pub fits_array : (o : ArrayChange) (b : ArrayContent) → ((a : ArrayContent) → ArrayFits a o) → (c : Content) → are_alike c (Array b) ≡ true → ItemsFit c o
fits_array o b h (Array a) alike = h a
fits_array o b h _ alike = absurd (false≢true alike)

pub fits_variant : (o : Option (List ℕ × Value)) (w : VariantContent) → ((v : VariantContent) → TagFits v o) → (c : Content) → are_alike c (Variant w) ≡ true → VariantFits c o
fits_variant o w h (Variant v) alike = h v
fits_variant o w h _ alike = absurd (false≢true alike)

-- ---- by types

pub noted_record : (c : Content) (o p : List Field) (op : Op) (r : Reply) → RecordFits c o → IsTrue (knows (laid_content c (over.Record o)) op)
    → ((fields : List Field) → FieldsFit fields o → IsTrue (record_knows (laid_fields fields o) op)
    → IsNotedIn record_reply record_after laid_fields FieldsFit fields o p op r)
    → IsNotedAt c (over.Record o) (over.Record p) op r
noted_record (Record fields) o p op r fits known noted =
    let n = noted fields fits known in
    record { replies = n.replies; leaves = ap (λ fs. Record fs) n.leaves; fits_still = n.fits_still }
noted_record _ o p op r fits known noted = absurd fits

pub noted_array : (c : Content) (o p : ArrayChange) (op : Op) (r : Reply) → ItemsFit c o
    → ((a : ArrayContent) → c ≡ Array a → IsAnswered a o p op r) → IsNotedAt c (over.Array o) (over.Array p) op r
noted_array (Array a) o p op r fits noted =
    let n = noted a refl in
    record { replies = n.replies; leaves = ap (λ b. Array b) n.leaves; fits_still = n.fits_still }
noted_array _ o p op r fits noted = absurd fits

pub noted_variant : (c : Content) (o p : Option (List ℕ × Value)) (op : Op) (r : Reply) → VariantFits c o → IsTrue (knows (laid_content c (over.Variant o)) op)
    → ((v : VariantContent) → TagFits v o → IsTrue (variant_knows (laid_tag v o) op)
    → IsNotedIn variant_reply variant_after laid_tag TagFits v o p op r)
    → IsNotedAt c (over.Variant o) (over.Variant p) op r
noted_variant (Variant v) o p op r fits known noted =
    let n = noted v fits known in
    record { replies = n.replies; leaves = ap (λ w. Variant w) n.leaves; fits_still = n.fits_still }
noted_variant _ o p op r fits known noted = absurd fits

pub noted_counter : (c : Content) (o p : Option ℤ) (op : Op) (r : Reply) → CounterFits c o
    → ((n : ℤ) → IsNotedIn counter_reply counter_after laid_number NumberFits n o p op r) → IsNotedAt c (over.Counter o) (over.Counter p) op r
noted_counter (Counter n) o p op r fits noted =
    let m = noted n in
    record { replies = m.replies; leaves = ap (λ k. Counter k) m.leaves; fits_still = m.fits_still }
noted_counter _ o p op r fits noted = absurd fits

alike_after : (c d : Content) (op : Op) → are_alike c (content_after d op) ≡ are_alike c d
alike_after (Record fields) (Record others) op = refl
alike_after (Record fields) (Array b) op = refl
alike_after (Record fields) (Variant w) op = refl
alike_after (Record fields) (Counter m) op = refl
alike_after (Array a) (Record others) op = refl
alike_after (Array a) (Array b) op = refl
alike_after (Array a) (Variant w) op = refl
alike_after (Array a) (Counter m) op = refl
alike_after (Variant v) (Record others) op = refl
alike_after (Variant v) (Array b) op = refl
alike_after (Variant v) (Variant w) op = refl
alike_after (Variant v) (Counter m) op = refl
alike_after (Counter n) (Record others) op = refl
alike_after (Counter n) (Array b) op = refl
alike_after (Counter n) (Variant w) op = refl
alike_after (Counter n) (Counter m) op = refl

pub noted_replaced : (c d e : Content) (op : Op) (r : Reply) → HaveSameOps c d → IsTrue (knows d op) → r ≡ reply_of d op → e ≡ content_after d op
    → IsNotedAt c (over.Replaced d) (over.Replaced e) op r
noted_replaced c d e op r same known replies leaves = record {
  replies = replies;
  leaves = leaves;
  fits_still = record {
    alike = ap (are_alike c) leaves ∙ alike_after c d op ∙ same.alike;
    knows_same = λ p. ap (λ x. knows x p) leaves ∙ known_stay d op p known ∙ same.knows_same p;
  };
}

-- ---- what covers what was added below

pub record_covers : (o : List Field) → Covers content_after laid_content (over.Record o)
record_covers o (Record fields) z = refl
record_covers o (Array a) z = refl
record_covers o (Variant v) z = refl
record_covers o (Counter n) z = refl

pub array_covers : (o : ArrayChange) → Covers content_after laid_content (over.Array o)
array_covers o (Record fields) z = refl
array_covers o (Array a) z = refl
array_covers o (Variant v) z = refl
array_covers o (Counter n) z = refl

pub variant_covers : (o : Option (List ℕ × Value)) → Covers content_after laid_content (over.Variant o)
variant_covers o (Record fields) z = refl
variant_covers o (Array a) z = refl
variant_covers o (Variant v) z = refl
variant_covers o (Counter n) z = refl

pub replaced_covers : (d : Content) → Covers content_after laid_content (over.Replaced d)
replaced_covers d c z = refl

same_number : (n m : ℤ) → Counter n ≡ Counter m → n ≡ m
same_number n m e = cc

pub counter_covers : (o : Option ℤ) → Covers counter_after laid_number o → Covers content_after laid_content (over.Counter o)
counter_covers o h (Record fields) z = refl
counter_covers o h (Array a) z = refl
counter_covers o h (Variant v) z = refl
counter_covers o h (Counter n) z = ap (λ m. Counter m) (h n z)

pub covers_counter : (o : Option ℤ) → Covers content_after laid_content (over.Counter o) → Covers counter_after laid_number o
covers_counter o h n z = same_number _ _ (h (Counter n) z)

-- two facts of what a success gives
pub both_if_ok : {X Y : Type 0} (P Q : X → Type 0) (r : Result X Y) → IfOk r P → IfOk r Q → IfOk r (λ x. P x × Q x)
both_if_ok P Q (Ok x) p q = (p, q)
both_if_ok P Q (Err y) p q = tt

-- ---- numbers added

record_left : (c : Content) (o : List Field) (z : ℤ) → RecordFits c o → laid_record c o ≡ content_after (laid_record c o) (Add (Int z))
record_left (Record fields) o z h = refl
record_left _ o z h = absurd h

items_left : (c : Content) (o : ArrayChange) (z : ℤ) → ItemsFit c o → laid_items c o ≡ content_after (laid_items c o) (Add (Int z))
items_left (Array a) o z h = refl
items_left _ o z h = absurd h

variant_left : (c : Content) (o : Option (List ℕ × Value)) (z : ℤ) → VariantFits c o → laid_variant c o ≡ content_after (laid_variant c o) (Add (Int z))
variant_left (Variant v) o z h = refl
variant_left _ o z h = absurd h

-- an overlay that covers what was added below, and is of no number, gives what adding leaves as it is
pub left_by_add : (c : Content) (o : ContentOverlay) (z : ℤ) → ((p : Option ℤ) → o ≡ over.Counter p → ⊥) → ((d : Content) → o ≡ over.Replaced d → ⊥)
    → Covers content_after laid_content o → ContentFits c o → laid_content c o ≡ content_after (laid_content c o) (Add (Int z))
left_by_add c (over.Nothing alloc) z h k covers fits = sym (covers c z)
left_by_add c (over.Record o) z h k covers fits = record_left c o z fits
left_by_add c (over.Array o) z h k covers fits = items_left c o z fits
left_by_add c (over.Variant o) z h k covers fits = variant_left c o z fits
left_by_add c (over.Counter o) z h k covers fits = absurd (h o refl)
left_by_add c (over.Replaced d) z h k covers fits = absurd (k d refl)
