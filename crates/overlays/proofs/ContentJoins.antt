-- Overlays of objects: what they show, joined, and what covers what was added below, by the type of what the object holds.
use Rattle.std.proofs.Common.{◌≡◌, ◌⊎◌, inl, inr, List, [], ◌∷◌, true, false, not, refl, sym, ap, subst, ◌∙◌, pos}
use Rattle.std.specs.Prelude.{ℕ, ℤ, Option, Result, Ok, Err, OnOk, IsTrue, IsFalse}
use Rattle.std.proofs.Common.{Global}
use Rattle.std.specs.Int.{int_wrap}
use Rattle.std.proofs.lemmas.Bool.{true≢false, false≢true}
use Rattle.values.specs.declared.value.Value.{Value}
use Rattle.values.specs.declared.record.Field.{Field}
use Rattle.values.specs.declared.content.Content.{Content}
use Rattle.values.specs.declared.content.Content.TheVariants.{Record, Array, Variant, Counter}
use Rattle.values.specs.Items.{ArrayContent}
use Rattle.values.specs.Tags.{VariantContent}
use Rattle.atomic_types.specs.Operations.{Op, is_read}
use Rattle.atomic_types.specs.Objects.{knows, reply_of, content_after}
use Rattle.atomic_types.specs.Records.{record_knows, record_reply}
use Rattle.atomic_types.specs.Arrays.{array_knows, array_reply}
use Rattle.atomic_types.specs.Variants.{variant_knows, variant_reply}
use Rattle.atomic_types.specs.Counters.{counter_knows, counter_reply}
use Rattle.overlays.specs.declared.seen.Seen.{Seen}
use Rattle.overlays.specs.declared.content.ContentOverlay.{ContentOverlay}
use Rattle.overlays.specs.declared.content.ContentOverlay.TheVariants as over
use Rattle.overlays.specs.Overlays.{laid_all, AllFit, Covers, MayJoin, shown}
use Rattle.overlays.specs.RecordOverlays.{laid_fields, FieldsFit, is_set}
use Rattle.overlays.specs.RecordOverlayLaws.{record_sets}
use Rattle.overlays.specs.ArrayOverlays.{ArrayChange, ArrayFits, laid_array, array_overlays_know}
use Rattle.overlays.specs.VariantOverlays.{laid_tag, TagFits, is_change, variant_changes}
use Rattle.overlays.specs.CounterOverlays.{laid_number, NumberFits, counter_knows_any}
use Rattle.overlays.specs.ContentOverlays.{laid_content, laid_record, laid_items, laid_variant, laid_counter, ContentFits, RecordFits, ItemsFit, VariantFits, CounterFits, HaveSameOps, are_alike, is_something, is_whole, content_overlays_know}

-- ---- what an overlay shows of a reply

pub peeked_record : (o : List Field) (op : Op) (seen : Seen)
    → ((fields : List Field) → FieldsFit fields o → IsTrue (record_knows fields op) → record_reply (laid_fields fields o) op ≡ shown seen (record_reply fields op))
    → (c : Content) → RecordFits c o → IsTrue (knows c op) → reply_of (laid_record c o) op ≡ shown seen (reply_of c op)
peeked_record o op seen h (Record fields) fits known = h fields fits known
peeked_record o op seen h _ fits known = absurd fits

pub peeked_array : (o : ArrayChange) (op : Op) (seen : Seen)
    → ((a : ArrayContent) → ArrayFits a o → IsTrue (array_knows a op) → array_reply (laid_array a o) op ≡ shown seen (array_reply a op))
    → (c : Content) → ItemsFit c o → IsTrue (knows c op) → reply_of (laid_items c o) op ≡ shown seen (reply_of c op)
peeked_array o op seen h (Array a) fits known = h a fits known
peeked_array o op seen h _ fits known = absurd fits

pub peeked_variant : (o : Option (List ℕ × Value)) (op : Op) (seen : Seen)
    → ((v : VariantContent) → TagFits v o → IsTrue (variant_knows v op) → variant_reply (laid_tag v o) op ≡ shown seen (variant_reply v op))
    → (c : Content) → VariantFits c o → IsTrue (knows c op) → reply_of (laid_variant c o) op ≡ shown seen (reply_of c op)
peeked_variant o op seen h (Variant v) fits known = h v fits known
peeked_variant o op seen h _ fits known = absurd fits

pub peeked_counter : (o : Option ℤ) (op : Op) (seen : Seen)
    → ((n : ℤ) → NumberFits n o → IsTrue (counter_knows n op) → counter_reply (laid_number n o) op ≡ shown seen (counter_reply n op))
    → (c : Content) → CounterFits c o → IsTrue (knows c op) → reply_of (laid_counter c o) op ≡ shown seen (reply_of c op)
peeked_counter o op seen h (Counter n) fits known = h n fits known
peeked_counter o op seen h _ fits known = absurd fits

-- ---- operations that write

pub record_writes : (c : Content) (o : List Field) (op : Op) → RecordFits c o → IsTrue (knows (laid_record c o) op) → IsFalse (is_read op) → IsTrue (is_set op)
record_writes (Record fields) o op fits known writes = record_sets (laid_fields fields o) op known writes
record_writes _ o op fits known writes = absurd fits

pub variant_writes : (c : Content) (o : Option (List ℕ × Value)) (op : Op) → VariantFits c o → IsTrue (knows (laid_variant c o) op) → IsFalse (is_read op) → IsTrue (is_change op)
variant_writes (Variant v) o op fits known writes = variant_changes (laid_tag v o) op known writes
variant_writes _ o op fits known writes = absurd fits

pub counter_knows_it : (c : Content) (o : Option ℤ) (op : Op) → CounterFits c o → IsTrue (knows (laid_counter c o) op) → IsTrue (counter_knows (pos 0) op)
counter_knows_it (Counter n) o op fits known = counter_knows_any (laid_number n o) (pos 0) op known
counter_knows_it _ o op fits known = absurd fits

-- the array under the overlay
pub array_under : (c : Content) (o : ArrayChange) (op : Op) → ItemsFit c o → IsTrue (knows (laid_items c o) op)
    → (a : ArrayContent) × (c ≡ Array a) × ArrayFits a o × IsTrue (array_knows a op)
array_under (Array a) o op fits known = (a, refl, fits, sym (array_overlays_know a o op fits) ∙ known)
array_under _ o op fits known = absurd fits

-- ---- joined

pub may_join_records : (l u : List Field) → MayJoin laid_content ContentFits (over.Record l) (over.Record u) → MayJoin laid_fields FieldsFit l u
may_join_records l u (c, low, high) = by_type c low high where
  by_type : (c : Content) → RecordFits c l → RecordFits (laid_record c l) u → MayJoin laid_fields FieldsFit l u
  by_type (Record fields) low high = (fields, low, high)
  by_type _ low high = absurd low

pub may_join_arrays : (l u : ArrayChange) → MayJoin laid_content ContentFits (over.Array l) (over.Array u) → MayJoin laid_array ArrayFits l u
may_join_arrays l u (c, low, high) = by_type c low high where
  by_type : (c : Content) → ItemsFit c l → ItemsFit (laid_items c l) u → MayJoin laid_array ArrayFits l u
  by_type (Array a) low high = (a, low, high)
  by_type _ low high = absurd low

pub may_join_variants : (l u : Option (List ℕ × Value)) → MayJoin laid_content ContentFits (over.Variant l) (over.Variant u) → MayJoin laid_tag TagFits l u
may_join_variants l u (c, low, high) = by_type c low high where
  by_type : (c : Content) → VariantFits c l → VariantFits (laid_variant c l) u → MayJoin laid_tag TagFits l u
  by_type (Variant v) low high = (v, low, high)
  by_type _ low high = absurd low

pub may_join_counters : (l u : Option ℤ) → MayJoin laid_content ContentFits (over.Counter l) (over.Counter u) → MayJoin laid_number NumberFits l u
may_join_counters l u (c, low, high) = by_type c low high where
  by_type : (c : Content) → CounterFits c l → CounterFits (laid_counter c l) u → MayJoin laid_number NumberFits l u
  by_type (Counter n) low high = (n, low, high)
  by_type _ low high = absurd low

-- one overlay does on each object that takes both what they do
abbrev pub Joins : ContentOverlay → ContentOverlay → ContentOverlay → Type 0
Joins l u p = (c : Content) → ContentFits c l → ContentFits (laid_content c l) u → (laid_content c p ≡ laid_content (laid_content c l) u) × ContentFits c p

pub joined_records : (l u p : List Field)
    → ((fields : List Field) → FieldsFit fields l → FieldsFit (laid_fields fields l) u → laid_fields fields p ≡ laid_fields (laid_fields fields l) u)
    → ((fields : List Field) → FieldsFit fields l → FieldsFit (laid_fields fields l) u → FieldsFit fields p)
    → Joins (over.Record l) (over.Record u) (over.Record p)
joined_records l u p same fits (Record fields) low high = (ap (λ fs. Record fs) (same fields low high), fits fields low high)
joined_records l u p same fits _ low high = absurd low

pub joined_arrays : (l u p : ArrayChange)
    → ((a : ArrayContent) → ArrayFits a l → ArrayFits (laid_array a l) u → laid_array a p ≡ laid_array (laid_array a l) u)
    → ((a : ArrayContent) → ArrayFits a l → ArrayFits (laid_array a l) u → ArrayFits a p)
    → Joins (over.Array l) (over.Array u) (over.Array p)
joined_arrays l u p same fits (Array a) low high = (ap (λ b. Array b) (same a low high), fits a low high)
joined_arrays l u p same fits _ low high = absurd low

pub joined_variants : (l u p : Option (List ℕ × Value))
    → ((v : VariantContent) → TagFits v l → TagFits (laid_tag v l) u → laid_tag v p ≡ laid_tag (laid_tag v l) u)
    → ((v : VariantContent) → TagFits v l → TagFits (laid_tag v l) u → TagFits v p)
    → Joins (over.Variant l) (over.Variant u) (over.Variant p)
joined_variants l u p same fits (Variant v) low high = (ap (λ w. Variant w) (same v low high), fits v low high)
joined_variants l u p same fits _ low high = absurd low

pub joined_counters : (l u p : Option ℤ)
    → ((n : ℤ) → NumberFits n l → NumberFits (laid_number n l) u → laid_number n p ≡ laid_number (laid_number n l) u)
    → Joins (over.Counter l) (over.Counter u) (over.Counter p)
joined_counters l u p same (Counter n) low high = (ap (λ m. Counter m) (same n low high), tt)
joined_counters l u p same _ low high = absurd low

-- under an overlay that fits an object keeps its type
alike_record : (b c : Content) (o : List Field) → RecordFits c o → are_alike b (laid_record c o) ≡ are_alike b c
alike_record (Record others) (Record fields) o fits = refl
alike_record (Array a) (Record fields) o fits = refl
alike_record (Variant v) (Record fields) o fits = refl
alike_record (Counter n) (Record fields) o fits = refl
alike_record b _ o fits = absurd fits

alike_array : (b c : Content) (o : ArrayChange) → ItemsFit c o → are_alike b (laid_items c o) ≡ are_alike b c
alike_array (Record others) (Array a) o fits = refl
alike_array (Array b) (Array a) o fits = refl
alike_array (Variant v) (Array a) o fits = refl
alike_array (Counter n) (Array a) o fits = refl
alike_array b _ o fits = absurd fits

alike_variant : (b c : Content) (o : Option (List ℕ × Value)) → VariantFits c o → are_alike b (laid_variant c o) ≡ are_alike b c
alike_variant (Record others) (Variant v) o fits = refl
alike_variant (Array a) (Variant v) o fits = refl
alike_variant (Variant w) (Variant v) o fits = refl
alike_variant (Counter n) (Variant v) o fits = refl
alike_variant b _ o fits = absurd fits

alike_counter : (b c : Content) (o : Option ℤ) → CounterFits c o → are_alike b (laid_counter c o) ≡ are_alike b c
alike_counter (Record others) (Counter n) o fits = refl
alike_counter (Array a) (Counter n) o fits = refl
alike_counter (Variant v) (Counter n) o fits = refl
alike_counter (Counter m) (Counter n) o fits = refl
alike_counter b _ o fits = absurd fits

alike_trans : (b c d : Content) → are_alike c d ≡ true → are_alike b d ≡ are_alike b c
alike_trans b (Record x) (Record y) h = by_type b where
  by_type : (b : Content) → are_alike b (Record y) ≡ are_alike b (Record x)
  by_type (Record z) = refl
  by_type (Array z) = refl
  by_type (Variant z) = refl
  by_type (Counter z) = refl
alike_trans b (Array x) (Array y) h = by_type b where
  by_type : (b : Content) → are_alike b (Array y) ≡ are_alike b (Array x)
  by_type (Record z) = refl
  by_type (Array z) = refl
  by_type (Variant z) = refl
  by_type (Counter z) = refl
alike_trans b (Variant x) (Variant y) h = by_type b where
  by_type : (b : Content) → are_alike b (Variant y) ≡ are_alike b (Variant x)
  by_type (Record z) = refl
  by_type (Array z) = refl
  by_type (Variant z) = refl
  by_type (Counter z) = refl
alike_trans b (Counter x) (Counter y) h = by_type b where
  by_type : (b : Content) → are_alike b (Counter y) ≡ are_alike b (Counter x)
  by_type (Record z) = refl
  by_type (Array z) = refl
  by_type (Variant z) = refl
  by_type (Counter z) = refl
alike_trans b _ _ h = absurd (false≢true h)

pub alike_laid : (b c : Content) (o : ContentOverlay) → ContentFits c o → are_alike b (laid_content c o) ≡ are_alike b c
alike_laid b c (over.Nothing alloc) fits = refl
alike_laid b c (over.Record o) fits = alike_record b c o fits
alike_laid b c (over.Array o) fits = alike_array b c o fits
alike_laid b c (over.Variant o) fits = alike_variant b c o fits
alike_laid b c (over.Counter o) fits = alike_counter b c o fits
alike_laid b c (over.Replaced d) fits = alike_trans b c d fits.alike

pub alike_all : (b c : Content) (os : List ContentOverlay) → AllFit laid_content ContentFits c os → are_alike b (laid_all laid_content c os) ≡ are_alike b c
alike_all b c [] fits = refl
alike_all b c (o ∷ os) fits = alike_all b (laid_content c o) os fits.1 ∙ alike_laid b c o fits.0

-- ---- a content in the place of another

-- what is laid on it belongs to it
pub same_ops_laid : (c d : Content) (o : ContentOverlay) → HaveSameOps c d → ContentFits d o → HaveSameOps c (laid_content d o)
same_ops_laid c d o same fits = record {
  alike = alike_laid c d o fits ∙ same.alike;
  knows_same = λ op. content_overlays_know d o op fits ∙ same.knows_same op;
}

alike_back : (c d : Content) → are_alike c d ≡ true → are_alike d c ≡ true
alike_back (Record x) (Record y) h = refl
alike_back (Array x) (Array y) h = refl
alike_back (Variant x) (Variant y) h = refl
alike_back (Counter x) (Counter y) h = refl
alike_back _ _ h = absurd (false≢true h)

-- and what takes the place of an object under an overlay may take the object's
pub same_ops_below : (c d : Content) (o : ContentOverlay) → ContentFits c o → HaveSameOps (laid_content c o) d → HaveSameOps c d
same_ops_below c d o fits same = record {
  alike = alike_back d c (sym (alike_laid d c o fits) ∙ alike_back (laid_content c o) d same.alike);
  knows_same = λ op. same.knows_same op ∙ content_overlays_know c o op fits;
}

-- where the lower overlay changes nothing, or the upper one leaves nothing of what lies below, the upper one is all
pub joined_upper : (l u : ContentOverlay) → (is_something l ≡ false) ⊎ (is_whole u ≡ true) → Joins l u u
joined_upper (over.Nothing alloc) u h c low high = (refl, high)
joined_upper l (over.Replaced d) h c low high = (refl, same_ops_below c d l low high)
joined_upper l u (inl e) c low high = absurd (true≢false e)
joined_upper l u (inr e) c low high = absurd (false≢true e)

-- ---- an overlay that changes nothing shows what was added below

pub nothing_covers_not : (o : ContentOverlay) → is_something o ≡ false → Covers content_after laid_content o → ⊥
unfolding int_wrap
nothing_covers_not (over.Nothing alloc) e h = one_is_not (h (Counter (pos 0)) (pos 1)) where
  one_is_not : Counter (pos 1) ≡ Counter (pos 0) → ⊥
  one_is_not e = cc
nothing_covers_not _ e h = absurd (true≢false e)

pub not_something : (o : ContentOverlay) → not (is_something o) ≡ true → is_something o ≡ false
not_something (over.Nothing alloc) h = refl
not_something _ h = absurd (false≢true h)

-- ---- for the code

-- what follows from two facts of a success
pub both_ok : {X Y P Q R : Type 0} (r : Result X Y) → (P → Q → R) → OnOk r P → OnOk r Q → OnOk r R
both_ok (Ok x) f p q = f p q
both_ok (Err y) f p q = tt

pub either_ok : {X Y P Q : Type 0} (r : Result X Y) → (P → Q) → OnOk r P → OnOk r Q
either_ok (Ok x) f p = f p
either_ok (Err y) f p = tt

-- what takes the lower overlay and the upper one takes the joined one
abbrev pub FitJoined : ContentOverlay → ContentOverlay → ContentOverlay → Type 0
FitJoined l u p = (c : Content) → ContentFits c l → ContentFits (laid_content c l) u → ContentFits c p

pub fit_joined : (l u k v p q : ContentOverlay) → l ≡ k → u ≡ v → p ≡ q → Joins k v q → FitJoined l u p
fit_joined l u k v p q e d f joins = λ c low high.
    subst (ContentFits c) (sym f) (joins c (subst (ContentFits c) e low) (subst (λ o. ContentFits (laid_content c k) o) d (subst (λ o. ContentFits (laid_content c o) u) e high))).1

pub joined_lower : (l : ContentOverlay) (alloc : Global) → Joins l (over.Nothing alloc) l
joined_lower l alloc c low high = (refl, low)

pub joined_replaced : (d e : Content) (u : ContentOverlay) → ContentFits d u → e ≡ laid_content d u → Joins (over.Replaced d) u (over.Replaced e)
joined_replaced d e u fits is c low high = (is, subst (HaveSameOps c) (sym is) (same_ops_laid c d u low fits))

pub covers_nothing : (u l : ContentOverlay) (alloc : Global) → u ≡ over.Nothing alloc → Covers content_after laid_content u → Covers content_after laid_content l
covers_nothing u l alloc e h = absurd (nothing_covers_not u (ap is_something e) h)

pub covers_as : (u l v m : ContentOverlay) → u ≡ v → l ≡ m → (Covers content_after laid_content v → Covers content_after laid_content m)
    → Covers content_after laid_content u → Covers content_after laid_content l
covers_as u l v m e d f h = subst (Covers content_after laid_content) (sym d) (f (subst (Covers content_after laid_content) e h))

-- some content takes both
pub fits_replaced : (d : Content) (u : ContentOverlay) → MayJoin laid_content ContentFits (over.Replaced d) u → ContentFits d u
fits_replaced d u (c, low, high) = high

pub alike_self : (c : Content) → are_alike c c ≡ true
alike_self (Record x) = refl
alike_self (Array x) = refl
alike_self (Variant x) = refl
alike_self (Counter x) = refl

pub alike_base : (base : Content) (os : List ContentOverlay) → AllFit laid_content ContentFits base os → are_alike (laid_all laid_content base os) base ≡ true
alike_base base os fits = alike_back base (laid_all laid_content base os) (alike_all base base os fits ∙ alike_self base)

pub is_not_nothing : (o : ContentOverlay) → ((alloc : Global) → o ≡ over.Nothing alloc → ⊥) → is_something o ≡ true
is_not_nothing (over.Nothing alloc) h = absurd (h alloc refl)
is_not_nothing _ h = refl
