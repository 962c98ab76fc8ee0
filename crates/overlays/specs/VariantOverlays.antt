-- What actions changed of a variant: its tag and value, if anything.
use Rattle.std.proofs.lemmas.Bool.{true≢false, false≢true}
use Rattle.std.specs.Prelude.{ℕ, Bool, true, false, List, IsTrue, IsFalse, Option, Some, None, refl}
use Rattle.values.specs.declared.value.Value.{Value}
use Rattle.values.specs.Values.{kind_of}
use Rattle.values.specs.Tags.{VariantContent, tag_kind, with_tag}
use Rattle.atomic_types.specs.declared.operation.Operation.TheVariants.{Is, ValueOf, Change}
use Rattle.atomic_types.specs.Operations.{Op, is_read}
use Rattle.atomic_types.specs.Variants.{tag_takes, variant_knows, variant_reply, variant_after}
use Rattle.overlays.specs.Laws.{OverlaysKnow, FitsStay, AddsSum, WritesCover, AlwaysDone}

-- the variant with this tag and value
abbrev pub laid_tag : VariantContent → Option (List ℕ × Value) → VariantContent
laid_tag v None = v
laid_tag v (Some t) = with_tag v t.0 t.1

-- the variant has the tag, and with a value of its kind
abbrev pub TagFits : VariantContent → Option (List ℕ × Value) → Type 0
TagFits v None = Unit {0}
TagFits v (Some t) = IsTrue (tag_takes (tag_kind v.tags t.0) (kind_of t.1))

pub variant_overlays_know : OverlaysKnow variant_knows laid_tag TagFits
variant_overlays_know v None op h = refl
variant_overlays_know v (Some t) (Is q) h = refl
variant_overlays_know v (Some t) (ValueOf q) h = refl
variant_overlays_know v (Some t) (Change q w) h = refl
variant_overlays_know v (Some t) _ h = refl

abbrev pub is_change : Op → Bool
is_change (Change tag v) = true
is_change _ = false

-- what writes to a variant changes it
pub variant_changes : (v : VariantContent) (op : Op) → IsTrue (variant_knows v op)
    → IsFalse (is_read op) → IsTrue (is_change op)
variant_changes v (Change tag w) known writes = refl
variant_changes v (Is tag) known writes = absurd (true≢false writes)
variant_changes v (ValueOf tag) known writes = absurd (true≢false writes)
variant_changes v _ known writes = absurd (false≢true known)

-- nothing adds to a variant
pub variant_fits_stay : FitsStay variant_after TagFits
variant_fits_stay v o z h = h

pub variant_adds_sum : AddsSum variant_after
variant_adds_sum v y z = refl

pub variant_writes_cover : WritesCover variant_knows variant_reply variant_after
variant_writes_cover v z op known writes = (refl, refl)

pub variant_always_done : AlwaysDone variant_reply
variant_always_done v (Is tag) done = absurd (false≢true done)
variant_always_done v (ValueOf tag) done = absurd (false≢true done)
variant_always_done v _ done = refl
