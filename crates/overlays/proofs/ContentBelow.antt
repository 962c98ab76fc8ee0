-- What an overlay of an array shows of its bounds and items, and what it leaves to those below.
use Rattle.std.proofs.Common.{◌≡◌, List, true, Some, None, refl, sym, ap, ◌∙◌}
use Rattle.std.specs.Prelude.{ℕ, ℤ, Option, is_some}
use Rattle.std.proofs.lemmas.Bool.{false≢true}
use Rattle.std.proofs.lemmas.Option.{none-some, same_Some}
use Rattle.values.specs.declared.value.Value.{Value}
use Rattle.values.specs.declared.record.Field.{Field}
use Rattle.values.specs.declared.content.Content.{Content}
use Rattle.values.specs.declared.content.Content.TheVariants.{Record, Array, Variant, Counter}
use Rattle.values.specs.Items.{ArrayContent, item_at}
use Rattle.overlays.specs.declared.bounds.Bounds.{Bounds}
use Rattle.overlays.specs.declared.content.ContentOverlay.{ContentOverlay}
use Rattle.overlays.specs.declared.content.ContentOverlay.TheVariants as over
use Rattle.overlays.specs.ArrayOverlays.{ArrayChange, ArrayFits, bounds_of, bounds_over, laid_array}
use Rattle.overlays.specs.ContentOverlays.{laid_content, laid_record, laid_items, laid_variant, laid_counter, ContentFits, RecordFits, ItemsFit, VariantFits, CounterFits, are_alike, bounds_given, bounds_held, item_given, item_held}
use Rattle.overlays.proofs.ArrayLaws.{laid_bounds}
use Rattle.overlays.proofs.ArrayNotes.{changed_shows, unchanged_shows}

same_array : (a b : ArrayContent) → Array a ≡ Array b → a ≡ b
same_array a b e = cc

no_record : (c : Content) (o : List Field) (b : ArrayContent) → RecordFits c o → laid_record c o ≡ Array b → ⊥
no_record (Record fields) o b fits e = cc
no_record _ o b fits e = fits

no_variant : (c : Content) (o : Option (List ℕ × Value)) (b : ArrayContent) → VariantFits c o → laid_variant c o ≡ Array b → ⊥
no_variant (Variant v) o b fits e = cc
no_variant _ o b fits e = fits

no_counter : (c : Content) (o : Option ℤ) (b : ArrayContent) → CounterFits c o → laid_counter c o ≡ Array b → ⊥
no_counter (Counter n) o b fits e = cc
no_counter _ o b fits e = fits

-- the array below the overlay of one
array_items : (c : Content) (o : ArrayChange) (b : ArrayContent) → ItemsFit c o → laid_items c o ≡ Array b
    → (a : ArrayContent) × (c ≡ Array a) × ArrayFits a o × (laid_array a o ≡ b)
array_items (Array a) o b fits e = (a, refl, fits, same_array (laid_array a o) b e)
array_items _ o b fits e = absurd fits

array_alike : (c : Content) (b : ArrayContent) → are_alike c (Array b) ≡ true → (a : ArrayContent) × (c ≡ Array a)
array_alike (Array a) b h = (a, refl)
array_alike _ b h = absurd (false≢true h)

-- what lies below an array is one
pub array_below : (c : Content) (o : ContentOverlay) (b : ArrayContent) → ContentFits c o → laid_content c o ≡ Array b → (a : ArrayContent) × (c ≡ Array a)
array_below c (over.Nothing alloc) b fits e = (b, e)
array_below c (over.Record o) b fits e = absurd (no_record c o b fits e)
array_below c (over.Array o) b fits e = let r = array_items c o b fits e in (r.0, r.1)
array_below c (over.Variant o) b fits e = absurd (no_variant c o b fits e)
array_below c (over.Counter o) b fits e = absurd (no_counter c o b fits e)
array_below c (over.Replaced d) b fits e = array_alike c b (sym (ap (are_alike c) e) ∙ fits.alike)

-- ---- its bounds

pub bounds_shown : (c : Content) (o : ContentOverlay) (b : ArrayContent) (d : Bounds) → ContentFits c o → laid_content c o ≡ Array b → bounds_given o ≡ Some d → d ≡ bounds_of b
bounds_shown c (over.Array o) b d fits e given =
    let r = array_items c o b fits e in
    sym (laid_bounds r.0 o ∙ ap (bounds_over r.0) given) ∙ ap bounds_of r.3
bounds_shown c (over.Replaced x) b d fits e given = same_Some d (bounds_of b) (sym given ∙ ap bounds_held e)
bounds_shown c _ b d fits e given = absurd (none-some d given)

pub bounds_kept : (c : Content) (o : ContentOverlay) (b : ArrayContent) → ContentFits c o → laid_content c o ≡ Array b → bounds_given o ≡ None
    → (a : ArrayContent) × (c ≡ Array a) × (bounds_of a ≡ bounds_of b)
bounds_kept c (over.Nothing alloc) b fits e none = (b, e, refl)
bounds_kept c (over.Record o) b fits e none = absurd (no_record c o b fits e)
bounds_kept c (over.Array o) b fits e none =
    let r = array_items c o b fits e in
    (r.0, r.1, sym (laid_bounds r.0 o ∙ ap (bounds_over r.0) none) ∙ ap bounds_of r.3)
bounds_kept c (over.Variant o) b fits e none = absurd (no_variant c o b fits e)
bounds_kept c (over.Counter o) b fits e none = absurd (no_counter c o b fits e)
bounds_kept c (over.Replaced x) b fits e none = absurd (none-some (bounds_of b) (sym none ∙ ap bounds_held e))

-- ---- its items

pub item_shown : (c : Content) (o : ContentOverlay) (b : ArrayContent) (i : ℤ) (v : Value) → ContentFits c o → laid_content c o ≡ Array b → item_given o i ≡ Some v
    → Some v ≡ item_at b i
item_shown c (over.Array o) b i v fits e given =
    let r = array_items c o b fits e in
    sym (changed_shows r.0 o i v r.2 given) ∙ ap (λ (a : ArrayContent). item_at a i) r.3
item_shown c (over.Replaced x) b i v fits e given = sym given ∙ ap (λ d. item_held d i) e
item_shown c _ b i v fits e given = absurd (none-some v given)

pub item_kept : (c : Content) (o : ContentOverlay) (b : ArrayContent) (i : ℤ) → ContentFits c o → laid_content c o ≡ Array b → item_given o i ≡ None → is_some (item_at b i) ≡ true
    → (a : ArrayContent) × (c ≡ Array a) × (item_at a i ≡ item_at b i)
item_kept c (over.Nothing alloc) b i fits e none held = (b, e, refl)
item_kept c (over.Record o) b i fits e none held = absurd (no_record c o b fits e)
item_kept c (over.Array o) b i fits e none held =
    let r = array_items c o b fits e in
    let same = ap (λ (a : ArrayContent). item_at a i) r.3 in
    (r.0, r.1, sym (unchanged_shows r.0 o i r.2 none (ap is_some same ∙ held)) ∙ same)
item_kept c (over.Variant o) b i fits e none held = absurd (no_variant c o b fits e)
item_kept c (over.Counter o) b i fits e none held = absurd (no_counter c o b fits e)
item_kept c (over.Replaced x) b i fits e none held = absurd (false≢true (sym (ap is_some (sym (ap (λ d. item_held d i) e) ∙ none)) ∙ held))
