-- Changed fields by their places.
use Rattle.std.proofs.Common.{◌≡◌, ℕ, zero, suc, ◌+◌, ◌<◌, List, [], ◌∷◌, ◌++◌, length, get_or, set, Bool, true, false, cond, Some, None, refl, sym, ap, ◌∙◌, arith}
use Rattle.std.proofs.lemmas.List.Quantifiers.{position-Some}
use Rattle.std.proofs.lemmas.Iterator.Adapters.{position_from-zero}
use Rattle.std.specs.List.{position, position_from}
use Rattle.std.specs.Cmp.Lexicographic.{same_text}
use Rattle.std.specs.Prelude.{pos}
use Rattle.values.specs.declared.value.Value.TheVariants.{Int}
use Rattle.values.specs.declared.record.Field.{Field}
use Rattle.values.specs.Words.{same_bytes}
use Rattle.values.specs.Contents.{field_value}
use Rattle.overlays.specs.RecordOverlays.{noted_field}

abbrev pub is_named : List ℕ → Field → Bool
is_named name f = same_bytes f.name name

absent_at : (b : Bool) (f : Field) (fields : List Field) (g : Field) (n : ℕ)
    → (position_from (is_named g.name) (n + 1) fields ≡ None → (field_value fields g.name ≡ None) × (noted_field fields g.name g.value ≡ fields ++ g ∷ []))
    → cond b (Some n) (position_from (is_named g.name) (n + 1) fields) ≡ None
    → (cond b (Some f.value) (field_value fields g.name) ≡ None) × (cond b (record { name = f.name; value = g.value } ∷ fields) (f ∷ noted_field fields g.name g.value) ≡ f ∷ (fields ++ g ∷ []))
absent_at true f fields g n later e = absurd (cc)
absent_at false f fields g n later e = let r = later e in (r.0, ap (λ fs. f ∷ fs) r.1)

absent : (fields : List Field) (g : Field) (n : ℕ) → position_from (is_named g.name) n fields ≡ None
    → (field_value fields g.name ≡ None) × (noted_field fields g.name g.value ≡ fields ++ g ∷ [])
absent [] g n e = (refl, refl)
absent (f ∷ fields) g n e = absent_at (is_named g.name f) f fields g n (absent fields g (n + 1)) e

present : (fields : List Field) (g : Field) (i : ℕ) (d : Field) → i < length fields → is_named g.name (get_or fields i d) ≡ true
    → ((k : ℕ) → k < i → is_named g.name (get_or fields k d) ≡ false)
    → (field_value fields g.name ≡ Some (get_or fields i d).value) × (set fields i g ≡ noted_field fields g.name g.value)
present [] g i d within here before = absurd (omega arith)
present (f ∷ fields) g zero d within here before =
    let same : f.name ≡ g.name = same_text f.name g.name (sym here) in
    (rw here refl, rw here (rw same refl))
present (f ∷ fields) g (suc i) d within here before =
    let first : is_named g.name f ≡ false = before 0 (omega arith) in
    let r = present fields g i d (omega arith) here (λ k h. before (suc k) (omega arith)) in
    (rw first r.0, rw first (ap (λ fs. f ∷ fs) r.1))

-- where a search found none of the name
pub unplaced : (fields : List Field) (g : Field) → position (is_named g.name) fields ≡ None
    → (field_value fields g.name ≡ None) × (noted_field fields g.name g.value ≡ fields ++ g ∷ [])
unplaced fields g e = absent fields g 0 (sym (position_from-zero (is_named g.name) fields) ∙ e)

-- where it found one at i
pub placed : (fields : List Field) (g : Field) (i : ℕ) (d : Field) → position (is_named g.name) fields ≡ Some i
    → (field_value fields g.name ≡ Some (get_or fields i d).value) × (set fields i g ≡ noted_field fields g.name g.value)
placed fields g i d e =
    let p = position-Some (is_named g.name) fields i d e in
    present fields g i d p.0 p.1 p.2

-- the value at a place that was found, and none where none was
pub value_unplaced : (fields : List Field) (name : List ℕ) → position (is_named name) fields ≡ None → field_value fields name ≡ None
value_unplaced fields name e = (unplaced fields (record { name = name; value = Int (pos 0) }) e).0

pub value_placed : (fields : List Field) (name : List ℕ) (i : ℕ) (d : Field) → position (is_named name) fields ≡ Some i → field_value fields name ≡ Some (get_or fields i d).value
value_placed fields name i d e = (placed fields (record { name = name; value = Int (pos 0) }) i d e).0
