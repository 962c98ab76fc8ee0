-- The laws of a record's overlays.
use Rattle.std.proofs.Common.{◌≡◌, ℕ, Bool, true, false, List, [], ◌∷◌, ◌++◌, refl, sym, ap, ◌∙◌}
use Rattle.std.proofs.lemmas.Bool.{true≢false, false≢true}
use Rattle.std.specs.Prelude.{IsTrue, IsFalse, Option, Some, None, is_some}
use Rattle.std.specs.Cmp.Lexicographic.{nat_list_eq_equiv, same_text}
use Rattle.values.specs.declared.value.Value.{Value}
use Rattle.values.specs.declared.record.Field.{Field}
use Rattle.values.specs.Words.{same_bytes}
use Rattle.values.specs.Contents.{field_value, set_field}
use Rattle.atomic_types.specs.Operations.{Op, is_read}
use Rattle.atomic_types.specs.declared.operation.Operation.TheVariants.{Get, Set}
use Rattle.overlays.specs.Laws.{OverlaysKnow, FitsStay, AddsSum, WritesCover, AlwaysDone}
use Rattle.atomic_types.specs.Records.{takes, record_knows, record_reply, record_after}
use Rattle.overlays.specs.RecordOverlays.{laid_fields, FieldsFit, is_set, noted_field, noted_fields, or_below}
use Rattle.atomic_types.specs.TypeLaws.{record_known_stay}

-- a name that two names are compared with tells them apart
turned : (a b c : List ℕ) → same_bytes a b ≡ true → same_bytes a c ≡ same_bytes b c
turned a b c = nat_list_eq_equiv.congr a b c

-- of two values of one field the later one counts
set_twice : (fields : List Field) (n : List ℕ) (v w : Value)
    → set_field (set_field fields n v) n w ≡ set_field fields n w
set_twice [] n v w = refl
set_twice (f ∷ fields) n v w = by_case (set_twice fields n v w) (same_bytes f.name n) refl where
  by_case : set_field (set_field fields n v) n w ≡ set_field fields n w
      → (t : Bool) → same_bytes f.name n ≡ t
      → set_field (set_field (f ∷ fields) n v) n w ≡ set_field (f ∷ fields) n w
  by_case later true e = rw (e, e) refl
  by_case later false e = rw (e, e) (ap (λ fs. f ∷ fs) later)

-- values of two fields come in either order
set_commutes : (fields : List Field) (m n : List ℕ) (v w : Value) → same_bytes m n ≡ false
    → set_field (set_field fields m v) n w ≡ set_field (set_field fields n w) m v
set_commutes [] m n v w h = refl
set_commutes (f ∷ fields) m n v w h =
    by_case (set_commutes fields m n v w h) (same_bytes f.name m)
    (same_bytes f.name n) refl refl where
      by_case : set_field (set_field fields m v) n w ≡ set_field (set_field fields n w) m v
          → (s t : Bool) → same_bytes f.name m ≡ s → same_bytes f.name n ≡ t
          → set_field (set_field (f ∷ fields) m v) n w ≡ set_field (set_field (f ∷ fields) n w) m v
      by_case later true true d e = absurd (true≢false (sym e ∙ turned f.name m n d ∙ h))
      by_case later true false d e = simp (d, e)
      by_case later false true d e = simp (d, e)
      by_case later false false d e = simp (d, e) (ap (λ fs. f ∷ fs) later)

-- a noted field gives the record the value that was set
pub laid_noted : (fields changed : List Field) (n : List ℕ) (v : Value)
    → laid_fields fields (noted_field changed n v) ≡ set_field (laid_fields fields changed) n v
laid_noted fields [] n v = refl
laid_noted fields (f ∷ changed) n v =
    by_case (laid_noted fields changed n v) (same_bytes f.name n) refl where
      by_case :
          laid_fields fields (noted_field changed n v) ≡ set_field (laid_fields fields changed) n v
          → (t : Bool) → same_bytes f.name n ≡ t
          → laid_fields fields (noted_field (f ∷ changed) n v)
          ≡ set_field (laid_fields fields (f ∷ changed)) n v
      by_case later true e = let same : f.name ≡ n = same_text f.name n (sym e) in
          rw e (rw same (sym (set_twice (laid_fields fields changed) n f.value v)))
      by_case later false e = rw e (ap (λ fs. set_field fs f.name f.value) later
          ∙ sym (set_commutes (laid_fields fields changed) f.name n f.value v e))

-- all upper ones noted are the upper ones laid on the lower ones laid
pub laid_noted_all : (fields lower upper : List Field)
    → laid_fields fields (noted_fields lower upper) ≡ laid_fields (laid_fields fields lower) upper
laid_noted_all fields lower [] = refl
laid_noted_all fields lower (f ∷ upper) =
    laid_noted fields (noted_fields lower upper) f.name f.value
    ∙ ap (λ fs. set_field fs f.name f.value) (laid_noted_all fields lower upper)

-- under changes that fit, a record has the operations that it had
knows_under : (fields changed : List Field) (op : Op) → FieldsFit fields changed
    → record_knows (laid_fields fields changed) op ≡ record_knows fields op
knows_under fields [] op h = refl
knows_under fields (f ∷ changed) op h =
    record_known_stay (laid_fields fields changed) (Set f.name f.value) op
    (knows_under fields changed (Set f.name f.value) h.1 ∙ h.0)
    ∙ knows_under fields changed op h.1

pub record_overlays_know : OverlaysKnow record_knows laid_fields FieldsFit
record_overlays_know c o op h = knows_under c o op h

-- changes that fit still fit once one more is noted
pub fit_noted : (fields changed : List Field) (n : List ℕ) (v : Value) → FieldsFit fields changed
    → IsTrue (takes (field_value fields n) v) → FieldsFit fields (noted_field changed n v)
fit_noted fields [] n v h t = (t, tt)
fit_noted fields (f ∷ changed) n v h t =
    by_case (fit_noted fields changed n v h.1 t) (same_bytes f.name n) refl where
      by_case : FieldsFit fields (noted_field changed n v) → (b : Bool) → same_bytes f.name n ≡ b
          → FieldsFit fields (noted_field (f ∷ changed) n v)
      by_case later true e = let same : f.name ≡ n = same_text f.name n (sym e) in
          rw e (rw same t, h.1)
      by_case later false e = rw e (h.0, later)

-- so do they once an operation that the changed record has is noted
pub fit_known : (fields changed : List Field) (n : List ℕ) (v : Value) → FieldsFit fields changed
    → IsTrue (record_knows (laid_fields fields changed) (Set n v))
    → FieldsFit fields (noted_field changed n v)
fit_known fields changed n v h k =
    fit_noted fields changed n v h (sym (knows_under fields changed (Set n v) h) ∙ k)

-- changes that fit what the lower ones leave fit below them
fit_below : (fields lower upper : List Field) → FieldsFit fields lower
    → FieldsFit (laid_fields fields lower) upper → FieldsFit fields upper
fit_below fields lower [] h k = tt
fit_below fields lower (f ∷ upper) h k =
    (sym (knows_under fields lower (Set f.name f.value) h) ∙ k.0, fit_below fields lower upper h k.1)

noted_all_fit : (fields lower upper : List Field) → FieldsFit fields lower → FieldsFit fields upper
    → FieldsFit fields (noted_fields lower upper)
noted_all_fit fields lower [] h k = h
noted_all_fit fields lower (f ∷ upper) h k = fit_noted fields (noted_fields lower upper) f.name
    f.value (noted_all_fit fields lower upper h k.1) k.0

pub fit_noted_all : (fields lower upper : List Field) → FieldsFit fields lower
    → FieldsFit (laid_fields fields lower) upper → FieldsFit fields (noted_fields lower upper)
fit_noted_all fields lower upper h k =
    noted_all_fit fields lower upper h (fit_below fields lower upper h k)

-- what a field holds after it was set
value_set : (fields : List Field) (n : List ℕ) (v : Value) → is_some (field_value fields n) ≡ true
    → field_value (set_field fields n v) n ≡ Some v
value_set [] n v h = absurd (false≢true h)
value_set (f ∷ fields) n v h = by_case (value_set fields n v) (same_bytes f.name n) refl h where
  by_case : (is_some (field_value fields n) ≡ true → field_value (set_field fields n v) n ≡ Some v)
      → (b : Bool) → same_bytes f.name n ≡ b → is_some (field_value (f ∷ fields) n) ≡ true
      → field_value (set_field (f ∷ fields) n v) n ≡ Some v
  by_case later true e k = rw (e, e) refl
  by_case later false e k = rw (e, e) (later (rw e at k))

-- what another one holds then
value_other : (fields : List Field) (m n : List ℕ) (v : Value) → same_bytes m n ≡ false
    → field_value (set_field fields m v) n ≡ field_value fields n
value_other [] m n v h = refl
value_other (f ∷ fields) m n v h =
    by_case (value_other fields m n v h) (same_bytes f.name m) (same_bytes f.name n) refl refl where
      by_case : field_value (set_field fields m v) n ≡ field_value fields n → (s t : Bool)
          → same_bytes f.name m ≡ s → same_bytes f.name n ≡ t
          → field_value (set_field (f ∷ fields) m v) n ≡ field_value (f ∷ fields) n
      by_case later true true d e = absurd (true≢false (sym e ∙ turned f.name m n d ∙ h))
      by_case later true false d e = simp (d, e)
      by_case later false true d e = simp (d, e)
      by_case later false false d e = simp (d, e) later

some_taken : (o : Option Value) (v : Value) → takes o v ≡ true → is_some o ≡ true
some_taken None v h = h
some_taken (Some held) v h = refl

-- the value of a changed field, and of one that is not
pub value_laid : (fields changed : List Field) (n : List ℕ) (o : Option Value)
    → FieldsFit fields changed → field_value changed n ≡ o
    → field_value (laid_fields fields changed) n ≡ or_below o (field_value fields n)
value_laid fields [] n o h e = rw (← e) refl
value_laid fields (f ∷ changed) n o h e =
    by_case (value_laid fields changed n o h.1) (same_bytes f.name n) refl e where
      by_case : (field_value changed n ≡ o
          → field_value (laid_fields fields changed) n ≡ or_below o (field_value fields n))
          → (b : Bool) → same_bytes f.name n ≡ b → field_value (f ∷ changed) n ≡ o
          → field_value (laid_fields fields (f ∷ changed)) n ≡ or_below o (field_value fields n)
      by_case later true d e =
          let same : f.name ≡ n = same_text f.name n (sym d) in
          let fits : takes (field_value (laid_fields fields changed) f.name) f.value ≡ true =
          knows_under fields changed (Set f.name f.value) h.1 ∙ h.0 in
          let had : is_some (field_value (laid_fields fields changed) n) ≡ true =
          rw (← same) (some_taken _ f.value fits) in
          rw (← (rw d at e)) (rw same (value_set (laid_fields fields changed) n f.value had))
      by_case later false d e =
          value_other (laid_fields fields changed) f.name n f.value d ∙ later (rw d at e)

-- the last change first
pub laid_last : (fields changed : List Field) (f : Field)
    → laid_fields fields (changed ++ f ∷ []) ≡ laid_fields (set_field fields f.name f.value) changed
laid_last fields [] f = refl
laid_last fields (g ∷ changed) f =
    ap (λ fs. set_field fs g.name g.value) (laid_last fields changed f)

pub noted_last : (lower upper : List Field) (f : Field)
    → noted_fields lower (upper ++ f ∷ []) ≡ noted_fields (noted_field lower f.name f.value) upper
noted_last lower [] f = refl
noted_last lower (g ∷ upper) f = ap (λ fs. noted_field fs g.name g.value) (noted_last lower upper f)

-- what writes to a record sets a field
pub record_sets : (fields : List Field) (op : Op) → IsTrue (record_knows fields op)
    → IsFalse (is_read op) → IsTrue (is_set op)
record_sets fields (Set name v) known writes = refl
record_sets fields (Get name) known writes = absurd (true≢false writes)
record_sets fields _ known writes = absurd (false≢true known)

-- nothing adds to a record
pub record_fits_stay : FitsStay record_after FieldsFit
record_fits_stay fields o z h = h

pub record_adds_sum : AddsSum record_after
record_adds_sum fields y z = refl

pub record_writes_cover : WritesCover record_knows record_reply record_after
record_writes_cover fields z op known writes = (refl, refl)

pub record_always_done : AlwaysDone record_reply
record_always_done fields (Get name) done = absurd (false≢true done)
record_always_done fields _ done = refl
