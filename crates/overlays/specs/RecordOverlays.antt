-- What actions changed of a record: the fields that have another value.
use Rattle.std.specs.Prelude.{ℕ, Bool, true, false, List, [], ◌∷◌, IsTrue, if◌then◌else◌, Option, Some, None}
use Rattle.values.specs.declared.value.Value.{Value}
use Rattle.values.specs.declared.record.Field.{Field}
use Rattle.values.specs.Words.{same_bytes}
use Rattle.values.specs.Contents.{field_value, set_field}
use Rattle.atomic_types.specs.Operations.{Op}
use Rattle.atomic_types.specs.declared.operation.Operation.TheVariants.{Set}
use Rattle.atomic_types.specs.Records.{takes}

-- the record with these fields changed, the first of them last
abbrev pub laid_fields : List Field → List Field → List Field
laid_fields fields [] = fields
laid_fields fields (f ∷ changed) = set_field (laid_fields fields changed) f.name f.value

-- the record has each of them, and with a value of its kind
abbrev pub FieldsFit : List Field → List Field → Type 0
FieldsFit fields [] = Unit {0}
FieldsFit fields (f ∷ changed) = IsTrue (takes (field_value fields f.name) f.value)
    × FieldsFit fields changed

-- the changed fields once one more has a value: it replaces the one that it had
abbrev pub noted_field : List Field → List ℕ → Value → List Field
noted_field [] name v = record { name = name; value = v } ∷ []
noted_field (f ∷ changed) name v =
    if same_bytes f.name name then record { name = f.name; value = v } ∷ changed
    else f ∷ noted_field changed name v

-- the changed fields once the upper ones are noted too, the last of them first
abbrev pub noted_fields : List Field → List Field → List Field
noted_fields lower [] = lower
noted_fields lower (f ∷ upper) = noted_field (noted_fields lower upper) f.name f.value

abbrev pub is_set : Op → Bool
is_set (Set name v) = true
is_set _ = false

-- what a changed field holds, else what lies below
abbrev pub or_below : Option Value → Option Value → Option Value
or_below None below = below
or_below (Some v) below = Some v
