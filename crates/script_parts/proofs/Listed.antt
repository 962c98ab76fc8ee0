-- Lists of fields and of tags, read one after another.
use Rattle.std.proofs.Common.{◌≡◌, ℕ, List, [], ◌∷◌, ◌++◌, Ok, None, Some, string_bytes}
use Rattle.serde_json.specs.View.{view, members_view}
use Rattle.serde_json.proofs.Views.{Entry}
use Rattle.values.specs.declared.value.Value.{Value}
use Rattle.values.specs.declared.value.Kind.{Kind}
use Rattle.values.specs.declared.record.Field.{Field}
use Rattle.values.specs.declared.variant.Tag.{Tag}
use Rattle.script_model.specs.Reading.{and_then, step}
use Rattle.script_model.specs.Shapes.{kind_in}
use Rattle.script_model.specs.ContentReading.{fields_in, tags_in, value_in}
use Rattle.script_parts.proofs.Asked.{one_more}

pub fields_more : (e : Entry) (es : List Entry) (place : List ℕ) (done : List Field) (v : Value)
    → value_in None (view e.1) (step place (string_bytes e.0)) ≡ Ok v
    → and_then (fields_in (members_view (e ∷ es)) place) (λ xs. Ok (done ++ xs))
    ≡ and_then (fields_in (members_view es) place) (λ xs. Ok ((done ++ record { name = string_bytes e.0; value = v } ∷ []) ++ xs))
fields_more e es place done v read =
    rw read (one_more (fields_in (members_view es) place) done (record { name = string_bytes e.0; value = v }))

pub tags_more : (e : Entry) (es : List Entry) (place : List ℕ) (done : List Tag) (k : Kind) → kind_in (view e.1) ≡ Some k
    → and_then (tags_in (members_view (e ∷ es)) place) (λ xs. Ok (done ++ xs))
    ≡ and_then (tags_in (members_view es) place) (λ xs. Ok ((done ++ record { name = string_bytes e.0; kind = k } ∷ []) ++ xs))
tags_more e es place done k read =
    rw read (one_more (tags_in (members_view es) place) done (record { name = string_bytes e.0; kind = k }))
