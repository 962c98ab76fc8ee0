-- Operations with at most a word and a number.
use Rattle.std.specs.Prelude.{◌≡◌, ◌+◌, ◌≤◌, ◌<◌, ℕ, ℤ, List, [], Option, Some, None, length, slice_get, slice_range, take}
use Rattle.std.specs.Option.{option_map}
use Rattle.values.specs.declared.value.Value.{Value}
use Rattle.values.specs.declared.value.Value.TheVariants.{Int}
use Rattle.atomic_types.specs.declared.operation.Arguments.{Arguments}
use Rattle.atomic_types.specs.declared.operation.Arguments.TheVariants as with
use Rattle.atomic_types.specs.declared.operation.Form.{Form}
use Rattle.atomic_types.specs.declared.operation.Form.TheVariants as form
use Rattle.atomic_types.specs.declared.operation.OpName.{OpName}
use Rattle.atomic_types.specs.Operations as op
use Rattle.run_model.specs.declared.step.ObjectId.{ObjectId}
use Rattle.packed_history.specs.declared.plain.Plain.{Plain}

-- the operations and the bytes of their words, the oldest first
pub record Plains : Type 0 where
  pub words : List ℕ
  pub plain : List Plain

abbrev pub no_plain : Plains
no_plain = record { words = []; plain = [] }

-- the arguments of a form that a word and a number are
abbrev pub plain_arguments : Form → List ℕ → ℤ → Arguments (List ℕ) ℤ Value
plain_arguments form.Nothing w n = with.Nothing
plain_arguments form.Word w n = with.Word w
plain_arguments form.WordValue w n = with.WordValue w (Int n)
plain_arguments form.Index w n = with.Index n
plain_arguments form.IndexValue w n = with.IndexValue n (Int n)
plain_arguments form.Value w n = with.Value (Int n)

-- the operation of this name with this word and this number
abbrev pub plain_by : OpName → List ℕ → ℤ → Option op.Op
plain_by name w n = op.operation_of name (plain_arguments (op.form_of name) w n)

-- a plain operation that is kept, if it is one, and on which object
abbrev pub plain_operation : List ℕ → Option Plain → Option (ObjectId × op.Op)
plain_operation words None = None
plain_operation words (Some q) = option_map (λ o. (q.object, o))
    (plain_by q.name (slice_range words q.start (q.start + q.len)) q.number)

-- the word of an operation is there
abbrev pub HasWord : List ℕ → Option Plain → Type 0
HasWord words None = Unit {0}
HasWord words (Some q) = q.start + q.len ≤ length words

-- there is an operation at this place, with its word
abbrev pub HasPlain : Plains → ℕ → Type 0
HasPlain p place = (place < length p.plain) × HasWord p.words (slice_get p.plain place)

-- what was kept before this operation, if it is one, at this place
abbrev pub before_plain : Plains → ℕ → Option Plain → Plains
before_plain p place None = p
before_plain p place (Some q) = record { words = take q.start p.words; plain = take place p.plain }

-- what was kept before the operation at this place
abbrev pub plain_before : Plains → ℕ → Plains
plain_before p place = before_plain p place (slice_get p.plain place)

-- the operation is kept at this place, behind what was kept before
pub record IsKeptPlain (old new : Plains) (place : ℕ) (object : ObjectId)
    (operation : op.Op) : Type 0 where
  pub has : HasPlain new place
  pub reads : plain_operation new.words (slice_get new.plain place) ≡ Some (object, operation)
  pub before : plain_before new place ≡ old
