-- Arrays and variants: what their operations answer, and where they signal.
use Rattle.std.specs.Prelude.{ℕ, ℤ, pos, negsuc, true, List, [], ◌∷◌, codes}
use Rattle.values.specs.declared.value.Kind.TheVariants as kind
use Rattle.values.specs.declared.value.Value.TheVariants.{Int}
use Rattle.values.specs.declared.variant.Tag.{Tag}
use Rattle.values.specs.declared.content.Content.{Content}
use Rattle.values.specs.declared.content.Content.TheVariants.{Array, Variant}
use Rattle.values.specs.Items.{least_index}
use Rattle.atomic_types.specs.Operations as operation
use Rattle.atomic_types.specs.declared.operation.Operation.TheVariants.{Low, High, Size, Fetch, AddHigh, AddLow, RemoveLow, Is, ValueOf, Change}
use Rattle.atomic_types.specs.declared.op.Signal.{Signal}
use Rattle.atomic_types.specs.declared.op.Signal.TheVariants.{Bounds, Limit, WrongTag}
use Rattle.atomic_types.specs.declared.op.Reply.TheVariants as reply
use Rattle.run_model.specs.declared.step.Step.{Step}
use Rattle.run_model.specs.declared.step.Step.TheVariants.{Top, Op}
use Rattle.run_model.specs.declared.answer.Answer.{Answer}
use Rattle.run_model.specs.declared.answer.Answer.TheVariants.{Granted}
use Rattle.run_model.specs.Openings.{Opening, fresh}
use Rattle.proved_examples.specs.Example.{Example, record_of, action_1, began, gives, granted}

-- no ints, the first of which would stand at the low index
abbrev pub no_ints_at : ℤ → Content
no_ints_at low = Array (record { kind = kind.Int; low = low; items = [] })

abbrev pub tag_of_ints : List ℕ → Tag
tag_of_ints name = record { name = name; kind = kind.Int }

-- an int under one of the tags none and some
abbrev pub none_with : ℕ → Content
none_with v =
    Variant (record {
      tags = tag_of_ints (codes "none") ∷ tag_of_ints (codes "some") ∷ [];
      tag = codes "none";
      value = Int (pos v);
    })

-- guardian 1 holds a record and an array, guardian 2 a record and a variant
abbrev pub three_types : Opening
three_types =
    fresh ((record_of (codes "balance") 100 ∷ no_ints_at (pos 1) ∷ [])
    ∷ (record_of (codes "n") 0 ∷ none_with 0 ∷ []) ∷ [])

-- guardian 1 holds an array that begins at the least index
abbrev pub array_at_the_bound : Opening
array_at_the_bound = fresh ((no_ints_at least_index ∷ []) ∷ [])

abbrev pub on_array : operation.Op → Step
on_array op = Op action_1 (record { guardian = 1; number = 2 }) op

abbrev pub on_variant : operation.Op → Step
on_variant op = Op action_1 (record { guardian = 2; number = 2 }) op

abbrev pub on_bounded : operation.Op → Step
on_bounded op = Op action_1 (record { guardian = 1; number = 1 }) op

abbrev pub signals : Signal → Answer
signals s = Granted (reply.Signals s)

abbrev pub gives_int : ℤ → Answer
gives_int z = Granted (reply.Gives (Int z))

-- an array grows and shrinks at both ends, and its low index moves with the low end
abbrev pub array_ends : Example
array_ends =
    (Top 1, began action_1)
    ∷ (on_array (AddLow (Int (pos 5))), granted)
    ∷ (on_array Low, gives 0)
    ∷ (on_array High, gives 0)
    ∷ (on_array (AddHigh (Int (pos 6))), granted)
    ∷ (on_array (Fetch (pos 1)), gives 6)
    ∷ (on_array (Fetch (pos 2)), signals Bounds)
    ∷ (on_array RemoveLow, gives 5)
    ∷ (on_array Low, gives 1)
    ∷ (on_array Size, gives 1)
    ∷ []

-- a variant gives its value under its tag alone
abbrev pub variant_tags : Example
variant_tags =
    (Top 2, began action_1)
    ∷ (on_variant (Is (codes "none")), Granted (reply.Truth true))
    ∷ (on_variant (ValueOf (codes "some")), signals WrongTag)
    ∷ (on_variant (Change (codes "some") (Int (pos 3))), granted)
    ∷ (on_variant (ValueOf (codes "some")), gives 3)
    ∷ []

-- at the least index nothing is added below
abbrev pub array_bounds : Example
array_bounds =
    (Top 1, began action_1)
    ∷ (on_bounded (AddLow (Int (pos 3))), signals Limit)
    ∷ (on_bounded High, gives_int (negsuc 4611686018427387904))
    ∷ (on_bounded (AddHigh (Int (pos 3))), granted)
    ∷ (on_bounded High, gives_int (negsuc 4611686018427387903))
    ∷ (on_bounded RemoveLow, gives 3)
    ∷ (on_bounded Low, gives_int (negsuc 4611686018427387902))
    ∷ []
