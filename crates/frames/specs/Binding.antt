-- How a reply is bound.
use Rattle.std.specs.Prelude.{ℕ, ◌==◌, List, [], ◌∷◌, ◌++◌, length, if◌then◌else◌, Option, Some, None, slice_set}
use Rattle.values.specs.declared.value.Value.TheVariants as value
use Rattle.atomic_types.specs.declared.op.Reply.{Reply}
use Rattle.atomic_types.specs.declared.op.Reply.TheVariants as reply
use Rattle.script_model.specs.declared.statement.Binding.{Binding}
use Rattle.script_model.specs.declared.statement.Binding.TheVariants as binding
use Rattle.frames.specs.Bound.{Bound}

-- the place behind the last variable binds a new one, any other is written anew, and no place binds nothing
abbrev pub bound_at : {A : Type 0} → List A → Option ℕ → A → List A
bound_at xs None x = xs
bound_at xs (Some place) x = if place == length xs then xs ++ x ∷ [] else slice_set xs place x

-- the variables after the reply was bound; none where it is of another kind than the binding asks
abbrev pub bound_after : Bound → Binding → Reply → Option Bound
bound_after b binding.Nothing reply.Done = Some b
bound_after b (binding.Int place) (reply.Gives (value.Int n)) =
    Some (record b { ints = bound_at b.ints place n })
bound_after b (binding.Text place) (reply.Gives (value.Text s)) =
    Some (record b { texts = bound_at b.texts place s })
bound_after b (binding.Truth place) (reply.Truth t) =
    Some (record b { truths = bound_at b.truths place t })
bound_after b _ _ = None
