-- Parameters that are put one behind the other.
use Rattle.std.proofs.Common.{◌≡◌, List, [], ◌∷◌, ◌++◌, pos, string_bytes, ap}
use Rattle.sqlite.specs.declared.types.Value.TheVariants.{Int, Text}
use Rattle.sqlite_value.specs.declared.value.ValueRef.{ValueRef}
use Rattle.sqlite_value.specs.Value.{owned}
use Rattle.sqlite.specs.Values.{bound, bound_value}
use Rattle.store_writing.specs.declared.waiting.PartText.{PartText}
use Rattle.store_writing.specs.Waiting.{parameters_of}

-- an object and its text more
pub two_more : (all : List ValueRef) (object text : ValueRef) (w : PartText) (ws : List PartText) → owned object ≡ Int (pos w.object)
    → owned text ≡ Text (string_bytes w.text)
    → bound ((all ++ object ∷ []) ++ text ∷ []) ++ parameters_of ws ≡ bound all ++ parameters_of (w ∷ ws)
two_more [] object text w ws first second = λ i. bound_value (first i) ∷ bound_value (second i) ∷ parameters_of ws
two_more (v ∷ all) object text w ws first second = ap (λ l. bound_value (owned v) ∷ l) (two_more all object text w ws first second)
