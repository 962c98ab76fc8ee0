use Rattle.std.proofs.Common.{◌≡◌, ◌++◌, Ok, Some, drop}
use Rattle.serde_json.specs.View.{items_view}
use Rattle.script_model.specs.Reading.{and_then, each}
use Rattle.script_model.specs.ContentReading.{value_in}
use Rattle.script_parts.specs.Places.{pointer}
use Rattle.script_parts.proofs.contents.items_in.Given as goal

-- the whole is what was read and what is left
abbrev pub invariant-loop-i : goal.invariant-loop-i
invariant-loop-i l =
    each (value_in (Some l.kind)) 0 (items_view l.documents) (pointer l.place)
    ≡ and_then (each (value_in (Some l.kind)) l.i (items_view (drop l.i l.documents)) (pointer l.place)) (λ xs. Ok (l.items.items ++ xs))
