use Rattle.std.proofs.Common.{◌≡◌, ◌++◌, Ok, drop}
use Rattle.serde_json.specs.View.{items_view}
use Rattle.script_model.specs.Reading.{and_then, each}
use Rattle.script_model.specs.ContentReading.{content}
use Rattle.script_parts.specs.Places.{pointer}
use Rattle.script.proofs.documents.objects_in.Given as goal

-- the whole is what was read and what is left
abbrev pub invariant-loop-i : goal.invariant-loop-i
invariant-loop-i l =
    each content 0 (items_view l.documents) (pointer l.place)
    ≡ and_then (each content l.i (items_view (drop l.i l.documents)) (pointer l.place)) (λ xs. Ok (l.contents ++ xs))
