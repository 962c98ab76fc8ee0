use Rattle.std.proofs.Common.{◌≡◌, ◌++◌, Ok, drop}
use Rattle.serde_json.specs.View.{items_view}
use Rattle.script_model.specs.Reading.{and_then, each}
use Rattle.script_model.specs.ScriptReading.{client}
use Rattle.script.specs.Handling.{documents_of}
use Rattle.script_parts.specs.Places.{pointer}
use Rattle.script.proofs.documents.clients_in.Given as goal

-- the whole is what was read and what is left
abbrev pub invariant-loop-i : goal.invariant-loop-i
invariant-loop-i l =
    each (client (documents_of l.handlers) l.objects) 0 (items_view l.documents) (pointer l.place)
    ≡ and_then (each (client (documents_of l.handlers) l.objects) l.i (items_view (drop l.i l.documents)) (pointer l.place))
    (λ xs. Ok (l.clients ++ xs))
