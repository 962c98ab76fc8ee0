use Rattle.std.proofs.Common.{◌≡◌, ◌++◌, List, length, Ok, true}
use Rattle.serde_json.specs.View.{members_view}
use Rattle.script_model.specs.declared.checked.Handler.{Handler}
use Rattle.script_model.specs.Reading.{and_then}
use Rattle.script_model.specs.ScriptReading.{handlers_from}
use Rattle.script_model.specs.Shapes.{are_named}
use Rattle.script_parts.specs.Places.{pointer}
use Rattle.script.specs.Sites.{site_of}
use Rattle.script.proofs.documents.Site.add_handlers.Given as goal

-- the whole is what was read and what is left, and what is left has names
abbrev pub invariant-loop-name : goal.invariant-loop-name
invariant-loop-name l =
    (done : List Handler) × (l.handlers ≡ l.initial.handlers ++ done)
    × (handlers_from (site_of l.self) (length l.initial.handlers) (members_view l.initial.name-iterator) (pointer l.place)
    ≡ and_then (handlers_from (site_of l.self) (length l.handlers) (members_view l.name-iterator) (pointer l.place))
    (λ xs. Ok (done ++ xs)))
    × (are_named (members_view l.name-iterator) ≡ true)
