use Rattle.std.proofs.Common.{◌≡◌, Ok, drop}
use Rattle.serde_json.specs.View.{view, items_view}
use Rattle.script_model.specs.Reading.{and_then}
use Rattle.script_model.specs.StatementReading.{arguments_from}
use Rattle.script_parts.specs.Places.{pointer}
use Rattle.script.proofs.StatementLists.{after}
use Rattle.script.proofs.statements.Context.arguments.Given as goal

-- the whole is what was read and what is left
abbrev pub invariant-loop-i : goal.invariant-loop-i
invariant-loop-i l =
    arguments_from l.scope (view l.handler) 0 (items_view l.documents) (pointer l.place)
    ≡ and_then (arguments_from l.scope (view l.handler) l.i (items_view (drop l.i l.documents)) (pointer l.place)) (λ rest. Ok (after l.ints l.texts rest))
