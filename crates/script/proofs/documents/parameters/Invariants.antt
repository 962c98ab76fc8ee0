use Rattle.std.proofs.Common.{◌≡◌, [], drop}
use Rattle.serde_json.specs.View.{items_view}
use Rattle.script_model.specs.ScriptReading.{parameters_from}
use Rattle.script_parts.specs.Places.{pointer}
use Rattle.script.proofs.documents.parameters.Given as goal

-- what is left, read after what was read, is the whole
abbrev pub invariant-loop-i : goal.invariant-loop-i
invariant-loop-i l =
    parameters_from 0 [] (items_view l.documents) (pointer l.place)
    ≡ parameters_from l.i l.scope (items_view (drop l.i l.documents)) (pointer l.place)
