use Rattle.std.proofs.Common.{◌≡◌, [], drop}
use Rattle.serde_json.specs.View.{items_view}
use Rattle.script_model.specs.ScriptReading.{guardians_from}
use Rattle.script.specs.Handling.{documents_of}
use Rattle.script_parts.specs.Places.{pointer}
use Rattle.script.specs.Sites.{guardians_of}
use Rattle.script.proofs.documents.guardians_in.Given as goal

-- what is left, read after what was read, is the whole
abbrev pub invariant-loop-i : goal.invariant-loop-i
invariant-loop-i l =
    guardians_from (documents_of l.signatures) 0 (record { objects = []; handlers = [] }) (items_view l.documents) (pointer l.place)
    ≡ guardians_from (documents_of l.signatures) l.i (guardians_of l.guardians) (items_view (drop l.i l.documents)) (pointer l.place)
