use Rattle.serde_json.specs.View.{view}
use Rattle.script_model.proofs.Scripts.{reading_resolves}
use Rattle.script.proofs.Guardians.{handlers_have_guardians}
use Rattle.script.proofs.reader.check.Goals as goal

pub ask_endings-requires : goal.ask_endings-requires
ask_endings-requires c = handlers_have_guardians (view c.args.document.document) c.in_ok-checked.checked c.in_ok-checked.ensures

pub returns-clause-resolved : goal.returns-clause-resolved
returns-clause-resolved c =
    reading_resolves (view c.args.document.document) c.in_ok-checked.checked
    (record { read = c.in_ok-checked.ensures; ends = c.in_ok-ask_endings.ensures })
