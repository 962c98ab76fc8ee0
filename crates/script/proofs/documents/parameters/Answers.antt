use Rattle.std.proofs.Common.{[], sym, ap, ◌∙◌, arith}
use Rattle.std.proofs.lemmas.Result.{err_from_is_err_and}
use Rattle.serde_json.specs.View.{view}
use Rattle.script_model.specs.Reading.{and_then}
use Rattle.script_model.specs.ScriptReading.{parameter, parameters_from}
use Rattle.script_parts.specs.Places.{pointer}
use Rattle.script.proofs.Elements.{parameters_stop}
use Rattle.script.proofs.documents.parameters.Goals as goal

pub returns-in_err-add_parameter : goal.returns-in_err-add_parameter
returns-in_err-add_parameter c =
    let place = pointer c.args.place.now in
    let vs = c.in_ok-documents.documents.now in
    let v = c.index-documents-i.result in
    let p = err_from_is_err_and c.from_residual-in_err-add_parameter.result c.from_residual-in_err-add_parameter.ensures.1 in
    rw (p.1, p.2) (λ other.
    ap (λ r. and_then r (λ ds. parameters_from 0 [] ds place)) c.in_ok-documents.ensures
    ∙ parameters_stop vs c.loop-i.i v c.loop-i.scope place _ _ (omega arith) c.index-documents-i.is c.loop-i.invariant
    (ap (parameter c.loop-i.scope (view v)) (sym c.item.ensures) ∙ c.in_err-add_parameter.ensures other))
