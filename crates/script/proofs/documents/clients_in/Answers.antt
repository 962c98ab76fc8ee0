use Rattle.std.proofs.Common.{sym, ap, ◌∙◌, arith}
use Rattle.std.proofs.lemmas.Result.{err_from_is_err_and}
use Rattle.serde_json.specs.View.{view}
use Rattle.script_model.specs.Reading.{and_then, each}
use Rattle.script_model.specs.ScriptReading.{client}
use Rattle.script.specs.Handling.{documents_of}
use Rattle.script_parts.specs.Places.{pointer}
use Rattle.script.proofs.Elements.{each_push, each_stop}
use Rattle.script.proofs.documents.clients_in.Goals as goal

pub returns-in_err-client_in : goal.returns-in_err-client_in
returns-in_err-client_in c =
    let place = pointer c.args.place.now in
    let read = client (documents_of c.args.handlers.now) c.args.objects.now in
    let vs = c.in_ok-documents.documents.now in
    let v = c.index-documents-i.result in
    let p = err_from_is_err_and c.from_residual-in_err-client_in.result c.from_residual-in_err-client_in.ensures.1 in
    rw (p.1, p.2) (λ other.
    ap (λ r. and_then r (λ ds. each read 0 ds place)) c.in_ok-documents.ensures
    ∙ each_stop read vs c.loop-i.i v place c.loop-i.clients _ _ (omega arith) c.index-documents-i.is c.loop-i.invariant
    (ap (read (view v)) (sym c.item.ensures) ∙ c.in_err-client_in.ensures other))

pub loop-i-preserved : goal.loop-i-preserved
loop-i-preserved c =
    let place = pointer c.args.place.now in
    let read = client (documents_of c.args.handlers.now) c.args.objects.now in
    let vs = c.in_ok-documents.documents.now in
    let v = c.index-documents-i.result in
    each_push read vs c.loop-i.i v place c.loop-i.clients _ c.in_ok-client_in.field-0 _
    (omega arith) c.index-documents-i.is c.loop-i.invariant
    (ap (read (view v)) (sym c.item.ensures) ∙ c.in_ok-client_in.ensures) c.in_ok-push.ensures.ok
