use Rattle.std.proofs.Common.{[], length, sym, ap, ap₂, ◌∙◌, arith}
use Rattle.std.proofs.lemmas.Result.{err_from_is_err_and}
use Rattle.serde_json.specs.View.{view, items_view}
use Rattle.script_model.specs.ScriptReading.{Guardians, add_guardian, guardians_from}
use Rattle.script.specs.Handling.{documents_of}
use Rattle.script_parts.specs.Places.{pointer}
use Rattle.script.specs.Sites.{guardians_of}
use Rattle.script.proofs.Elements.{guardians_more, guardians_stop, guardians_end}
use Rattle.script.proofs.documents.guardians_in.Goals as goal

pub number-number-requires : goal.number-number-requires
number-number-requires c = omega (arith, ap length c.documents-documents.ensures)

pub returns-in_err-add : goal.returns-in_err-add
returns-in_err-add c =
    let place = pointer c.args.place.now in
    let gs = documents_of c.args.signatures.now in
    let vs = c.documents-documents.result.now in
    let i = c.loop-i.i in
    let v = c.index-documents-i.result in
    let before = guardians_of c.loop-i.guardians in
    let none : Guardians = record { objects = []; handlers = [] } in
    let q = err_from_is_err_and c.from_residual.result c.from_residual.ensures.1 in
    rw (q.1, q.2) (λ other.
    ap (λ ds. guardians_from gs 0 none (items_view ds) place) (sym c.documents-documents.ensures)
    ∙ guardians_stop gs vs i v before place _ _ (omega arith) c.index-documents-i.is c.loop-i.invariant
    (ap₂ (λ n p. add_guardian gs n before (view v) p) (sym c.number-number.ensures) (sym c.item.ensures) ∙ c.in_err-add.ensures other))

pub loop-i-preserved : goal.loop-i-preserved
loop-i-preserved c =
    let place = pointer c.args.place.now in
    let gs = documents_of c.args.signatures.now in
    let vs = c.documents-documents.result.now in
    let v = c.index-documents-i.result in
    let before = guardians_of c.loop-i.guardians in
    guardians_more gs vs c.loop-i.i v before _ place _ (omega arith) c.index-documents-i.is c.loop-i.invariant
    (ap₂ (λ n p. add_guardian gs n before (view v) p) (sym c.number-number.ensures) (sym c.item.ensures) ∙ c.in_ok-add.ensures)

pub returns : goal.returns
returns c =
    let gs = documents_of c.args.signatures.now in
    let place = pointer c.args.place.now in
    let none : Guardians = record { objects = []; handlers = [] } in
    ap (λ ds. guardians_from gs 0 none (items_view ds) place) (sym c.documents-documents.ensures)
    ∙ guardians_end gs c.documents-documents.result.now c.loop-i.i (guardians_of c.loop-i.guardians) place _ (omega arith) c.loop-i.invariant
