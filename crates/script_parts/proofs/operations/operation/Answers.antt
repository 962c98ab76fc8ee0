use Rattle.std.proofs.Common.{sym, ap₂, ◌∙◌, rules}
use Rattle.serde_json.specs.View.{view, items_view}
use Rattle.serde_json.proofs.Views.{items_len-items_view}
use Rattle.script_model.specs.OperationReading.{has_arity}
use Rattle.script_parts.specs.Places.{pointer}
use Rattle.script_parts.proofs.OpSteps.{operation_is}
use Rattle.script_parts.proofs.operations.operation.Goals as goal

pub returns-in_err-ask : goal.returns-in_err-ask
returns-in_err-ask c =
    let a = c.args in
    let docs = c.in-Some.documents.now in
    let arity = c.has_arity-fits.ensures ∙ ap₂ has_arity c.op_in.ensures (sym (items_len-items_view docs)) in
    rw (operation_is a.objects.now a.scope.now (view a.json.now) (pointer a.place.now) (view c.in-Some.object.now) (view c.in-Some.name.now) (items_view docs)
    c.has_arity-fits.result c.in-Some.ensures arity) (search rules)

pub returns-in_err-number : goal.returns-in_err-number
returns-in_err-number c =
    let a = c.args in
    let docs = c.in-Some.documents.now in
    let arity = c.has_arity-fits.ensures ∙ ap₂ has_arity c.op_in.ensures (sym (items_len-items_view docs)) in
    rw (operation_is a.objects.now a.scope.now (view a.json.now) (pointer a.place.now) (view c.in-Some.object.now) (view c.in-Some.name.now) (items_view docs)
    c.has_arity-fits.result c.in-Some.ensures arity) (search rules)

pub returns-in_err-operation : goal.returns-in_err-operation
returns-in_err-operation c =
    let a = c.args in
    let docs = c.in-Some.documents.now in
    let arity = c.has_arity-fits.ensures ∙ ap₂ has_arity c.op_in.ensures (sym (items_len-items_view docs)) in
    rw (operation_is a.objects.now a.scope.now (view a.json.now) (pointer a.place.now) (view c.in-Some.object.now) (view c.in-Some.name.now) (items_view docs)
    c.has_arity-fits.result c.in-Some.ensures arity) (search rules)

pub returns : goal.returns
returns c =
    let a = c.args in
    let docs = c.in-Some.documents.now in
    let arity = c.has_arity-fits.ensures ∙ ap₂ has_arity c.op_in.ensures (sym (items_len-items_view docs)) in
    rw (operation_is a.objects.now a.scope.now (view a.json.now) (pointer a.place.now) (view c.in-Some.object.now) (view c.in-Some.name.now) (items_view docs)
    c.has_arity-fits.result c.in-Some.ensures arity) (search rules)
