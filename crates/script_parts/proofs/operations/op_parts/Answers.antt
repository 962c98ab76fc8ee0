use Rattle.std.proofs.Common.{Some, ap, ◌∙◌, arith}
use Rattle.std.proofs.lemmas.List.{take_rest}
use Rattle.serde_json.specs.View.{view, items_view}
use Rattle.script_parts.proofs.OpParts.{op_parts-few, op_parts-many}
use Rattle.script_parts.proofs.operations.op_parts.Goals as goal

pub returns-in-len2-up : goal.returns-in-len2-up
returns-in-len2-up c =
    let list = ap (λ vs. Some (items_view vs)) c.as_slice.ensures.value ∙ c.in_ok-as_array.ensures in
    ap (λ vs. Some (view c.object-item.result, view c.name-item.result, items_view vs)) (take_rest c.as_slice.result.now 2)
    ∙ op_parts-many (view c.args.json.now) c.as_slice.result.now c.object-item.result c.name-item.result list (omega arith) c.object-item.is c.name-item.is

pub returns-in_default : goal.returns-in_default
returns-in_default c =
    let list = ap (λ vs. Some (items_view vs)) c.as_slice.ensures.value ∙ c.in_ok-as_array.ensures in
    op_parts-few (view c.args.json.now) c.as_slice.result.now list (omega arith)
