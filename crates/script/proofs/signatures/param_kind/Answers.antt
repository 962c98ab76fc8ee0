use Rattle.std.proofs.Common.{ap, ◌∙◌, option_and_then, arith}
use Rattle.serde_json.specs.View.{items_view}
use Rattle.script_model.specs.Shapes.{two_items, kind_in}
use Rattle.script.proofs.Wanted.{two_items-few, two_items-many}
use Rattle.script.proofs.signatures.param_kind.Goals as goal

pub returns-in_default : goal.returns-in_default
returns-in_default c =
    ap (option_and_then (λ p. kind_in p.1)) (two_items-few c.as_slice.result.now (omega arith) ∙ ap (λ vs. two_items (items_view vs)) c.as_slice.ensures.value)
    ∙ ap (λ o. option_and_then (λ p. kind_in p.1) (option_and_then two_items o)) c.in_ok-as_array.ensures

pub returns-in_default-2 : goal.returns-in_default-2
returns-in_default-2 c =
    ap (option_and_then (λ p. kind_in p.1)) (two_items-many c.as_slice.result.now (omega arith) ∙ ap (λ vs. two_items (items_view vs)) c.as_slice.ensures.value)
    ∙ ap (λ o. option_and_then (λ p. kind_in p.1) (option_and_then two_items o)) c.in_ok-as_array.ensures
