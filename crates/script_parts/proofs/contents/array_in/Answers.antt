use Rattle.std.proofs.Common.{sym, ap, ◌∙◌, rules}
use mir.Syntax.{w64}
use mir.Val.{of_z, to_z}
use Rattle.serde_json.specs.View.{view}
use Rattle.values.specs.Items.{ArrayContent, HasArrayForm}
use Rattle.script_model.specs.ContentReading.{is_low}
use Rattle.script_parts.specs.Places.{pointer}
use Rattle.script_parts.proofs.Asked.{ask_true}
use Rattle.script_parts.proofs.Forms.{array_form}
use Rattle.script_parts.proofs.contents.array_in.Goals as goal

pub returns : goal.returns
returns c = λ _.
    let list = view c.in_ok-documents.documents.now in
    let low = to_z w64 (of_z w64 c.in_ok-low.low) in
    let lies = c.is_low.ensures ∙ ap (is_low low) c.items_of.ensures in
    let built : ArrayContent = record { kind = c.in_ok-kind.kind; low = low; items = c.in_ok-items.items.items } in
    let unformed : HasArrayForm built → ⊥ = search rules in
    absurd (unformed (array_form c.in_ok-kind.kind low list
    (pointer c.member-2.result) c.in_ok-items.items.items c.in_ok-items.ensures
    (sym lies ∙ ask_true c.is_low.result _ _ c.in_ok-ask.ensures)))
