use Rattle.std.proofs.Common.{◌-◌, length, ◌&&◌, sym, ap, ◌∙◌, arith}
use Rattle.serde_json.specs.View.{view, items_view}
use Rattle.serde_json.proofs.Views.{view-Array}
use Rattle.script_model.specs.ScriptReading as spec
use Rattle.script.proofs.BodyEnds.{last_ends-last, two_end-three, two_end-few, two_end-many}
use Rattle.script.proofs.endings.+ends.Goals as goal

pub branches_end-returns-then-ends : goal.branches_end-returns-then-ends
branches_end-returns-then-ends t c =
    let seen = ap view c.in-Array.is ∙ view-Array c.in-Array.parts in
    let three = two_end-three c.as_slice.result.now c.first-item.result c.second-item.result (omega arith) c.first-item.is c.second-item.is in
    c.ends-then-ends.ensures ∙ ap (λ b. b && spec.ends (view c.second-item.result)) c.if-ends.ensures ∙ three
    ∙ ap (λ vs. spec.two_end (items_view vs)) c.as_slice.ensures.value ∙ sym (ap spec.branches_end seen)

pub branches_end-returns-else-ends : goal.branches_end-returns-else-ends
branches_end-returns-else-ends t c =
    let seen = ap view c.in-Array.is ∙ view-Array c.in-Array.parts in
    let three = two_end-three c.as_slice.result.now c.first-item.result c.second-item.result (omega arith) c.first-item.is c.second-item.is in
    c.if-ends.false ∙ ap (λ b. b && spec.ends (view c.second-item.result)) (sym c.if-ends.false ∙ c.ends.ensures) ∙ three
    ∙ ap (λ vs. spec.two_end (items_view vs)) c.as_slice.ensures.value ∙ sym (ap spec.branches_end seen)

pub branches_end-returns-in_default-as_slice : goal.branches_end-returns-in_default-as_slice
branches_end-returns-in_default-as_slice t c =
    let seen = ap view c.in-Array.is ∙ view-Array c.in-Array.parts in
    two_end-few c.as_slice.result.now (omega arith) ∙ ap (λ vs. spec.two_end (items_view vs)) c.as_slice.ensures.value ∙ sym (ap spec.branches_end seen)

pub branches_end-returns-in_default-as_slice-2 : goal.branches_end-returns-in_default-as_slice-2
branches_end-returns-in_default-as_slice-2 t c =
    let seen = ap view c.in-Array.is ∙ view-Array c.in-Array.parts in
    two_end-many c.as_slice.result.now (omega arith) ∙ ap (λ vs. spec.two_end (items_view vs)) c.as_slice.ensures.value ∙ sym (ap spec.branches_end seen)

pub ends-returns-in-len1-up : goal.ends-returns-in-len1-up
ends-returns-in-len1-up t c =
    let seen = ap view c.in-Array.is ∙ view-Array c.in-Array.statements in
    let last = last_ends-last c.as_slice.result.now (length c.as_slice.result.now - 1) c.last-item.result (omega arith) c.last-item.is in
    c.is_end.ensures ∙ last ∙ ap (λ vs. spec.last_ends (items_view vs)) c.as_slice.ensures.value ∙ sym (ap spec.ends seen)
