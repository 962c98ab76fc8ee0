use Rattle.std.proofs.Common.{◌≡◌, length, Some, option_map, sym, ap, ◌∙◌, arith, rules}
use Rattle.std.proofs.lemmas.Int.{to_z-of_z}
use mir.Val.{SFits}
use mir.Syntax.{w64}
use Rattle.serde_json.specs.View.{view, items_view}
use Rattle.script.proofs.StatementCallee.{callee_other, callee_three, called_none, called_found, found_some}
use Rattle.script.proofs.statements.Context.callee.Goals.{in_default-via-then-as_slice-lt3, in_default-via-else-as_slice-lt3+else-this-lt4}
use Rattle.script.proofs.statements.Context.callee.Goals as goal

pub returns-in_err-index-in-len3 : goal.returns-in_err-index-in-len3
returns-in_err-index-in-len3 c =
    let hs = c.args.self.now.handlers.now in
    let list = ap (λ vs. Some (items_view vs)) c.as_slice.ensures.value ∙ c.in_ok-as_array.ensures in
    let three = callee_three (items_view hs) (view c.args.json.now) c.as_slice.result.now c.number-item.result c.name-item.result list (omega arith) c.number-item.is c.name-item.is in
    let fits : SFits w64 c.in_ok-as_i64-in-len3.field-0 = search rules in
    let none = rw to_z-of_z at c.in_err-index-in-len3.ensures.value in
    ap (option_map (λ d. view d.now)) c.from_residual-in_err-index-in-len3.ensures
    ∙ called_none hs (view c.number-item.result) (view c.name-item.result) c.in_ok-as_i64-in-len3.field-0 c.guardians.result
    c.in_ok-as_i64-in-len3.ensures c.guardians.ensures none
    ∙ sym three

pub returns-in_ok-handler-in-len3 : goal.returns-in_ok-handler-in-len3
returns-in_ok-handler-in-len3 c =
    let hs = c.args.self.now.handlers.now in
    let s = c.in_ok-as_str-in-len3.field-0.now in
    let n = c.in_ok-index-in-len3.index in
    let list = ap (λ vs. Some (items_view vs)) c.as_slice.ensures.value ∙ c.in_ok-as_array.ensures in
    let three = callee_three (items_view hs) (view c.args.json.now) c.as_slice.result.now c.number-item.result c.name-item.result list (omega arith) c.number-item.is c.name-item.is in
    let fits : SFits w64 c.in_ok-as_i64-in-len3.field-0 = search rules in
    let found = rw to_z-of_z at c.in_ok-index-in-len3.ensures.value in
    sym (found_some (items_view hs) n s c.in_ok-handler-in-len3.field-0-0 (view c.in_ok-handler-in-len3.handler.now) c.in_ok-handler-in-len3.ensures)
    ∙ called_found hs (view c.number-item.result) (view c.name-item.result) c.in_ok-as_i64-in-len3.field-0 c.guardians.result n s
    c.in_ok-as_i64-in-len3.ensures c.guardians.ensures found c.in_ok-as_str-in-len3.ensures
    ∙ sym three

pub returns-in_default : goal.returns-in_default
returns-in_default c =
    let list = ap (λ vs. Some (items_view vs)) c.as_slice.ensures.value ∙ c.in_ok-as_array.ensures in
    let other : length c.as_slice.result.now ≡ 3 → ⊥ = λ three. elim c.in_default.branch [
      | in_default-via-then-as_slice-lt3 w ↦ absurd (grind (arith, w.if-as_slice-lt3-1.true))
      | in_default-via-else-as_slice-lt3+else-this-lt4 w ↦ absurd (grind (arith, w.if-this-lt4-1.false))
    ] in
    sym (callee_other (items_view c.args.self.now.handlers.now) (view c.args.json.now) c.as_slice.result.now list other)
