use Rattle.std.proofs.Common.{Some, refl, ap, ◌∙◌}
use Rattle.std.proofs.lemmas.Option.{slice_get_past, slice_get_read}
use Rattle.serde_json.specs.View.{view, items_view}
use Rattle.script.proofs.Wanted.{wanted_kind-found, wanted_kind-lost}
use Rattle.script.proofs.signatures.wanted_kind.Goals as goal

pub returns-in_err-get : goal.returns-in_err-get
returns-in_err-get c =
    let vs = c.deref.result.now in
    let params = ap (λ ws. Some (items_view ws)) c.deref.ensures.value ∙ c.in_ok-params_in.ensures in
    c.from_residual-in_err-get.ensures ∙ wanted_kind-lost (view c.args.handler.now) vs c.args.index params (slice_get_past vs c.args.index c.in_err-get.ensures.lookup.3)

pub returns : goal.returns
returns c =
    let vs = c.deref.result.now in
    let v = c.in_ok-get.field-0.now in
    let params = ap (λ ws. Some (items_view ws)) c.deref.ensures.value ∙ c.in_ok-params_in.ensures in
    let found = slice_get_read vs _ c.args.index v refl c.in_ok-get.ensures.lookup.3.0 c.in_ok-get.ensures.lookup.1 in
    c.param_kind.ensures ∙ wanted_kind-found (view c.args.handler.now) vs c.args.index v params found
