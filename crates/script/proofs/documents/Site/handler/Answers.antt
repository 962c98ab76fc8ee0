use Rattle.std.proofs.Common.{not, codes, refl, sym, ap, ap₂, ◌∙◌}
use Rattle.std.proofs.lemmas.Result.{err_from_is_err_and}
use Rattle.serde_json.specs.View.{view}
use Rattle.script_model.specs.declared.fault.FaultKind.TheVariants as is
use Rattle.script_model.specs.declared.checked.Handler.{Handler}
use Rattle.script_model.specs.Reading.{ask, need, step}
use Rattle.script_model.specs.StatementReading.{body_in}
use Rattle.script_model.specs.ScriptReading.{may_lack_value, parameters}
use Rattle.script_parts.specs.Places.{pointer}
use Rattle.script.specs.Sites.{site_of}
use Rattle.script.proofs.Readings.{HandlerBefore, handler_flow, handler_stop, handler_read}
use Rattle.script.proofs.documents.Site.handler.Goals as goal

pub returns-in_err-ask-2 : goal.returns-in_err-ask-2
returns-in_err-ask-2 c =
    let place = pointer c.args.place.now in
    let b = view c.in_ok-params.body.now in
    let lacks = c.may_lack_value-lacks.ensures ∙ ap (λ x. may_lack_value x b) c.gives_in.ensures in
    let q = err_from_is_err_and c.from_residual-in_err-ask-2.result c.from_residual-in_err-ask-2.ensures.1 in
    rw (q.1, q.2) (λ other.
    handler_flow (site_of c.args.self) c.args.number c.args.name.now (view c.args.json.now) place (view c.in_ok-params.params.now)
    (view c.in_ok-params.gives.now) b _
    (c.in_ok-params.ensures (codes "params") (codes "gives") (codes "body") refl) c.in_ok-ask.ensures
    (ap (λ x. ask (not x) is.Flow place) (sym lacks) ∙ c.in_err-ask-2.ensures other))

pub returns-in_err-body : goal.returns-in_err-body
returns-in_err-body c =
    let site = site_of c.args.self in
    let d = view c.args.json.now in
    let place = pointer c.args.place.now in
    let params = view c.in_ok-params.params.now in
    let given = view c.in_ok-params.gives.now in
    let b = view c.in_ok-params.body.now in
    let scope = c.in_ok-scope.scope in
    let gives = c.in_ok-gives.gives in
    let lacks = c.may_lack_value-lacks.ensures ∙ ap (λ x. may_lack_value x b) c.gives_in.ensures in
    let before : HandlerBefore site c.args.number d place b scope gives = record {
      params = params;
      given = given;
      parts = c.in_ok-params.ensures (codes "params") (codes "gives") (codes "body") refl;
      few = c.in_ok-ask.ensures;
      flow = ap (λ x. ask (not x) is.Flow place) (sym lacks) ∙ c.in_ok-ask-2.ensures;
      scope_is = ap (parameters params) (sym c.member.ensures) ∙ c.in_ok-scope.ensures;
      gives_is = ap (λ x. need x is.Shape (step place (codes "gives"))) (sym c.gives_in-2.ensures)
          ∙ ap (need c.gives_in-2.result is.Shape) (sym c.member-inside.ensures) ∙ c.in_ok-gives.ensures;
    } in
    let q = err_from_is_err_and c.from_residual-in_err-body.result c.from_residual-in_err-body.ensures.1 in
    rw (q.1, q.2) (λ other.
    handler_stop site c.args.number c.args.name.now d place b scope gives _ before
    (ap₂ (λ x p. body_in x scope b p) (sym c.context-context.ensures) (sym c.member-2.ensures) ∙ c.in_err-body.ensures.read other))

pub returns : goal.returns
returns c =
    let site = site_of c.args.self in
    let d = view c.args.json.now in
    let place = pointer c.args.place.now in
    let params = view c.in_ok-params.params.now in
    let given = view c.in_ok-params.gives.now in
    let b = view c.in_ok-params.body.now in
    let scope = c.in_ok-scope.scope in
    let gives = c.in_ok-gives.gives in
    let lacks = c.may_lack_value-lacks.ensures ∙ ap (λ x. may_lack_value x b) c.gives_in.ensures in
    let before : HandlerBefore site c.args.number d place b scope gives = record {
      params = params;
      given = given;
      parts = c.in_ok-params.ensures (codes "params") (codes "gives") (codes "body") refl;
      few = c.in_ok-ask.ensures;
      flow = ap (λ x. ask (not x) is.Flow place) (sym lacks) ∙ c.in_ok-ask-2.ensures;
      scope_is = ap (parameters params) (sym c.member.ensures) ∙ c.in_ok-scope.ensures;
      gives_is = ap (λ x. need x is.Shape (step place (codes "gives"))) (sym c.gives_in-2.ensures)
          ∙ ap (need c.gives_in-2.result is.Shape) (sym c.member-inside.ensures) ∙ c.in_ok-gives.ensures;
    } in
    let h : Handler = record {
      name = c.in_ok-identifier.field-0;
      guardian = c.args.self.guardian;
      ints = c.count-ints.result;
      texts = c.count-texts.result;
      gives = c.kind_given.result;
      body = c.in_ok-body.body;
    } in
    handler_read site c.args.number c.args.name.now d place b scope gives h before
    (ap₂ (λ x p. body_in x scope b p) (sym c.context-context.ensures) (sym c.member-2.ensures) ∙ c.in_ok-body.ensures.read)
    c.in_ok-identifier.ensures.read refl c.count-ints.ensures c.count-texts.ensures c.kind_given.ensures
