use Rattle.std.proofs.Common.{◌≡◌, [], suc, codes, sym, ap, ap₂, ◌∙◌, arith}
use Rattle.std.proofs.lemmas.Result.{err_from_is_err_and}
use Rattle.serde_json.specs.View.{view}
use Rattle.serde_json.proofs.Views.{items_len-items_view}
use Rattle.script_model.specs.declared.names.Gives.TheVariants.{Anything}
use Rattle.script_model.specs.declared.checked.Client.{Client}
use Rattle.script_model.specs.Reading.{step}
use Rattle.script_model.specs.StatementReading.{body_in, guardian_numbered}
use Rattle.script_model.specs.ScriptReading.{Site, context_at}
use Rattle.script.specs.Contexts.{context_of}
use Rattle.script.specs.Handling.{documents_of}
use Rattle.script_parts.specs.Places.{pointer}
use Rattle.script.proofs.Readings.{ClientBefore, client_lost, client_stop, client_read, guardian_within}
use Rattle.script.proofs.documents.client_in.Goals as goal

pub number-requires : goal.number-requires
number-requires c =
    omega (
      arith,
      guardian_within c.guardians.result (view c.in_ok-home.home.now)
          (pointer c.member.result) c.in_ok-index.index c.in_ok-index.ensures,
      c.guardians.ensures,
    )

pub returns-in_err-index : goal.returns-in_err-index
returns-in_err-index c =
    let hs = c.args.handlers.now in
    let q = err_from_is_err_and c.from_residual-in_err-index.result c.from_residual-in_err-index.ensures.1 in
    rw (q.1, q.2) (λ other.
    client_lost (documents_of hs) c.args.objects.now (view c.args.json.now) (pointer c.args.place.now) (pointer c.member.result)
    (view c.in_ok-home.home.now) (view c.in_ok-home.body.now)
    c.guardians.result _ c.in_ok-home.ensures c.member.ensures (c.guardians.ensures ∙ sym (items_len-items_view hs))
    (c.in_err-index.ensures other))

pub returns-in_err-body : goal.returns-in_err-body
returns-in_err-body c =
    let hs = c.args.handlers.now in
    let gs = documents_of hs in
    let d = view c.args.json.now in
    let place = pointer c.args.place.now in
    let home = view c.in_ok-home.home.now in
    let b = view c.in_ok-home.body.now in
    let n = c.in_ok-index.index in
    let k = c.number.result in
    let inside = step place (codes "body") in
    let counts = c.guardians.ensures ∙ sym (items_len-items_view hs) in
    let before : ClientBefore gs d place b n = record {
      home = home;
      parts = c.in_ok-home.ensures;
      found = ap₂ (λ m p. guardian_numbered m home p) (sym counts) (sym c.member.ensures) ∙ c.in_ok-index.ensures;
    } in
    let around =
    ap (λ os. let s : Site = record { guardian = k; objects = os; guardians = gs } in context_at s Anything) (sym c.objects_of.ensures)
    ∙ sym c.context-context.ensures in
    let q = err_from_is_err_and c.from_residual-in_err-body.result c.from_residual-in_err-body.ensures.1 in
    rw (q.1, q.2) (λ other.
    client_stop gs c.args.objects.now d place b n k _ before
    (ap (λ x. body_in x [] b inside) around
    ∙ ap₂ (λ s p. body_in (context_of c.context-context.result) s b p) (sym c.new-scope.ensures) (sym c.member-2.ensures)
    ∙ c.in_err-body.ensures.read other))

pub returns : goal.returns
returns c =
    let hs = c.args.handlers.now in
    let gs = documents_of hs in
    let d = view c.args.json.now in
    let place = pointer c.args.place.now in
    let home = view c.in_ok-home.home.now in
    let b = view c.in_ok-home.body.now in
    let n = c.in_ok-index.index in
    let k = c.number.result in
    let inside = step place (codes "body") in
    let counts = c.guardians.ensures ∙ sym (items_len-items_view hs) in
    let before : ClientBefore gs d place b n = record {
      home = home;
      parts = c.in_ok-home.ensures;
      found = ap₂ (λ m p. guardian_numbered m home p) (sym counts) (sym c.member.ensures) ∙ c.in_ok-index.ensures;
    } in
    let around =
    ap (λ os. let s : Site = record { guardian = k; objects = os; guardians = gs } in context_at s Anything) (sym c.objects_of.ensures)
    ∙ sym c.context-context.ensures in
    let made : Client = record { home = k; body = c.in_ok-body.body } in
    let number : k ≡ suc n = omega (arith, c.number.ensures) in
    client_read gs c.args.objects.now d place b n k made before
    (ap (λ x. body_in x [] b inside) around
    ∙ ap₂ (λ s p. body_in (context_of c.context-context.result) s b p) (sym c.new-scope.ensures) (sym c.member-2.ensures)
    ∙ c.in_ok-body.ensures.read)
    number
