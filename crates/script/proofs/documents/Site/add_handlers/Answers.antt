use Rattle.std.proofs.Common.{◌≡◌, [], ◌∷◌, ◌++◌, length, length-append, Ok, Err, suc, string_bytes, append_assoc, subst, sym, ap, ap₂, ◌∙◌, arith, rules}
use Rattle.std.proofs.lemmas.Result.{err_from_is_err_and}
use Rattle.serde_json.specs.View.{view, members_view}
use Rattle.serde_json.proofs.Views.{Entry}
use Rattle.script_model.specs.declared.fault.FaultKind.TheVariants as is
use Rattle.script_model.specs.declared.checked.Handler.{Handler}
use Rattle.script_model.specs.Reading.{and_then, ask, step}
use Rattle.script_model.specs.ScriptReading.{handler, handlers_from}
use Rattle.script_parts.specs.Places.{pointer}
use Rattle.script_parts.proofs.Named.{first_named}
use Rattle.values.specs.Words.{IsIdentifier}
use Rattle.script.specs.Sites.{site_of}
use Rattle.script.proofs.Listed.{handlers_more, handlers_stop, handlers_at}
use Rattle.script.proofs.documents.Site.add_handlers.Goals as goal

pub returns-in_err-handler : goal.returns-in_err-handler
returns-in_err-handler c =
    let place = pointer c.args.place.now in
    let site = site_of c.args.self in
    let l = c.loop-name in
    let n = length l.handlers in
    let es = c.in_ok-members.members.now.entries in
    let e : Entry = (c.in-Some.name.now, c.in-Some.document.now) in
    let begun : es ≡ c.into_iter-name-iterator.result =
    first_of (search rules, cc (c.iter-name-items.ensures.rest, c.into_iter-name-iterator.ensures.into_iter_gives)) in
    let named = ap (λ b. ask b is.Shape place) (sym c.are_named.ensures) ∙ c.in_ok-ask.ensures in
    let q = err_from_is_err_and c.from_residual-in_err-handler.result c.from_residual-in_err-handler.ensures.1 in
    rw (q.1, q.2) (λ other.
    let x = c.in_err-handler.field-0.0 in
    let at : step place (string_bytes e.0) ≡ pointer c.member.result =
    ap (step place) (sym c.as_str-name.ensures.value) ∙ sym c.member.ensures in
    let read : handler site n (string_bytes e.0) (view e.1) (step place (string_bytes e.0)) ≡ Err x =
    ap₂ (λ m s. handler site m s (view e.1) (step place (string_bytes e.0))) (sym c.len.ensures) (sym c.as_str-name.ensures.value)
    ∙ ap (handler site c.len.result c.as_str-name.result.now (view e.1)) at ∙ c.in_err-handler.ensures other in
    handlers_at site (length c.args.handlers.now) (view c.args.json.now) (members_view es) place c.in_ok-members.ensures named
    ∙ ap (λ ds. handlers_from site (length c.args.handlers.now) (members_view ds) place) begun
    ∙ l.invariant.2
    ∙ ap (λ ds. and_then (handlers_from site n (members_view ds) place) (λ xs. Ok (l.invariant.0 ++ xs))) c.in-Some.ensures.steps
    ∙ handlers_stop site n e c.next.new.self place l.invariant.0 x read)

pub handler-requires : goal.handler-requires
handler-requires c =
    let e : Entry = (c.in-Some.name.now, c.in-Some.document.now) in
    subst (λ s. IsIdentifier s) (sym c.as_str-name.ensures.value)
    (first_named e c.next.new.self _ c.in-Some.ensures.steps c.loop-name.invariant.3).0

pub loop-name-preserved : goal.loop-name-preserved
loop-name-preserved c =
    let place = pointer c.args.place.now in
    let site = site_of c.args.self in
    let l = c.loop-name in
    let n = length l.handlers in
    let done = l.invariant.0 in
    let e : Entry = (c.in-Some.name.now, c.in-Some.document.now) in
    let h : Handler = c.in_ok-handler.handler in
    let at : step place (string_bytes e.0) ≡ pointer c.member.result =
    ap (step place) (sym c.as_str-name.ensures.value) ∙ sym c.member.ensures in
    let read : handler site n (string_bytes e.0) (view e.1) (step place (string_bytes e.0)) ≡ Ok h =
    ap₂ (λ m s. handler site m s (view e.1) (step place (string_bytes e.0))) (sym c.len.ensures) (sym c.as_str-name.ensures.value)
    ∙ ap (handler site c.len.result c.as_str-name.result.now (view e.1)) at ∙ c.in_ok-handler.ensures in
    let pushed : c.push.new.self ≡ l.handlers ++ h ∷ [] = c.in_ok-push.ensures.ok in
    let count : suc n ≡ length c.push.new.self = omega (arith, ap length pushed, length-append l.handlers (h ∷ [])) in (
      done ++ h ∷ [],
      pushed ∙ ap (λ hs. hs ++ h ∷ []) l.invariant.1 ∙ append_assoc _ done (h ∷ []),
      l.invariant.2
          ∙ ap (λ ds. and_then (handlers_from site n (members_view ds) place) (λ xs. Ok (done ++ xs))) c.in-Some.ensures.steps
          ∙ handlers_more site n _ e c.next.new.self place done h read count,
      (first_named e c.next.new.self _ c.in-Some.ensures.steps l.invariant.3).1,
    )
