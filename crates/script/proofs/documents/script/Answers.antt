use Rattle.std.proofs.Common.{◌≡◌, Ok, sym, ap, ap₂, ◌∙◌, subst}
use Rattle.std.proofs.lemmas.Result.{err_from_is_err_and}
use Rattle.serde_json.specs.View.{view, items_view}
use Rattle.script_model.specs.Shapes.{the_list}
use Rattle.script_model.specs.ScriptReading.{clients, guardians_in}
use Rattle.limits.specs.Limits.{max_guardians}
use Rattle.script_parts.specs.Places.{pointer}
use Rattle.script.specs.Sites.{guardians_of}
use Rattle.script.proofs.Readings.{ScriptBefore, script_stop, script_read, list_within}
use Rattle.script.proofs.documents.script.Goals as goal

pub new-requires : goal.new-requires
new-requires c =
    list_within 1 max_guardians (view c.in_ok-first.first.now)
    (pointer c.member-above.result) c.in_ok-documents.documents.now c.in_ok-documents.ensures

pub returns-in_err-clients : goal.returns-in_err-clients
returns-in_err-clients c =
    let d = view c.args.json.now in
    let first = view c.in_ok-first.first.now in
    let b = view c.in_ok-first.second.now in
    let ds = items_view c.in_ok-documents.documents.now in
    let gs = guardians_of c.in_ok-guardians.guardians in
    let before : ScriptBefore d ds gs b = record {
      first = first;
      parts = c.in_ok-first.ensures;
      documents = subst (λ p. the_list 1 max_guardians first p ≡ Ok ds) c.member-above.ensures c.in_ok-documents.ensures;
      guardians = ap₂ (λ hs p. guardians_in (items_view hs) (items_view hs) p) (sym c.in_ok-handlers.ensures) (sym c.member-above.ensures)
          ∙ c.in_ok-guardians.ensures;
    } in
    let q = err_from_is_err_and c.from_residual-in_err-clients.result c.from_residual-in_err-clients.ensures.1 in
    rw (q.1, q.2) (λ other.
    script_stop d ds gs b _ before
    (ap₂ (λ hs p. clients (items_view hs) gs.objects b p) (sym c.in_ok-handlers.ensures) (sym c.member-below.ensures)
    ∙ ap (λ os. clients (items_view c.in_ok-handlers.handlers) os b (pointer c.member-below.result)) (sym c.as_slice.ensures)
    ∙ c.in_err-clients.ensures other))

pub returns : goal.returns
returns c =
    let d = view c.args.json.now in
    let first = view c.in_ok-first.first.now in
    let b = view c.in_ok-first.second.now in
    let ds = items_view c.in_ok-documents.documents.now in
    let gs = guardians_of c.in_ok-guardians.guardians in
    let before : ScriptBefore d ds gs b = record {
      first = first;
      parts = c.in_ok-first.ensures;
      documents = subst (λ p. the_list 1 max_guardians first p ≡ Ok ds) c.member-above.ensures c.in_ok-documents.ensures;
      guardians = ap₂ (λ hs p. guardians_in (items_view hs) (items_view hs) p) (sym c.in_ok-handlers.ensures) (sym c.member-above.ensures)
          ∙ c.in_ok-guardians.ensures;
    } in
    script_read d ds gs b c.in_ok-clients.clients before
    (ap₂ (λ hs p. clients (items_view hs) gs.objects b p) (sym c.in_ok-handlers.ensures) (sym c.member-below.ensures)
    ∙ ap (λ os. clients (items_view c.in_ok-handlers.handlers) os b (pointer c.member-below.result)) (sym c.as_slice.ensures)
    ∙ c.in_ok-clients.ensures)
