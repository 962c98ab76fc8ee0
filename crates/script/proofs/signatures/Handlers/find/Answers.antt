use Rattle.std.proofs.Common.{◌≡◌, option_map, refl, ap, ◌∙◌, arith}
use Rattle.std.proofs.lemmas.Option.{slice_get_past, slice_get_read}
use Rattle.serde_json.specs.Data.{no_members}
use Rattle.serde_json.specs.View.{view, items_view, members_view}
use Rattle.serde_json.proofs.Views.{items_len-items_view}
use Rattle.script_model.specs.Signatures.{handlers_before}
use Rattle.script.specs.Found.{found_in}
use Rattle.script.proofs.Numbered.{found_in-no_guardian, found_in-no_handler, found_in-handler, handlers_before-most, place_among-most}
use Rattle.script.proofs.signatures.Handlers.find.Goals as goal

pub returns-in_err-get : goal.returns-in_err-get
returns-in_err-get c =
    let gs = c.self.inside.guardians.now in
    ap (option_map (λ p. (p.0, view p.1.now))) c.from_residual.ensures
    ∙ found_in-no_guardian gs c.args.guardian c.args.name.now (slice_get_past gs c.args.guardian c.in_err-get.ensures.lookup.3)
    ∙ ap (λ hs. found_in (items_view hs) c.args.guardian c.args.name.now) c.self.view_is

pub returns-in_err-handlers : goal.returns-in_err-handlers
returns-in_err-handlers c =
    let gs = c.self.inside.guardians.now in
    let g = c.in_ok-get.field-0.now in
    let at = slice_get_read gs _ c.args.guardian g refl c.in_ok-get.ensures.lookup.3.0 c.in_ok-get.ensures.lookup.1 in
    ap (option_map (λ p. (p.0, view p.1.now))) c.from_residual-in_err-handlers.ensures
    ∙ found_in-no_handler gs c.args.guardian c.args.name.now g no_members at c.in_err-handlers.ensures refl
    ∙ ap (λ hs. found_in (items_view hs) c.args.guardian c.args.name.now) c.self.view_is

pub returns-in_err-handler : goal.returns-in_err-handler
returns-in_err-handler c =
    let gs = c.self.inside.guardians.now in
    let g = c.in_ok-get.field-0.now in
    let at = slice_get_read gs _ c.args.guardian g refl c.in_ok-get.ensures.lookup.3.0 c.in_ok-get.ensures.lookup.1 in
    ap (option_map (λ p. (p.0, view p.1.now))) c.from_residual-in_err-handler.ensures
    ∙ found_in-no_handler gs c.args.guardian c.args.name.now g (members_view c.in_ok-handlers.handlers.now.entries) at c.in_ok-handlers.ensures c.in_err-handler.ensures
    ∙ ap (λ hs. found_in (items_view hs) c.args.guardian c.args.name.now) c.self.view_is

pub returns-in_err-before : goal.returns-in_err-before
returns-in_err-before c =
    let each = items_len-items_view c.self.inside.guardians.now in
    absurd (omega (arith, c.in_err-before.ensures.lookup.3, c.in_ok-get.ensures.lookup.3.0, c.self.invariant.for_each, c.deref.ensures.len))

pub overflow_add-result : goal.overflow_add-result
overflow_add-result c =
    let gs = c.self.inside.guardians.now in
    let n = c.args.guardian in
    let each = items_len-items_view gs in
    let read = slice_get_read c.deref.result.now _ n c.in_ok-before.field-0.now refl c.in_ok-before.ensures.lookup.3.0 c.in_ok-before.ensures.lookup.1 in
    let kept = c.self.invariant.counts n (omega (arith, c.in_ok-get.ensures.lookup.3.0, c.self.invariant.for_each)) in
    let same : c.in_ok-before.field-0.now ≡ handlers_before n (items_view gs) = cc (c.deref.ensures.value) in
    omega (
      arith,
      same,
      handlers_before-most n (items_view gs),
      place_among-most 64 c.args.name.now (members_view c.in_ok-handlers.handlers.now.entries),
      c.self.invariant.few,
      c.in_ok-get.ensures.lookup.3.0,
    )

pub returns : goal.returns
returns c =
    let gs = c.self.inside.guardians.now in
    let n = c.args.guardian in
    let g = c.in_ok-get.field-0.now in
    let each = items_len-items_view gs in
    let at = slice_get_read gs _ n g refl c.in_ok-get.ensures.lookup.3.0 c.in_ok-get.ensures.lookup.1 in
    let read = slice_get_read c.deref.result.now _ n c.in_ok-before.field-0.now refl c.in_ok-before.ensures.lookup.3.0 c.in_ok-before.ensures.lookup.1 in
    let kept = c.self.invariant.counts n (omega (arith, c.in_ok-get.ensures.lookup.3.0, c.self.invariant.for_each)) in
    let same : c.in_ok-before.field-0.now ≡ handlers_before n (items_view gs) = cc (c.deref.ensures.value) in
    found_in-handler gs n c.args.name.now g (members_view c.in_ok-handlers.handlers.now.entries) (view c.in_ok-handler.handler.now) c.in_ok-before.field-0.now c.place_among.result
    at c.in_ok-handlers.ensures c.in_ok-handler.ensures same c.place_among.ensures
    ∙ ap (λ hs. found_in (items_view hs) n c.args.name.now) c.self.view_is
