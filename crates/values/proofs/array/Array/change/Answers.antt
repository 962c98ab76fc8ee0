use Rattle.std.proofs.Common.{◌≡◌, ◌-◌, length, take, drop, refl, sym, ap, ◌∙◌, subst, to_z, of_z, rules}
use Rattle.std.proofs.lemmas.Int.{to_z-of_z}
use Rattle.std.specs.Int.{w64}
use Rattle.std.specs.List.{AllByRecursion}
use Rattle.std.specs.Prelude.{FitsSigned, ℤ}
use Rattle.values.specs.declared.value.Value.{Value}
use Rattle.values.specs.Values.{kind_of}
use Rattle.values.specs.Items.{ArrayContent, HasArrayForm}
use Rattle.values.specs.Bounds.{plain_value, with_bounds, stored_over}
use Rattle.values.specs.Chunks.{cut_items}
use Rattle.values.proofs.Bounds.{form_with_bounds, form_stored, has_bounds, stored_from_items, kind_with_bounds}
use Rattle.values.proofs.array.Array.change.Goals as goal

pub invariant_of-self-2 : goal.invariant_of-self-2
invariant_of-self-2 c =
    let a : ArrayContent = record { kind = c.self.inside.kind; low = c.self.inside.low; items = c.self.inside.items.value } in
    let own : FitsSigned w64 a.low = search rules in
    let held = c.deref_mut.result.now in
    let v = plain_value a.kind in
    let dropped = c.min-dropped.result in
    let below = c.min-below.result in
    let kept = c.min-kept.result in
    let b : ArrayContent = record { kind = a.kind; low = to_z w64 (of_z w64 c.args.low); items = cut_items dropped kept below ((c.args.size - below) - kept) v held } in
    let bounds = has_bounds a c.args.low c.args.size _ _ c.steps_up.result c.steps_up-2.result c.len-count.result dropped below kept (take kept (drop dropped held)) b.items
    (to_z-of_z w64 c.args.low (search rules)) (to_z-of_z w64 a.low own) (c.len-count.ensures.value ∙ ap (λ xs. length xs) c.deref.ensures) c.steps_up.ensures c.steps_up-2.ensures c.min-dropped.ensures c.min-below.ensures c.min-kept.ensures
    (ap (λ xs. take kept (drop dropped xs)) c.deref_mut.ensures.value) refl in
    let stored = stored_from_items b (with_bounds a c.args.low c.args.size) c.args.items.items c.change.new.self bounds c.in_ok-change.ensures.ok in
    let kinds = subst (λ k. AllByRecursion (λ (e : ℤ × Value). kind_of e.1 ≡ k) c.args.items.items) (sym (kind_with_bounds a c.args.low c.args.size ∙ ap (λ (d : ArrayContent). d.kind) c.self.view_is)) c.requires.kinds in
    subst HasArrayForm (sym stored)
    (form_stored (with_bounds a c.args.low c.args.size) c.args.items.items (form_with_bounds a c.args.low c.args.size c.self.invariant c.requires.size c.requires.low c.requires.high) kinds)

pub returns-clause-ok : goal.returns-clause-ok
returns-clause-ok c =
    let a : ArrayContent = record { kind = c.self.inside.kind; low = c.self.inside.low; items = c.self.inside.items.value } in
    let own : FitsSigned w64 a.low = search rules in
    let held = c.deref_mut.result.now in
    let v = plain_value a.kind in
    let dropped = c.min-dropped.result in
    let below = c.min-below.result in
    let kept = c.min-kept.result in
    let b : ArrayContent = record { kind = a.kind; low = to_z w64 (of_z w64 c.args.low); items = cut_items dropped kept below ((c.args.size - below) - kept) v held } in
    let bounds = has_bounds a c.args.low c.args.size _ _ c.steps_up.result c.steps_up-2.result c.len-count.result dropped below kept (take kept (drop dropped held)) b.items
    (to_z-of_z w64 c.args.low (search rules)) (to_z-of_z w64 a.low own) (c.len-count.ensures.value ∙ ap (λ xs. length xs) c.deref.ensures) c.steps_up.ensures c.steps_up-2.ensures c.min-dropped.ensures c.min-below.ensures c.min-kept.ensures
    (ap (λ xs. take kept (drop dropped xs)) c.deref_mut.ensures.value) refl in
    let stored = stored_from_items b (with_bounds a c.args.low c.args.size) c.args.items.items c.change.new.self bounds c.in_ok-change.ensures.ok in
    stored ∙ ap (λ (d : ArrayContent). stored_over (with_bounds d c.args.low c.args.size) c.args.items.items) c.self.view_is
