use Rattle.std.proofs.Common.{List, Some, ap, ap₂, arith, length, refl, rules, slice_get, sym, ℕ, ◌+◌, ◌∙◌, ◌≡◌}
use Rattle.std.specs.Int.{w64}
use Rattle.std.specs.Prelude.{slice_range}
use Rattle.std.proofs.lemmas.Option.{slice_get_read}
use Rattle.atomic_types.specs.declared.operation.Form.{Form}
use mir.Val.{of_z, to_z}
use Rattle.packed_history.specs.Plain.{plain_arguments}
use Rattle.packed_history.proofs.Kept.{plain_read}
use Rattle.packed_history.proofs.plain.PlainOps.operation.Goals as goal

pub returns-in-Some : goal.returns-in-Some
returns-in-Some c =
    let q = c.index-plain.result.now in
    let plain = c.self.inside.plain.items in
    let wrapped : to_z w64 (of_z w64 c.index-plain.result.now.number) ≡ c.index-plain.result.now.number = search rules in
    let long = ap (λ p. length p.plain) c.self.view_is in
    let there : slice_get c.args.self.now.plain c.args.place ≡ Some c.index-plain.result.now =
    sym (ap (λ p. slice_get p.plain c.args.place) c.self.view_is)
    ∙ slice_get_read plain (length plain) c.args.place q refl (omega (arith, c.requires.0, long)) c.index-plain.ensures in
    plain_read c.args.self.now c.args.place q c.in-Some.operation c.in_ok-arguments.arguments there
    (c.in_ok-arguments.ensures
    ∙ ap (λ n. plain_arguments c.form.result (slice_range c.deref.result.now q.start (q.start + q.len)) n) wrapped
    ∙ ap₂ (λ (f : Form) (ws : List ℕ). plain_arguments f (slice_range ws q.start (q.start + q.len)) q.number) c.form.ensures
    (c.deref.ensures.value ∙ ap (λ p. p.words) c.self.view_is))
    (sym c.of.ensures ∙ c.in-Some.is)
