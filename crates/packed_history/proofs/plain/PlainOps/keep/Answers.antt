use Rattle.std.proofs.Common.{List, [], ap, ap₂, arith, length, rules, ◌++◌, ◌∙◌, ◌∷◌, ◌≡◌}
use Rattle.std.specs.Int.{w64}
use Rattle.std.specs.Prelude.{ℤ}
use mir.Val.{of_z, to_z}
use Rattle.packed_history.specs.declared.plain.Plain.{Plain}
use Rattle.packed_history.proofs.Kept.{kept_plain}
use Rattle.packed_history.proofs.plain.PlainOps.keep.Goals as goal

pub returns-clause-ok : goal.returns-clause-ok
returns-clause-ok c =
    let inside = c.self.inside in
    let word = c.in-Some.word.now in
    let plain : ℤ → Plain =
    λ n. record { object = c.args.object; name = c.name.result; len = c.in-Ok.len; start = c.in-Ok-Ok.start; number = n } in
    let number = c.in-Some.number in
    let wrapped : to_z w64 (of_z w64 number) ≡ number = search rules in
    let long = ap (λ p. length p.words) c.self.view_is in
    kept_plain c.args.self.now (record { words = c.extend_from_slice.new.self.items; plain = c.push_reserved.new.self.items }) (plain number)
    c.args.operation.now word inside.plain.items c.in-Ok-Ok.place (ap (λ p. p.plain) c.self.view_is)
    (c.push_reserved.ensures.items ∙ ap₂ (λ (qs : List Plain) (n : ℤ). qs ++ plain n ∷ []) c.in_ok-reserve.ensures.items wrapped)
    (c.in_ok-extend_from_slice.ensures.items ∙ ap (λ p. p.words ++ word) c.self.view_is)
    (omega (arith, c.in-Ok-Ok.ensures, c.len.ensures, inside.plain.ok.0))
    (omega (arith, c.in-Ok-Ok.ensures', c.len-2.ensures, inside.words.ok.0, long))
    (omega (arith, c.in-Ok.ensures))
    c.name.ensures c.in-Some.ensures
