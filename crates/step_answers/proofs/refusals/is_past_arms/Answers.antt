use Rattle.std.proofs.Common.{ap, arith, length, min, sym, ℕ, ◌∙◌, ◌≤◌}
use Rattle.action_names.specs.Names.{Name}
use Rattle.step_answers.specs.Arms.{uses_up}
use Rattle.step_answers.proofs.ArmNames.{past_arms}
use Rattle.step_answers.proofs.refusals.is_past_arms.Goals as goal

pub returns : goal.returns
returns g c = λ s says.
    let next : Name → ℕ = s.facts.next in
    let few : length c.args.kinds.now ≤ 64 = omega arith in
    past_arms c.args.name.now c.args.kinds.now next c.uses_up.result (sym c.is_empty.ensures
    ∙ c.if-is_empty.false) few
    (c.uses_up.ensures ∙ ap (λ ks. uses_up c.next-child.result c.next-top.result ks) c.as_slice.ensures
    ∙ ap (λ n. uses_up n c.next-top.result c.args.kinds.now) (c.next-child.ensures s says ∙ ap (λ p. min (next p) 4294967296) c.components.ensures.numbers)
    ∙ ap (λ n. uses_up (min (next c.args.name.now) 4294967296) n c.args.kinds.now) (c.next-top.ensures s says))
