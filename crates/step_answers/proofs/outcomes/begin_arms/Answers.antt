use Rattle.std.proofs.Common.{ap, min, ℕ, ◌∙◌}
use Rattle.action_names.specs.Names.{Name}
use Rattle.run_model.specs.declared.answer.Answer.TheVariants.{Began}
use Rattle.run_model.specs.Refusals.{arm_names}
use Rattle.step_answers.specs.Arms.{uses_up}
use Rattle.step_answers.specs.Saying.{Said}
use Rattle.step_answers.proofs.ArmNames.{cut_left, cut_names}
use Rattle.step_answers.proofs.outcomes.begin_arms.Goals as goal

pub arm_names-requires : goal.arm_names-requires
arm_names-requires g c =
    let s : Said = c.requires.some.0 in
    let says = c.requires.some.1 in
    let next : Name → ℕ = s.facts.next in
    ap (λ ks. uses_up c.next-child.result c.next-top.result ks) c.as_slice.ensures
    ∙ cut_left c.args.parent.now c.args.kinds.now next c.next-child.result c.next-top.result
    (c.next-child.ensures s says ∙ ap (λ p. min (next p) 4294967296) c.components.ensures.numbers) (c.next-top.ensures s says) (c.requires.left s says)

pub returns : goal.returns
returns g c = λ s says.
    let next : Name → ℕ = s.facts.next in
    ap (λ names. Began names) (c.in_ok-names.ensures
    ∙ ap (λ ks. arm_names c.args.parent.now c.next-child.result c.next-top.result ks) c.as_slice.ensures
    ∙ cut_names c.args.parent.now c.args.kinds.now next c.next-child.result c.next-top.result
    (c.next-child.ensures s says ∙ ap (λ p. min (next p) 4294967296) c.components.ensures.numbers) (c.next-top.ensures s says) (c.requires.left s says))
