use Rattle.std.proofs.Common.{◌≡◌, ◌++◌, codes, ap, ◌∙◌, rules, arith}
use Rattle.std.proofs.lemmas.Fmt.{decimal_digit}
use Rattle.run_model.specs.declared.answer.Answer.TheVariants.{Done}
use Rattle.run_model.specs.Texts.{answer_text}
use Rattle.run_model.proofs.answer.Answer.append_to.Goals as goal

-- the digit of 0
pub returns-in-Done-eq0-clause-ok : goal.returns-in-Done-eq0-clause-ok
returns-in-Done-eq0-clause-ok c =
    let none : c.in-Done-eq0.field-0 ≡ 0 = rw c.in-Done-eq0.is at c.in-Done-eq0.field-0-test in
    let done : c.args.self.now ≡ Done 0 = c.in-Done-eq0.is ∙ ap (λ n. Done n) none in
    let text : answer_text c.args.self.now ≡ codes "done 0" = ap answer_text done ∙ ap (λ t. codes "done " ++ t) (decimal_digit 0 (omega arith)) in
    rw text (search rules)
