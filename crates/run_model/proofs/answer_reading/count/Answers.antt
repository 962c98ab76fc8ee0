use Rattle.std.proofs.Common.{List, ℕ, refl, sym, subst, ◌∙◌, arith, decimal}
use Rattle.std.specs.Str.Parse.{ParsesUnsigned}
use Rattle.std.proofs.lemmas.Fmt.{decimal_digit}
use Rattle.run_model.specs.Texts.{IsCount}
use Rattle.run_model.proofs.AnswerTexts.{count_found, no_count, no_empty_count}
use Rattle.run_model.proofs.Utf8.{not_utf8, number_is}
use Rattle.run_model.proofs.answer_reading.count.Goals as goal

pub returns-in_default : goal.returns-in_default
returns-in_default c = not_utf8 IsCount decimal c.args.text.now number_is c.in_default.ensures.cases.0

pub returns-then-is : goal.returns-then-is
returns-then-is c = (omega arith, c.if-is.ensures.0 refl ∙ sym (decimal_digit 0 (omega arith)))

pub returns-in-49-to-57 : goal.returns-in-49-to-57
returns-in-49-to-57 c =
    rw c.ok.ensures.value
    (count_found c.args.text.now c.parse.result (subst (λ (t : List ℕ). ParsesUnsigned 64 10 t c.parse.result) c.in-Ok.ensures.cases.0 c.parse.ensures.value.0) (omega arith) (omega arith))

pub returns-in_default-text : goal.returns-in_default-text
returns-in_default-text c = no_empty_count c.args.text.now c.in_default-text.len_below

pub returns-in_default-text-2 : goal.returns-in_default-text-2
returns-in_default-text-2 c = no_count c.args.text.now (λ e. let t = c.if-is.ensures.1 e in cc) (λ low high. omega arith)

pub returns-in_default-text-3 : goal.returns-in_default-text-3
returns-in_default-text-3 c = no_count c.args.text.now (λ e. let t = c.if-is.ensures.1 e in cc) (λ low high. omega arith)
