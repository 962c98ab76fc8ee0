use Rattle.std.proofs.Common.{◌≡◌, Err, ap, ◌∙◌, rules}
use Rattle.serde_json.specs.Read.{read}
use Rattle.values.specs.declared.words.ValueFault.TheVariants.{Unfit}
use Rattle.values.proofs.Documents.{no_spelling}
use Rattle.store_tables.specs.PartTexts.{delta_data}
use Rattle.store_tables.proofs.PartTexts.{read-delta_text}
use Rattle.store_tables.proofs.text.delta_from_text.Goals as goal

pub returns-in_err-by-clause-refused : goal.returns-in_err-by-clause-refused
returns-in_err-by-clause-refused c = λ unfit z fits same.
    let is : c.in_err-by.field-0.0 ≡ Unfit = search rules in
    c.in_err-by.ensures.refused (ap Err is) z fits (ap read same ∙ read-delta_text z fits)

pub returns-then-ne-clause-refused : goal.returns-then-ne-clause-refused
returns-then-ne-clause-refused c = λ unfit z fits same.
    let written = c.as_str.ensures.value ∙ c.in_ok-delta_text.ensures.text in
    no_spelling c.args.text.now c.as_str.result.now (delta_data c.in_ok-by.by) (delta_data z) c.in_ok-by.ensures.found written c.if-ne.ensures (read-delta_text z fits) same
