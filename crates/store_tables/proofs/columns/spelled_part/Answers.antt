use Rattle.std.proofs.Common.{IfOk, subst, sym}
use Rattle.sqlite.specs.Order.{column}
use Rattle.store_tables.specs.Spellings.{Spells}
use Rattle.store_tables.proofs.Told.{told_by, value_text, not_a_delta}
use Rattle.store_tables.proofs.columns.spelled_part.Goals as goal

pub returns-in-Text-clause-part : goal.returns-in-Text-clause-part
returns-in-Text-clause-part c = subst (λ s. IfOk c.text_part.result (λ part. Spells s (column c.args.row.now c.args.at) part)) (sym c.in-Text.is) c.text_part.ensures.part

pub returns-in-Text-clause-told : goal.returns-in-Text-clause-told
returns-in-Text-clause-told c is part spelled = c.text_part.ensures.told is part (subst (λ s. Spells s (column c.args.row.now c.args.at) part) c.in-Text.is spelled)

pub returns-in_err-content-in-ValueText-clause-told : goal.returns-in_err-content-in-ValueText-clause-told
returns-in_err-content-in-ValueText-clause-told c is part spelled =
    c.in_err-content-in-ValueText.ensures.told (told_by c.from_residual.result c.in_err-content-in-ValueText.field-0.0 c.from_residual.ensures.1 is) part
    (value_text (column c.args.row.now c.args.at) part (subst (λ s. Spells s (column c.args.row.now c.args.at) part) c.in-ValueText.is spelled))

pub returns-in-Delta-clause-told : goal.returns-in-Delta-clause-told
returns-in-Delta-clause-told c is part spelled =
    not_a_delta (column c.args.row.now c.args.at) c.in_ok-content-in-ValueText.field-0 c.in-Delta.field-0 part c.in-Delta.is c.in_ok-content-in-ValueText.ensures.part
    (subst (λ s. Spells s (column c.args.row.now c.args.at) part) c.in-ValueText.is spelled)
