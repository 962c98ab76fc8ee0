use Rattle.std.proofs.Common.{true, false, sym, ap, ◌∙◌, arith}
use Rattle.values.specs.Words.{same_bytes}
use Rattle.script_parts.proofs.Held.{same_text, field_value-at, field_value-none}
use Rattle.script_parts.proofs.operations.field_named.Goals as goal

pub loop-field-preserved : goal.loop-field-preserved
loop-field-preserved c =
    let l = c.loop-field in
    let other = sym c.if-eq.false ∙ c.eq.ensures ∙ ap (λ s. same_bytes s c.args.name.now) c.as_str.ensures.value in
    l.invariant ∙ field_value-at c.args.fields.now l.field-index c.field-item.result c.args.name.now false (omega arith) c.field-item.is (sym other)

pub returns-then-eq : goal.returns-then-eq
returns-then-eq c =
    let l = c.loop-field in
    let same = sym c.if-eq.true ∙ c.eq.ensures ∙ ap (λ s. same_bytes s c.args.name.now) c.as_str.ensures.value in
    (same_text _ _ same, l.invariant ∙ field_value-at c.args.fields.now l.field-index c.field-item.result c.args.name.now true (omega arith) c.field-item.is (sym same))

pub returns : goal.returns
returns c = c.loop-field.invariant ∙ field_value-none c.args.fields.now c.loop-field.field-index c.args.name.now (omega arith)
