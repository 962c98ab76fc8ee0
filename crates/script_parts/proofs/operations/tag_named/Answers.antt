use Rattle.std.proofs.Common.{true, false, sym, ap, ◌∙◌, arith}
use Rattle.values.specs.Words.{same_bytes}
use Rattle.script_parts.proofs.Held.{same_text, tag_kind-at, tag_kind-none}
use Rattle.script_parts.proofs.operations.tag_named.Goals as goal

pub loop-tag-preserved : goal.loop-tag-preserved
loop-tag-preserved c =
    let l = c.loop-tag in
    let other = sym c.if-eq.false ∙ c.eq.ensures ∙ ap (λ s. same_bytes s c.args.name.now) c.as_str.ensures.value in
    l.invariant ∙ tag_kind-at c.args.tags.now l.tag-index c.tag-item.result c.args.name.now false (omega arith) c.tag-item.is (sym other)

pub returns-then-eq : goal.returns-then-eq
returns-then-eq c =
    let l = c.loop-tag in
    let same = sym c.if-eq.true ∙ c.eq.ensures ∙ ap (λ s. same_bytes s c.args.name.now) c.as_str.ensures.value in
    (same_text _ _ same, l.invariant ∙ tag_kind-at c.args.tags.now l.tag-index c.tag-item.result c.args.name.now true (omega arith) c.tag-item.is (sym same))

pub returns : goal.returns
returns c = c.loop-tag.invariant ∙ tag_kind-none c.args.tags.now c.loop-tag.tag-index c.args.name.now (omega arith)
