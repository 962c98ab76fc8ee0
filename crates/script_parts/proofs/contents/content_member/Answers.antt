use Rattle.std.proofs.Common.{sym, ◌∙◌}
use Rattle.serde_json.specs.View.{view}
use Rattle.script_parts.specs.Places.{pointer}
use Rattle.script_parts.proofs.Forms.{content_array, content_variant, content_counter}
use Rattle.script_parts.proofs.contents.content_member.Goals as goal

pub returns-then-eq-2 : goal.returns-then-eq-2
returns-then-eq-2 c =
    content_array c.args.name.now (view c.args.json.now) (pointer c.args.place.now) _ _ (sym c.eq.ensures ∙ c.if-eq.false)
    (sym c.eq-else-eq.ensures ∙ c.if-eq-2.true)
    c.member-then-eq-2.ensures c.array_in.ensures

pub returns-then-eq-3 : goal.returns-then-eq-3
returns-then-eq-3 c =
    content_variant c.args.name.now (view c.args.json.now) (pointer c.args.place.now) _ _ (sym c.eq.ensures ∙ c.if-eq.false)
    (sym c.eq-else-eq.ensures ∙ c.if-eq-2.false)
    (sym c.eq-else-eq-2.ensures ∙ c.if-eq-3.true) c.member-then-eq-3.ensures c.variant_in.ensures

pub returns-then-eq-4 : goal.returns-then-eq-4
returns-then-eq-4 c =
    content_counter c.args.name.now (view c.args.json.now) (pointer c.args.place.now) _ _ (sym c.eq.ensures ∙ c.if-eq.false)
    (sym c.eq-else-eq.ensures ∙ c.if-eq-2.false)
    (sym c.eq-else-eq-2.ensures ∙ c.if-eq-3.false)
    (sym c.eq-else-eq-3.ensures ∙ c.if-eq-4.true) c.member-then-eq-4.ensures c.counter_in.ensures
