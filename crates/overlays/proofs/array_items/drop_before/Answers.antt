use Rattle.std.proofs.Common.{filter, sym, ap, ◌∙◌, rules}
use Rattle.std.specs.Prelude.{FitsSigned, int_le}
use Rattle.std.specs.Int.{w64}
use Rattle.std.proofs.lemmas.Int.{to_z-of_z}
use Rattle.overlays.proofs.Outside.{all_from, first_popped}
use Rattle.overlays.proofs.array_items.drop_before.Goals as goal

pub loop-items-preserved-in-loop-items : goal.loop-items-preserved-in-loop-items
loop-items-preserved-in-loop-items c =
    first_popped _ c.loop-items.items.entries _ c.pop_first.result c.pop_first.ensures.removal c.pop_first.ensures.all_above c.pop_first.ensures.unchanged (sym c.begins_before.ensures ∙ c.loop-items-test.true)
    ∙ c.loop-items.invariant

pub loop-items-preserved-in-loop-items-2 : goal.loop-items-preserved-in-loop-items-2
loop-items-preserved-in-loop-items-2 c =
    first_popped _ c.loop-items.items.entries _ c.pop_first.result c.pop_first.ensures.removal c.pop_first.ensures.all_above c.pop_first.ensures.unchanged (sym c.begins_before.ensures ∙ c.loop-items-test.true)
    ∙ c.loop-items.invariant

pub returns : goal.returns
returns c =
    let fits : FitsSigned w64 c.args.low = search rules in
    sym (all_from _ c.loop-items.items.entries (sym c.begins_before.ensures ∙ c.loop-items-test.false)) ∙ c.loop-items.invariant
    ∙ ap (λ z. filter (λ e. int_le z e.0) c.args.items.now.entries) (to_z-of_z w64 c.args.low fits)
