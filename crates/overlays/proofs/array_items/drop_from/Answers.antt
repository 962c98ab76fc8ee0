use Rattle.std.proofs.Common.{filter, sym, ap, ◌∙◌, rules}
use Rattle.std.specs.Prelude.{FitsSigned, int_lt}
use Rattle.std.specs.Int.{w64}
use Rattle.std.proofs.lemmas.Int.{to_z-of_z}
use Rattle.overlays.proofs.Outside.{all_before, last_popped}
use Rattle.overlays.proofs.array_items.drop_from.Goals as goal

pub loop-items-preserved-in-loop-items : goal.loop-items-preserved-in-loop-items
loop-items-preserved-in-loop-items c =
    last_popped _ c.loop-items.items.entries _ c.pop_last.result c.pop_last.ensures.removal c.pop_last.ensures.all_below c.pop_last.ensures.unchanged (sym c.reaches.ensures ∙ c.loop-items-test.true)
    ∙ c.loop-items.invariant

pub loop-items-preserved-in-loop-items-2 : goal.loop-items-preserved-in-loop-items-2
loop-items-preserved-in-loop-items-2 c =
    last_popped _ c.loop-items.items.entries _ c.pop_last.result c.pop_last.ensures.removal c.pop_last.ensures.all_below c.pop_last.ensures.unchanged (sym c.reaches.ensures ∙ c.loop-items-test.true)
    ∙ c.loop-items.invariant

pub returns : goal.returns
returns c =
    let fits : FitsSigned w64 c.args.end = search rules in
    sym (all_before _ c.loop-items.items.entries (sym c.reaches.ensures ∙ c.loop-items-test.false)) ∙ c.loop-items.invariant
    ∙ ap (λ z. filter (λ e. int_lt e.0 z) c.args.items.now.entries) (to_z-of_z w64 c.args.end fits)
