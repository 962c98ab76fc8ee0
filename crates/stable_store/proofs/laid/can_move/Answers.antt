use Rattle.std.proofs.Common.{ap, is_some, subst, sym, ◌∙◌}
use Rattle.std.specs.Map.Iter.{deref_pair}
use Rattle.std.proofs.lemmas.Map.Iter.{rest_more}
use Rattle.stable_store.specs.Held.{parts_in}
use Rattle.stable_store.specs.Moved.{CanMove}
use Rattle.stable_store.proofs.Maps.{get_is}
use Rattle.stable_store.proofs.laid.can_move.Goals as goal
use Rattle.stable_store.proofs.laid.can_move.Goals.{then-not-is_value-via-then-not-is_value, then-not-is_value-via-else-not-is_value+then-not-contains_key}

pub loop-object-preserved : goal.loop-object-preserved
loop-object-preserved c =
    let base = parts_in c.args.base.now in
    let taken = rest_more deref_pair _ _ _ (c.in-Some.object, c.in-Some.part) c.in-Some.is c.next.ensures.steps in
    let value = sym c.is_value.ensures ∙ c.if-not-is_value.false in
    let there = ap is_some (get_is _ c.in-Some.object.now) ∙ sym c.contains_key.ensures ∙ c.if-not-contains_key.false in
    record {
      all = λ rest. c.loop-object.invariant.all (subst (λ l. CanMove l base) (sym taken) ((value, there), rest));
      rest = λ all. (subst (λ l. CanMove l base) taken (c.loop-object.invariant.rest all)).1;
    }

pub returns-then-not-is_value-clause-no : goal.returns-then-not-is_value-clause-no
returns-then-not-is_value-clause-no c = λ all.
    let taken = rest_more deref_pair _ _ _ (c.in-Some.object, c.in-Some.part) c.in-Some.is c.next.ensures.steps in
    let can = (subst (λ l. CanMove l (parts_in c.args.base.now)) taken (c.loop-object.invariant.rest all)).0 in
    elim c.then-not-is_value.branch [
      | then-not-is_value-via-then-not-is_value w ↦ sym w.if-not-is_value.true ∙ c.is_value.ensures ∙ can.0
      | then-not-is_value-via-else-not-is_value+then-not-contains_key w ↦
          sym w.if-not-contains_key.true ∙ w.contains_key.ensures ∙ sym (ap is_some (get_is _ c.in-Some.object.now)) ∙ can.1
    ]
