use Rattle.std.proofs.Common.{ap, subst, sym, ◌∙◌, ◌∷◌, ◌≡◌}
use Rattle.std.specs.FinMap as map
use Rattle.std.proofs.lemmas.Map.Iter.{rest_more}
use Rattle.stable_store.specs.Stored.{laid}
use Rattle.stable_store.specs.Held.{parts_in}
use Rattle.stable_store.specs.Moved.{CanMove}
use Rattle.stable_store.proofs.Moving.{can_still, value_over}
use Rattle.stable_store.proofs.laid.move_over.Goals as goal

pub loop-object-preserved : goal.loop-object-preserved
loop-object-preserved c =
    let base = parts_in c.loop-object.base in
    let rest = c.next.new.self in
    let object = c.in-Some.object in
    let part = c.in-Some.part in
    let taken : c.loop-object.object-iterator ≡ (object, part) ∷ rest = rest_more (λ p. p) _ _ _ (object, part) c.in-Some.is c.next.ensures.steps in
    let can : CanMove ((object, part) ∷ rest) base = subst (λ l. CanMove l base) taken c.loop-object.invariant.can in
    let put : parts_in c.restore.new.base ≡ map.insert base object part = c.restore.ensures in
    record {
      can = subst (CanMove rest) (sym put) (can_still base object part rest can.1);
      same = ap (laid rest) (put ∙ sym (ap (map.insert base object) (value_over part (map.get base object) can.0.0)))
          ∙ ap (λ l. laid l base) (sym taken)
          ∙ c.loop-object.invariant.same;
    }
