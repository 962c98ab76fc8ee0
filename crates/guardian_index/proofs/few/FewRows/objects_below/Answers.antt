use Rattle.std.proofs.Common.{◌||◌, ◌∙◌, arith, sym, ap, subst}
use Rattle.std.specs.Prelude.{◌↔◌, IsTrue}
use Rattle.guardian_index.specs.Held.{IsRising, has_number, HoldsBelow}
use Rattle.guardian_index.proofs.Numbers.{no_numbers}
use Rattle.guardian_index.proofs.Descendants.{next_left, none_taken, row_taken}
use Rattle.guardian_index.proofs.few.FewRows.objects_below.Goals as goal

pub loop-objects-init : goal.loop-objects-init
loop-objects-init c = record {
  rising = subst IsRising (sym c.new-below.ensures.items) no_numbers;
  numbers = none_taken _ c.args.action.now c.self.inside.rows.items _ c.new-below.result.items c.self.invariant.names c.self.view_is
      (rw c.deref.ensures.value at c.below-objects-items.ensures) c.new-below.ensures.items;
}

pub loop-objects-preserved : goal.loop-objects-preserved
loop-objects-preserved c =
    let i = c.loop-objects.objects-index in
    let row = c.loop-objects-item.result in
    let next = next_left _ i row c.loop-objects-item.is (omega (arith, c.loop-objects-test.true)) in
    record {
      rising = c.insert_all.ensures.rising;
      numbers = λ n.
          subst (λ t. IsTrue t ↔ HoldsBelow c.args.self.now c.args.action.now n)
          (sym (row_taken _ _ row c.loop-objects.below.items c.insert_all.new.objects.items next
          (λ m. c.insert_all.ensures.numbers m ∙ ap (λ ns. has_number ns m || has_number c.reserve.new.self.items m) c.deref-in-loop-objects.ensures.value
          ∙ ap (λ ns. has_number row.1.items m || has_number ns m) c.reserve.ensures.items) n))
          (c.loop-objects.invariant.numbers n);
    }
