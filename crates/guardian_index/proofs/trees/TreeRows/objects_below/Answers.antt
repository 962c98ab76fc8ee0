use Rattle.std.proofs.Common.{◌||◌, ◌∙◌, sym, ap, subst}
use Rattle.std.specs.Prelude.{◌↔◌, IsTrue}
use Rattle.std.specs.Map.Iter.{deref_pair}
use Rattle.std.proofs.lemmas.Map.Iter.{rest_more}
use Rattle.guardian_index.specs.Held.{IsRising, has_number, HoldsBelow}
use Rattle.guardian_index.proofs.Numbers.{no_numbers}
use Rattle.guardian_index.proofs.Descendants.{all_below, first_below, one_below, none_taken, row_taken}
use Rattle.guardian_index.proofs.trees.TreeRows.objects_below.Goals as goal

pub loop-holder-init : goal.loop-holder-init
loop-holder-init c =
    let es = c.self.inside.rows.entries in
    record {
      rising = subst IsRising (sym c.new-below.ensures.items) no_numbers;
      numbers = none_taken _ c.args.action.now es _ c.new-below.result.items c.range-holder-items.ensures.ordered c.self.view_is
          (all_below c.args.action.now es c.range-holder-items.result _ c.range-holder-items.ensures.ordered (c.range-holder-items.ensures.between tt)
          c.into_iter-holder-iterator.ensures.into_iter_gives) c.new-below.ensures.items;
    }

pub loop-holder-preserved : goal.loop-holder-preserved
loop-holder-preserved c =
    let a = c.args.action.now in
    let rest = c.next.new.self in
    let row = c.in-Some.objects.now.items in
    let more = rest_more deref_pair c.loop-holder.holder-iterator rest c.next.result (c.in-Some.holder, c.in-Some.objects) c.in-Some.is c.next.ensures.steps in
    record {
      rising = c.insert_all.ensures.rising;
      numbers = λ n.
          subst (λ t. IsTrue t ↔ HoldsBelow c.args.self.now a n)
          (sym (row_taken (first_below a c.loop-holder.holder-iterator) (first_below a rest) _ c.loop-holder.below.items c.insert_all.new.objects.items
          (one_below a c.loop-holder.holder-iterator _ rest more (sym c.is_ancestor.ensures ∙ c.if-not-is_ancestor.false))
          (λ m. c.insert_all.ensures.numbers m ∙ ap (λ ns. has_number ns m || has_number c.reserve.new.self.items m) c.deref.ensures.value
          ∙ ap (λ ns. has_number row m || has_number ns m) c.reserve.ensures.items) n))
          (c.loop-holder.invariant.numbers n);
    }
