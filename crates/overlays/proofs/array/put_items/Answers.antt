use Rattle.std.proofs.Common.{sym, ap, ◌∙◌, subst, rules}
use Rattle.std.specs.Ordering.{int_cmp}
use Rattle.std.specs.List.Sorted.{IsStrictlySortedBy}
use Rattle.std.specs.Map.{keys_of}
use Rattle.std.specs.Map.Iter.{deref_pair}
use Rattle.std.proofs.lemmas.Map.Iter.{rest_more}
use Rattle.std.proofs.lemmas.Map.Keys.{sorted_tail}
use Rattle.std.specs.BTreeMap.{is_at}
use Rattle.std.specs.Prelude.{FitsSigned, Some, if◌then◌else◌}
use Rattle.std.specs.Int.{w64}
use Rattle.std.proofs.lemmas.Int.{to_z-of_z}
use Rattle.overlays.specs.ArrayOverlays.{put_over, lies_in, changed_at}
use Rattle.overlays.proofs.ArrayJoins.{put_taken, put_skipped}
use Rattle.overlays.proofs.array.put_items.Goals as goal

pub loop-index-preserved-in_ok-insert : goal.loop-index-preserved-in_ok-insert
loop-index-preserved-in_ok-insert c =
    let key = c.in-Some.index.now in
    let fits : FitsSigned w64 key = search rules in
    let at = to_z-of_z w64 key fits in
    let more = rest_more deref_pair _ _ _ (c.in-Some.index, c.in-Some.item) c.in-Some.is c.next.ensures.steps in
    let rising = subst (λ es. IsStrictlySortedBy int_cmp (keys_of es)) more c.loop-index.invariant.rising in
    record {
      rising = sorted_tail int_cmp key (keys_of c.next.new.self) rising;
      same = λ i. put_taken c.args.within key c.in-Some.item.now c.next.new.self c.loop-index.items.entries c.insert.new.self.entries rising
          (sym (ap (lies_in c.args.within) at) ∙ sym c.lies_in.ensures ∙ c.if-lies_in.true)
          (λ q. c.in_ok-insert.ensures.updates.0 q ∙ ap (λ k. if is_at (int_cmp k) q then Some c.in_ok-copy.field-0 else changed_at c.loop-index.items.entries q) at
          ∙ ap (λ v. if is_at (int_cmp key) q then Some v else changed_at c.loop-index.items.entries q) c.in_ok-copy.ensures.same) i
          ∙ ap (λ es. put_over c.args.within es c.loop-index.items.entries i) (sym more) ∙ c.loop-index.invariant.same i;
      ordered = λ h. c.insert.ensures.ordered;
    }

pub loop-index-preserved-in_ok-insert-2 : goal.loop-index-preserved-in_ok-insert-2
loop-index-preserved-in_ok-insert-2 c =
    let key = c.in-Some.index.now in
    let fits : FitsSigned w64 key = search rules in
    let at = to_z-of_z w64 key fits in
    let more = rest_more deref_pair _ _ _ (c.in-Some.index, c.in-Some.item) c.in-Some.is c.next.ensures.steps in
    let rising = subst (λ es. IsStrictlySortedBy int_cmp (keys_of es)) more c.loop-index.invariant.rising in
    record {
      rising = sorted_tail int_cmp key (keys_of c.next.new.self) rising;
      same = λ i. put_taken c.args.within key c.in-Some.item.now c.next.new.self c.loop-index.items.entries c.insert.new.self.entries rising
          (sym (ap (lies_in c.args.within) at) ∙ sym c.lies_in.ensures ∙ c.if-lies_in.true)
          (λ q. c.in_ok-insert.ensures.updates.0 q ∙ ap (λ k. if is_at (int_cmp k) q then Some c.in_ok-copy.field-0 else changed_at c.loop-index.items.entries q) at
          ∙ ap (λ v. if is_at (int_cmp key) q then Some v else changed_at c.loop-index.items.entries q) c.in_ok-copy.ensures.same) i
          ∙ ap (λ es. put_over c.args.within es c.loop-index.items.entries i) (sym more) ∙ c.loop-index.invariant.same i;
      ordered = λ h. c.insert.ensures.ordered;
    }

pub loop-index-preserved-in_ok-insert-3 : goal.loop-index-preserved-in_ok-insert-3
loop-index-preserved-in_ok-insert-3 c =
    let key = c.in-Some.index.now in
    let fits : FitsSigned w64 key = search rules in
    let at = to_z-of_z w64 key fits in
    let more = rest_more deref_pair _ _ _ (c.in-Some.index, c.in-Some.item) c.in-Some.is c.next.ensures.steps in
    let rising = subst (λ es. IsStrictlySortedBy int_cmp (keys_of es)) more c.loop-index.invariant.rising in
    record {
      rising = sorted_tail int_cmp key (keys_of c.next.new.self) rising;
      same = λ i. put_taken c.args.within key c.in-Some.item.now c.next.new.self c.loop-index.items.entries c.insert.new.self.entries rising
          (sym (ap (lies_in c.args.within) at) ∙ sym c.lies_in.ensures ∙ c.if-lies_in.true)
          (λ q. c.in_ok-insert.ensures.updates.0 q ∙ ap (λ k. if is_at (int_cmp k) q then Some c.in_ok-copy.field-0 else changed_at c.loop-index.items.entries q) at
          ∙ ap (λ v. if is_at (int_cmp key) q then Some v else changed_at c.loop-index.items.entries q) c.in_ok-copy.ensures.same) i
          ∙ ap (λ es. put_over c.args.within es c.loop-index.items.entries i) (sym more) ∙ c.loop-index.invariant.same i;
      ordered = λ h. c.insert.ensures.ordered;
    }

pub loop-index-preserved : goal.loop-index-preserved
loop-index-preserved c =
    let key = c.in-Some.index.now in
    let fits : FitsSigned w64 key = search rules in
    let at = to_z-of_z w64 key fits in
    let more = rest_more deref_pair _ _ _ (c.in-Some.index, c.in-Some.item) c.in-Some.is c.next.ensures.steps in
    let rising = subst (λ es. IsStrictlySortedBy int_cmp (keys_of es)) more c.loop-index.invariant.rising in
    record {
      rising = sorted_tail int_cmp key (keys_of c.next.new.self) rising;
      same = λ i. put_skipped c.args.within key c.in-Some.item.now c.next.new.self c.loop-index.items.entries
          (sym (ap (lies_in c.args.within) at) ∙ sym c.lies_in.ensures ∙ c.if-lies_in.false) i
          ∙ ap (λ es. put_over c.args.within es c.loop-index.items.entries i) (sym more) ∙ c.loop-index.invariant.same i;
      ordered = c.loop-index.invariant.ordered;
    }
