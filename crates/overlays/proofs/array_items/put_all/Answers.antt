use Rattle.std.proofs.Common.{None, Some, sym, ap, ◌∙◌, rules}
use Rattle.std.specs.Prelude.{FitsSigned, if◌then◌else◌}
use Rattle.std.specs.Int.{w64}
use Rattle.std.specs.Ordering.{int_cmp}
use Rattle.std.specs.BTreeMap.{is_at}
use Rattle.std.proofs.lemmas.Int.{to_z-of_z}
use Rattle.overlays.specs.ArrayItems.{put_back_all}
use Rattle.overlays.specs.ArrayOverlays.{changed_at, put_over}
use Rattle.overlays.proofs.PutBack.{put_back_last, put_last}
use Rattle.overlays.proofs.array_items.put_all.Goals as goal

pub loop-index-preserved : goal.loop-index-preserved
loop-index-preserved c =
    let es = c.loop-index.items.entries in
    let new = c.replace.new.items.entries in
    let index = c.in-Some.index in
    let fits : FitsSigned w64 index = search rules in
    let at = to_z-of_z w64 index fits in
    record {
      same = λ i. put_last index c.in-Some.item c.pop.new.self.items es new
          (λ q. c.in-Ok.ensures.put q ∙ ap (λ k. if is_at (int_cmp k) q then Some c.in-Some.item else changed_at es q) at) i
          ∙ ap (λ xs. put_over None xs es i) (sym c.in-Some.ensures.items) ∙ c.loop-index.invariant.same i;
      before = ap (λ rs. put_back_all rs new) c.push_reserved.ensures.items ∙ put_back_last c.loop-index.before.items _ new
          ∙ ap (put_back_all c.loop-index.before.items) c.in-Ok.ensures.back ∙ c.loop-index.invariant.before;
      room = search rules;
    }
