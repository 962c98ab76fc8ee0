use Rattle.std.proofs.Common.{◌+◌, ◌∙◌, arith, drop, ap}
use Rattle.guardian_index.proofs.Counts.{count_all}
use Rattle.guardian_index.proofs.Descendants.{all_counted, next_left, row_counted}
use Rattle.guardian_index.proofs.few.FewRows.count_below.Goals as goal

pub loop-objects-init : goal.loop-objects-init
loop-objects-init c =
    all_counted _ c.args.action.now c.self.inside.rows.items _ c.self.view_is (rw c.deref.ensures.value at c.below-objects-items.ensures)

pub loop-objects-preserved : goal.loop-objects-preserved
loop-objects-preserved c =
    let i = c.loop-objects.objects-index in
    let row = c.loop-objects-item.result in
    let next = next_left _ i row c.loop-objects-item.is (omega (arith, c.loop-objects-test.true)) in
    ap (λ n. n + count_all (drop (i + 1) c.below-objects-items.result.now)) c.in_ok-count.ensures.1
    ∙ row_counted _ _ row c.loop-objects.count c.len.result next (c.len.ensures ∙ row.1.ok.0)
    ∙ c.loop-objects.invariant
