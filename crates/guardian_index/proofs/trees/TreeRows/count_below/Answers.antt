use Rattle.std.proofs.Common.{◌+◌, ◌∙◌, sym, ap}
use Rattle.std.specs.Map.Iter.{deref_pair}
use Rattle.std.proofs.lemmas.Map.Iter.{rest_more}
use Rattle.guardian_index.proofs.Counts.{count_all}
use Rattle.guardian_index.proofs.Descendants.{first_below, one_below, all_below, all_counted, row_counted}
use Rattle.guardian_index.proofs.trees.TreeRows.count_below.Goals as goal

pub loop-holder-init : goal.loop-holder-init
loop-holder-init c =
    let es = c.self.inside.rows.entries in
    all_counted _ c.args.action.now es _ c.self.view_is
    (all_below c.args.action.now es c.range-holder-items.result _ c.range-holder-items.ensures.ordered (c.range-holder-items.ensures.between tt)
    c.into_iter-holder-iterator.ensures.into_iter_gives)

pub loop-holder-preserved : goal.loop-holder-preserved
loop-holder-preserved c =
    let a = c.args.action.now in
    let rest = c.next.new.self in
    let more = rest_more deref_pair c.loop-holder.holder-iterator rest c.next.result (c.in-Some.holder, c.in-Some.objects) c.in-Some.is c.next.ensures.steps in
    ap (λ n. n + count_all (first_below a rest)) c.in_ok-count.ensures.1
    ∙ row_counted (first_below a c.loop-holder.holder-iterator) (first_below a rest) _ c.loop-holder.count c.len.result
    (one_below a c.loop-holder.holder-iterator _ rest more (sym c.is_ancestor.ensures ∙ c.if-not-is_ancestor.false)) (c.len.ensures ∙ c.in-Some.objects.now.ok.0)
    ∙ c.loop-holder.invariant
