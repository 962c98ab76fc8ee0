use Rattle.std.proofs.Common.{◌≡◌, map, filter, rules, sym, ap, [], ◌∷◌, ◌∙◌}
use Rattle.std.specs.Map.Iter.{deref_pair}
use Rattle.std.proofs.lemmas.List.{map-append}
use Rattle.std.proofs.lemmas.Map.Iter.{iter_end}
use Rattle.holders.specs.Held.{held_in}
use Rattle.version_stack.specs.Beside.{sum_if_any, with_left}
use Rattle.version_stack.proofs.Amounts.{left_more}
use Rattle.version_stack.proofs.deltas.many_left.Goals as goal

pub loop-holder-preserved : goal.loop-holder-preserved
loop-holder-preserved g c =
    let left = g.S.Survivors.stays c.args.survivors.now in
    c.with_left-sum.ensures ∙ ap (λ stays. with_left c.loop-holder.sum c.in-Some.row.now stays) c.stays.ensures
    ∙ left_more (map deref_pair c.loop-holder.yielded) (deref_pair (c.in-Some.holder, c.in-Some.row)) left _ c.loop-holder.invariant
    ∙ sym (ap (λ rs. sum_if_any (filter (λ d. left d.0) (held_in rs))) (map-append deref_pair c.loop-holder.yielded ((c.in-Some.holder, c.in-Some.row) ∷ [])))

pub returns : goal.returns
returns g c =
    let left = g.S.Survivors.stays c.args.survivors.now in
    let all : map deref_pair c.loop-holder.yielded ≡ c.args.rows = search (rules, iter_end) in
    c.loop-holder.invariant ∙ ap (λ rows. sum_if_any (filter (λ d. left d.0) (held_in rows))) all
