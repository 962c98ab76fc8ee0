use Rattle.std.proofs.Common.{◌≡◌, map, of_z, to_z, w64, rules, sym, ap, [], ◌∷◌, ◌∙◌}
use Rattle.std.specs.Map.Iter.{deref_pair}
use Rattle.std.specs.Option.{option_copied as name_of}
use Rattle.std.proofs.lemmas.List.{map-append}
use Rattle.std.proofs.lemmas.Map.Iter.{iter_end}
use Rattle.holders.specs.Held.{held_in}
use Rattle.version_stack.specs.Beside.{sum_beside}
use Rattle.version_stack.proofs.Amounts.{beside_more}
use Rattle.version_stack.proofs.deltas.many_beside.Goals as goal

pub loop-holder-preserved : goal.loop-holder-preserved
loop-holder-preserved c =
    let owner = name_of c.args.owner in
    let back : to_z w64 (of_z w64 c.with_beside-sum.result) ≡ c.with_beside-sum.result = search rules in
    back ∙ c.with_beside-sum.ensures ∙ beside_more (map deref_pair c.loop-holder.yielded) (deref_pair (c.in-Some.holder, c.in-Some.row)) owner _ c.loop-holder.invariant
    ∙ sym (ap (λ rs. sum_beside (held_in rs) owner) (map-append deref_pair c.loop-holder.yielded ((c.in-Some.holder, c.in-Some.row) ∷ [])))

pub returns : goal.returns
returns c =
    let owner = name_of c.args.owner in
    let all : map deref_pair c.loop-holder.yielded ≡ c.args.rows = search (rules, iter_end) in
    c.loop-holder.invariant ∙ ap (λ rows. sum_beside (held_in rows) owner) all
