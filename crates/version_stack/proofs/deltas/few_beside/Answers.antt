use Rattle.std.proofs.Common.{◌≡◌, ap, arith, of_z, rules, take, to_z, w64, ◌∙◌}
use Rattle.std.specs.Option.{option_copied as name_of}
use Rattle.std.proofs.lemmas.List.{take_all}
use Rattle.holders.specs.Held.{held_in}
use Rattle.version_stack.specs.Beside.{sum_beside}
use Rattle.version_stack.proofs.Amounts.{beside_next}
use Rattle.version_stack.proofs.deltas.few_beside.Goals as goal

pub loop-holder-preserved : goal.loop-holder-preserved
loop-holder-preserved c =
    let back : to_z w64 (of_z w64 c.with_beside-sum.result) ≡ c.with_beside-sum.result = search rules in
    back ∙ c.with_beside-sum.ensures
    ∙ beside_next _ c.loop-holder.holder-index c.loop-holder-item.result (name_of c.args.owner) _ c.loop-holder-item.is (omega (arith, c.loop-holder-test.true))
    c.loop-holder.invariant

pub returns : goal.returns
returns c =
    let owner = name_of c.args.owner in
    let rows = c.args.rows.now in
    let i = c.loop-holder.holder-index in
    let all : take i rows ≡ rows = take_all i rows (omega (arith, c.loop-holder-test.false)) in
    c.loop-holder.invariant ∙ ap (λ rs. sum_beside (held_in rs) owner) all
