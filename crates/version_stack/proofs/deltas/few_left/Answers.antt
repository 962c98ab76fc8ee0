use Rattle.std.proofs.Common.{◌≡◌, ap, arith, filter, take, ◌∙◌}
use Rattle.std.proofs.lemmas.List.{take_all}
use Rattle.holders.specs.Held.{held_in}
use Rattle.version_stack.specs.Beside.{sum_if_any, with_left}
use Rattle.version_stack.proofs.Amounts.{left_next}
use Rattle.version_stack.proofs.deltas.few_left.Goals as goal

pub loop-holder-preserved : goal.loop-holder-preserved
loop-holder-preserved g c =
    let x = c.loop-holder-item.result in
    c.with_left-sum.ensures ∙ ap (λ stays. with_left c.loop-holder.sum x.1 stays) c.stays.ensures
    ∙ left_next _ c.loop-holder.holder-index x (g.S.Survivors.stays c.args.survivors.now) _ c.loop-holder-item.is (omega (arith, c.loop-holder-test.true))
    c.loop-holder.invariant

pub returns : goal.returns
returns g c =
    let left = g.S.Survivors.stays c.args.survivors.now in
    let rows = c.args.rows.now in
    let i = c.loop-holder.holder-index in
    let all : take i rows ≡ rows = take_all i rows (omega (arith, c.loop-holder-test.false)) in
    c.loop-holder.invariant ∙ ap (λ rs. sum_if_any (filter (λ d. left d.0) (held_in rs))) all
