use Rattle.std.proofs.Common.{ap, arith, drop, length, take, ◌-◌, ◌∙◌, rules}
use Rattle.std.proofs.lemmas.Grind.{common_steps}
use Rattle.std.proofs.lemmas.List.{take_rest}
use Rattle.holders.proofs.Below.{run_out}
use Rattle.holders.proofs.by_name.drop_below.Goals as goal

pub returns : goal.returns
returns g c =
    let rows = c.args.rows.now.items in
    let from = c.start-from.result in
    let start = rw c.deref.ensures.value at c.start-from.ensures.start in
    run_out c.args.action.now rows _ _ from c.count_below-count.result c.requires start
    (ap (λ rs. take (length rs - from) (drop from rs)) c.deref-2.ensures.value ∙ take_rest rows from) c.count_below-count.ensures.count
    (first_of (search rules, cc, grind (arith, common_steps)))
