use Rattle.std.proofs.Common.{arith, rules}
use Rattle.store_tables.proofs.Greatest.{greater_one, max_is}
use Rattle.store_tables.proofs.first.next_after.Goals as goal

pub returns : goal.returns
returns c =
    let m = c.last_prepared.result in
    let n = c.last_decided.result in
    let k = c.max-last.result in
    let is = c.max-last.ensures in (
      k,
      greater_one _ _ m n k c.last_prepared.ensures c.last_decided.ensures (omega (arith, is)) (omega (arith, is)) (max_is m n k is),
      search rules,
    )
