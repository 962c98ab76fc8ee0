use Rattle.std.proofs.Common.{◌≤◌, get_or, arith}
use Rattle.values.proofs.Numbers.{number_found}
use Rattle.values.proofs.value.plain_number.Goals as goal

pub returns-in-49-to-57 : goal.returns-in-49-to-57
returns-in-49-to-57 c =
    let low : 49 ≤ get_or c.as_bytes.result.now 0 0 = omega arith in
    let high : get_or c.as_bytes.result.now 0 0 ≤ 57 = omega arith in
    rw c.ok.ensures.value (number_found c.args.text.now c.parse.result c.parse.ensures.value.0 (rw c.as_bytes.ensures.value at low) (rw c.as_bytes.ensures.value at high))
