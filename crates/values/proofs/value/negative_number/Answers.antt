use Rattle.std.proofs.Common.{◌≡◌, ◌≤◌, get_or, arith}
use Rattle.values.proofs.Numbers.{negative_found}
use Rattle.values.proofs.value.negative_number.Goals as goal

pub returns-in-45 : goal.returns-in-45
returns-in-45 c =
    let minus : get_or c.as_bytes.result.now 0 0 ≡ 45 = omega arith in
    let low : 49 ≤ get_or c.as_bytes.result.now 1 0 = omega arith in
    let high : get_or c.as_bytes.result.now 1 0 ≤ 57 = omega arith in
    rw c.ok.ensures.value
    (negative_found c.args.text.now c.parse.result c.parse.ensures.value.0 (rw c.as_bytes.ensures.value at minus) (rw c.as_bytes.ensures.value at low) (rw c.as_bytes.ensures.value at high))
