use Rattle.std.proofs.Common.{◌<◌, arith, get_or, length}
use Rattle.std.proofs.lemmas.List.{get_or_default}
use Rattle.store_texts.proofs.Maps.{one_more_number}
use Rattle.store_texts.proofs.rising.set_of.Goals as goal

pub loop-number-preserved : goal.loop-number-preserved
loop-number-preserved c =
    let all = c.args.numbers.now in
    let i = c.loop-number.number-index in
    let within : i < length all = omega (arith, c.loop-number-test.true) in
    one_more_number all c.loop-number.set.keys _ i (get_or all i 0) c.requires c.loop-number.invariant within
    (get_or_default all i 0 (get_or all i 0) within) c.in_ok-insert.ensures.keys
