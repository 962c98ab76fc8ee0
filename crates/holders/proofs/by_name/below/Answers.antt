use Rattle.std.proofs.lemmas.List.{take_rest}
use Rattle.holders.proofs.Below.{run_in}
use Rattle.holders.proofs.by_name.below.Goals as goal

pub returns : goal.returns
returns g c =
    let rows = c.args.rows.now in
    let from = c.start.result in
    run_in c.args.action.now rows _ from c.count_below.result c.requires c.start.ensures.start (take_rest rows from) c.count_below.ensures.count
