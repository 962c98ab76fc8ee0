use Rattle.std.proofs.Common.{arith}
use Rattle.holders.proofs.Places.{start_at_row, start_at_gap}
use Rattle.holders.proofs.by_name.start.Goals as goal

pub returns-in-Ok-clause-start : goal.returns-in-Ok-clause-start
returns-in-Ok-clause-start g c = start_at_row c.args.rows.now c.args.name.now c.in-Ok.at c.in-Ok.ensures.found

pub returns-in-Err-clause-start : goal.returns-in-Err-clause-start
returns-in-Err-clause-start g c = start_at_gap c.args.rows.now c.args.name.now c.in-Err.at c.in-Err.ensures.absent

pub returns-in-Ok-clause-within : goal.returns-in-Ok-clause-within
returns-in-Ok-clause-within g c = omega (arith, c.in-Ok.ensures.within)
