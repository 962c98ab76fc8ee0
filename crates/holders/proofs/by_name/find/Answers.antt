use Rattle.std.proofs.Common.{sym}
use Rattle.holders.proofs.Places.{lookup_at, lookup_gap}
use Rattle.holders.proofs.by_name.find.Goals as goal

pub returns-in-Ok : goal.returns-in-Ok
returns-in-Ok g c = sym (lookup_at c.args.rows.now c.args.name.now c.in-Ok.at c.index-rows-at.result c.in-Ok.ensures.found)

pub returns-in-Err : goal.returns-in-Err
returns-in-Err g c = lookup_gap c.args.rows.now c.args.name.now _ c.requires c.in-Err.ensures.absent
