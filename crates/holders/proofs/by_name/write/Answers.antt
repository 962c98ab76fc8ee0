use Rattle.holders.proofs.Places.{no_name_at_gap, set_row, set_gap}
use Rattle.holders.proofs.by_name.write.Goals as goal

pub returns-in-Ok : goal.returns-in-Ok
returns-in-Ok g c =
    set_row c.args.rows.now.items c.args.name.now c.in-Ok.at c.index_mut-entry.result.now c.args.row (rw c.deref.ensures.value at c.in-Ok.ensures.found)
    c.index_mut-entry.ensures.value

pub returns-in_default : goal.returns-in_default
returns-in_default g c =
    let gap = rw c.deref.ensures.value at c.in_default.ensures.absent in
    set_gap c.args.rows.now.items c.args.name.now c.args.row (no_name_at_gap c.args.rows.now.items c.args.name.now _ c.requires gap)
