use Rattle.std.proofs.Common.{sym, ◌∙◌}
use Rattle.holders.proofs.Places.{lookup_row, lookup_gap, no_name_at_gap, remove_row, remove_gap}
use Rattle.holders.proofs.by_name.remove.Goals as goal

pub returns-in-Ok-clause-value : goal.returns-in-Ok-clause-value
returns-in-Ok-clause-value g c =
    let here = rw c.deref.ensures.value at c.in-Ok.ensures.found in
    sym (lookup_row c.args.rows.now.items c.args.name.now c.in-Ok.at c.remove.result here c.remove.ensures.value)

pub returns-in-Ok-clause-rows : goal.returns-in-Ok-clause-rows
returns-in-Ok-clause-rows g c =
    let here = rw c.deref.ensures.value at c.in-Ok.ensures.found in
    c.remove.ensures.items ∙ remove_row c.args.rows.now.items c.args.name.now c.in-Ok.at here

pub returns-in-Err-clause-value : goal.returns-in-Err-clause-value
returns-in-Err-clause-value g c =
    let gap = rw c.deref.ensures.value at c.in-Err.ensures.absent in
    lookup_gap c.args.rows.now.items c.args.name.now _ c.requires gap

pub returns-in-Err-clause-rows : goal.returns-in-Err-clause-rows
returns-in-Err-clause-rows g c =
    let gap = rw c.deref.ensures.value at c.in-Err.ensures.absent in
    remove_gap c.args.rows.now.items c.args.name.now (no_name_at_gap c.args.rows.now.items c.args.name.now _ c.requires gap)
