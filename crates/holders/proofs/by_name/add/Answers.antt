use Rattle.holders.proofs.Places.{added_row, there_again_row}
use Rattle.holders.proofs.by_name.add.Goals as goal

pub returns-in-Ok-clause-ok : goal.returns-in-Ok-clause-ok
returns-in-Ok-clause-ok g c = there_again_row c.args.rows.now.items c.args.name.now _ c.args.row (rw c.deref.ensures.value at c.in-Ok.ensures.found)

pub returns-in_ok-insert-in-Err-clause-ok : goal.returns-in_ok-insert-in-Err-clause-ok
returns-in_ok-insert-in-Err-clause-ok g c =
    added_row c.args.rows.now.items _ c.args.name.now _ c.in-Err.at c.args.row c.requires (rw c.deref.ensures.value at c.in-Err.ensures.absent)
    c.in_ok-own-in-Err.ensures.ok.1 c.in_ok-insert-in-Err.ensures.items
