use Rattle.std.proofs.Common.{Some, ap, set, sym, ◌∙◌}
use Rattle.std.specs.List.{insert}
use Rattle.holders.proofs.Giving.{given_row}
use Rattle.holders.proofs.Places.{insert_gap, lookup_gap, lookup_row}
use Rattle.holders.proofs.by_name.put.Goals as goal

pub returns-in-Ok-clause-before : goal.returns-in-Ok-clause-before
returns-in-Ok-clause-before g c =
    let here = rw c.deref.ensures.value at c.in-Ok.ensures.found in
    ap (λ r. Some r) c.replace.ensures.value
    ∙ sym (lookup_row c.args.rows.now.items c.args.name.now c.in-Ok.at c.index_mut-entry.result.now here c.index_mut-entry.ensures.value)

pub returns-in-Ok-clause-ok : goal.returns-in-Ok-clause-ok
returns-in-Ok-clause-ok g c =
    let here = rw c.deref.ensures.value at c.in-Ok.ensures.found in
    ap (λ w. set c.args.rows.now.items c.in-Ok.at (c.index_mut-entry.result.now.0, w)) c.replace.ensures.after
    ∙ given_row c.args.rows.now.items c.args.name.now c.in-Ok.at c.index_mut-entry.result.now c.args.row here c.index_mut-entry.ensures.value

pub returns-in_ok-insert-in-Err-clause-before : goal.returns-in_ok-insert-in-Err-clause-before
returns-in_ok-insert-in-Err-clause-before g c =
    let gap = rw c.deref.ensures.value at c.in-Err.ensures.absent in
    lookup_gap c.args.rows.now.items c.args.name.now _ c.requires gap

pub returns-in_ok-insert-in-Err-clause-ok : goal.returns-in_ok-insert-in-Err-clause-ok
returns-in_ok-insert-in-Err-clause-ok g c =
    let gap = rw c.deref.ensures.value at c.in-Err.ensures.absent in
    c.in_ok-insert-in-Err.ensures.items ∙ ap (λ n. insert c.args.rows.now.items c.in-Err.at (n, c.args.row)) c.in_ok-own-in-Err.ensures.ok.1
    ∙ insert_gap c.args.rows.now.items c.args.name.now c.in-Err.at c.args.row gap
