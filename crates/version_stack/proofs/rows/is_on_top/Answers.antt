use Rattle.std.proofs.Common.{◌-◌, length, ◌∙◌, arith}
use Rattle.version_stack.proofs.Ends.{on_top_last}
use Rattle.version_stack.proofs.rows.is_on_top.Goals as goal

pub returns-in-len1-up : goal.returns-in-len1-up
returns-in-len1-up c =
    let ns = c.args.owners.now in
    let a = c.args.owner.now in
    c.eq.ensures ∙ rw c.last-item.is (on_top_last ns a c.last-item.result (length ns - 1) (omega arith))
