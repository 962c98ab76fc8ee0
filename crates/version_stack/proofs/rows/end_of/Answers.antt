use Rattle.std.proofs.Common.{sym, ◌∙◌}
use Rattle.version_stack.proofs.Ends.{end_unplaced, end_found}
use Rattle.version_stack.proofs.rows.end_of.Goals as goal

pub returns-in_err-at : goal.returns-in_err-at
returns-in_err-at c = c.from_residual.ensures ∙ sym (end_unplaced c.args.owners.now c.args.ends.now c.args.owner.now (sym c.in_err-at.ensures))

pub bounds-ends-at : goal.bounds-ends-at
bounds-ends-at c =
    let a = c.args.owner.now in
    (end_found c.args.owners.now c.args.ends.now a a 0 c.in_ok-at.at c.requires (sym c.in_ok-at.ensures)).0

pub returns : goal.returns
returns c =
    let a = c.args.owner.now in
    sym (end_found c.args.owners.now c.args.ends.now a a 0 c.in_ok-at.at c.requires (sym c.in_ok-at.ensures)).1
