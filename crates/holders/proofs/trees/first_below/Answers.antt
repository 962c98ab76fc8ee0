use Rattle.std.proofs.Common.{sym, ◌∙◌}
use Rattle.holders.proofs.Below.{none_at_end, none_at_other}
use Rattle.holders.proofs.trees.first_below.Goals as goal

pub returns-in_err-first-clause-none : goal.returns-in_err-first-clause-none
returns-in_err-first-clause-none g c = λ _.
    none_at_end c.args.action.now c.args.rows.now.entries _ c.range.ensures.ordered (c.range.ensures.between tt) c.in_err-first.ensures.steps.0

pub returns-else-is_ancestor-clause-none : goal.returns-else-is_ancestor-clause-none
returns-else-is_ancestor-clause-none g c = λ _.
    none_at_other c.args.action.now c.args.rows.now.entries _ _ _ c.range.ensures.ordered (c.range.ensures.between tt) c.in_ok-first.ensures.steps
    (sym c.is_ancestor.ensures ∙ c.if-is_ancestor.false)
