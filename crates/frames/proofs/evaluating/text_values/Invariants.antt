use Rattle.std.proofs.Common.{take, Some, ◌≡◌}
use Rattle.frames.specs.Evaluating.{text_value}
use Rattle.frames.specs.Operating.{each}
use Rattle.frames.proofs.evaluating.text_values.Given as goal

-- the texts so far are what the expressions before this one give
abbrev pub invariant-loop-expr : goal.invariant-loop-expr
invariant-loop-expr l = each (text_value l.texts) (take l.expr-index l.exprs) ≡ Some l.values.items
