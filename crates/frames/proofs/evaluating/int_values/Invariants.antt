use Rattle.std.proofs.Common.{take, Some, ◌≡◌}
use Rattle.frames.specs.Evaluating.{int_value}
use Rattle.frames.specs.Operating.{each}
use Rattle.frames.proofs.evaluating.int_values.Given as goal

-- the values so far are what the expressions before this one give
abbrev pub invariant-loop-expr : goal.invariant-loop-expr
invariant-loop-expr l = each (int_value l.ints) (take l.expr-index l.exprs) ≡ Some l.values.items
