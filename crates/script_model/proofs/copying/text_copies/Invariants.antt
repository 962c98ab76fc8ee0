use Rattle.std.proofs.Common.{take, ◌≡◌}
use Rattle.script_model.proofs.copying.text_copies.Given as goal

abbrev pub invariant-loop-expr : goal.invariant-loop-expr
invariant-loop-expr l = l.copies ≡ take l.expr-index l.exprs
