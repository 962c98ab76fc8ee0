use Rattle.script_parts.proofs.ExpressionShapes.{text_expr_only}
use Rattle.script_parts.proofs.expressions.text_expr.Goals as goal

pub returns-in-Some-only_member : goal.returns-in-Some-only_member
returns-in-Some-only_member c = rw (text_expr_only c.args.scope.now _ _ _ c.in-Some-only_member.ensures) c.text_member.ensures
