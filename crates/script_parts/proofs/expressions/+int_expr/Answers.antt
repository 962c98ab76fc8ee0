use Rattle.std.proofs.Common.{◌<◌, arith, rules}
use Rattle.serde_json.specs.Data.{depth}
use Rattle.serde_json.specs.View.{view}
use Rattle.script_parts.proofs.Depths.{depth-only, depth-pair}
use Rattle.script_parts.proofs.ExpressionShapes.{int_expr_only, operands_pair}
use Rattle.script_parts.proofs.expressions.+int_expr.Goals as goal

pub int_expr-int_member-requires : goal.int_expr-int_member-requires
int_expr-int_member-requires t c =
    let less : depth (view c.in-Some-only_member.inner.now) < depth (view c.args.json.now) = depth-only _ _ _ c.in-Some-only_member.ensures in
    (omega (arith, c.decreases), tt)

pub int_expr-returns-in-Some-only_member : goal.int_expr-returns-in-Some-only_member
int_expr-returns-in-Some-only_member t c = rw (int_expr_only c.args.scope.now _ _ _ c.in-Some-only_member.ensures) c.int_member.ensures

pub int_operands-int_expr-requires : goal.int_operands-int_expr-requires
int_operands-int_expr-requires t c =
    let less : depth (view c.in_ok-first.first.now) < depth (view c.args.json.now) = (depth-pair _ _ _ _ c.in_ok-first.ensures).0 in
    (omega (arith, c.decreases), tt)

pub int_operands-returns-in_err-x : goal.int_operands-returns-in_err-x
int_operands-returns-in_err-x t c = rw (operands_pair c.args.scope.now _ _ _ _ c.in_ok-first.ensures) (search rules)

pub int_operands-int_expr-requires-2 : goal.int_operands-int_expr-requires-2
int_operands-int_expr-requires-2 t c =
    let less : depth (view c.in_ok-first.second.now) < depth (view c.args.json.now) = (depth-pair _ _ _ _ c.in_ok-first.ensures).1 in
    (omega (arith, c.decreases), tt)

pub int_operands-returns-in_err-y : goal.int_operands-returns-in_err-y
int_operands-returns-in_err-y t c = rw (operands_pair c.args.scope.now _ _ _ _ c.in_ok-first.ensures) (search rules)

pub int_operands-returns : goal.int_operands-returns
int_operands-returns t c = rw (operands_pair c.args.scope.now _ _ _ _ c.in_ok-first.ensures) (search rules)
