-- Operations whose arguments are still to be computed.
use Rattle.atomic_types.specs.declared.operation.Operation as generic
use Rattle.script_model.specs.declared.expression.IntExpr.{IntExpr}
use Rattle.script_model.specs.declared.expression.Expr.{Expr}

abbrev pub Operation : Type 0
Operation = generic.Operation IntExpr Expr
