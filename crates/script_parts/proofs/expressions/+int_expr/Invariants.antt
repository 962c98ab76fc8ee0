use Rattle.std.proofs.Common.{◌+◌, ◌*◌}
use Rattle.serde_json.specs.Data.{depth}
use Rattle.serde_json.specs.View.{view}
use Rattle.script_parts.proofs.expressions.+int_expr.Given as goal

abbrev pub decreases-int_expr : goal.decreases-int_expr
decreases-int_expr l = 2 * depth (view l.json.now)

abbrev pub decreases-int_member : goal.decreases-int_member
decreases-int_member l = 2 * depth (view l.json.now) + 1

abbrev pub decreases-int_operands : goal.decreases-int_operands
decreases-int_operands l = 2 * depth (view l.json.now)
