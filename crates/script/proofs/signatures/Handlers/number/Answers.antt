use Rattle.std.proofs.Common.{length, ap, arith}
use Rattle.serde_json.proofs.Views.{items_len-items_view}
use Rattle.script.proofs.signatures.Handlers.number.Goals as goal

pub overflow_cast-result : goal.overflow_cast-result
overflow_cast-result c = omega (arith, items_len-items_view c.self.inside.guardians.now, c.self.invariant.few, ap length c.self.view_is)

pub overflow_add-result : goal.overflow_add-result
overflow_add-result c = omega (arith, items_len-items_view c.self.inside.guardians.now, c.self.invariant.few, ap length c.self.view_is)
