use Rattle.recovery_laws.proofs.Ordered.{settled_in_any_order}
use Rattle.recovery_laws.proofs.settled_in_any_order.Goals as goal

pub returns : goal.returns
returns c = settled_in_any_order
