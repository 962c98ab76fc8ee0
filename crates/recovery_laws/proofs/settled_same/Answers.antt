use Rattle.recovery_laws.proofs.Ordered.{settled_same}
use Rattle.recovery_laws.proofs.settled_same.Goals as goal

pub returns : goal.returns
returns c = settled_same
