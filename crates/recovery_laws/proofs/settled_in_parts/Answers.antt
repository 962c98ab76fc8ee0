use Rattle.recovery_laws.proofs.Ordered.{settled_in_parts}
use Rattle.recovery_laws.proofs.settled_in_parts.Goals as goal

pub returns : goal.returns
returns c = settled_in_parts
