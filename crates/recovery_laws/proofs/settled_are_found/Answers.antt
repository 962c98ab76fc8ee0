use Rattle.recovery_laws.proofs.OpenedStores.{settled_are_found}
use Rattle.recovery_laws.proofs.settled_are_found.Goals as goal

pub returns : goal.returns
returns c = settled_are_found
