use Rattle.recovery_laws.proofs.Settled.{settled_stores}
use Rattle.recovery_laws.proofs.settled_stores.Goals as goal

pub returns : goal.returns
returns c = settled_stores
