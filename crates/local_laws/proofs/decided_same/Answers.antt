use Rattle.local_laws.proofs.Stable.{decided_same}
use Rattle.local_laws.proofs.decided_same.Goals as goal

pub returns : goal.returns
returns c = decided_same
