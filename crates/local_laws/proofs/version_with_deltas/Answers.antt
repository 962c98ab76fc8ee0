use Rattle.local_laws.proofs.Totals.{version_with_deltas}
use Rattle.local_laws.proofs.version_with_deltas.Goals as goal

pub returns : goal.returns
returns c = version_with_deltas
