use Rattle.local_laws.proofs.Totals.{top_with_deltas}
use Rattle.local_laws.proofs.top_with_deltas.Goals as goal

pub returns : goal.returns
returns c = top_with_deltas
