use Rattle.local_laws.proofs.Laid.{records_are_held}
use Rattle.local_laws.proofs.records_are_held.Goals as goal

pub returns : goal.returns
returns c = records_are_held
