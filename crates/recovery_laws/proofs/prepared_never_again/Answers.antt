use Rattle.recovery_laws.proofs.Opened.{prepared_never_again}
use Rattle.recovery_laws.proofs.prepared_never_again.Goals as goal

pub returns : goal.returns
returns c = prepared_never_again
