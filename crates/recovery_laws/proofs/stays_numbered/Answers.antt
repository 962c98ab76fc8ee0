use Rattle.recovery_laws.proofs.Opened.{stays_numbered}
use Rattle.recovery_laws.proofs.stays_numbered.Goals as goal

pub returns : goal.returns
returns c = stays_numbered
