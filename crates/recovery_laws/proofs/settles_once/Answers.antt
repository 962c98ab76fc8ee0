use Rattle.recovery_laws.proofs.Opened.{settles_once}
use Rattle.recovery_laws.proofs.settles_once.Goals as goal

pub returns : goal.returns
returns c = settles_once
