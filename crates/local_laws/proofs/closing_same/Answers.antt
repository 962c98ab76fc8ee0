use Rattle.local_laws.proofs.Registry.{closing_same}
use Rattle.local_laws.proofs.closing_same.Goals as goal

pub returns : goal.returns
returns c = closing_same
