use Rattle.restart_laws.proofs.Belong.{settled_belong}
use Rattle.restart_laws.proofs.settled_belong.Goals as goal

pub returns : goal.returns
returns c = settled_belong
