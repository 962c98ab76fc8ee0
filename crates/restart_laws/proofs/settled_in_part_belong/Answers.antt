use Rattle.restart_laws.proofs.Belong.{settled_in_part_belong}
use Rattle.restart_laws.proofs.settled_in_part_belong.Goals as goal

pub returns : goal.returns
returns c = settled_in_part_belong
