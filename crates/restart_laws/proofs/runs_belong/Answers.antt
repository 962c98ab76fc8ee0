use Rattle.restart_laws.proofs.Belong.{runs_belong}
use Rattle.restart_laws.proofs.runs_belong.Goals as goal

pub returns : goal.returns
returns c = runs_belong
