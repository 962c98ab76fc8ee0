use Rattle.restart_laws.proofs.Belong.{stops_belong}
use Rattle.restart_laws.proofs.stops_belong.Goals as goal

pub returns : goal.returns
returns c = stops_belong
