use Rattle.restart_laws.proofs.Belong.{belong_through_stops}
use Rattle.restart_laws.proofs.belong_through_stops.Goals as goal

pub returns : goal.returns
returns c = belong_through_stops
