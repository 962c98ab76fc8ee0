use Rattle.restart_laws.proofs.Belong.{opens_in_type_through_stops}
use Rattle.restart_laws.proofs.opens_in_type_through_stops.Goals as goal

pub returns : goal.returns
returns c = opens_in_type_through_stops
