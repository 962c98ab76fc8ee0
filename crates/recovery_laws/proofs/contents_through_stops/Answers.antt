use Rattle.recovery_laws.proofs.Stops.{contents_through_stops}
use Rattle.recovery_laws.proofs.contents_through_stops.Goals as goal

pub returns : goal.returns
returns c = contents_through_stops
