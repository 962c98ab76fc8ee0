use Rattle.recovery_laws.proofs.Stops.{serial_through_stops}
use Rattle.recovery_laws.proofs.serial_through_stops.Goals as goal

pub returns : goal.returns
returns c = serial_through_stops
