use Rattle.recovery_laws.proofs.StoreStops.{stop_within_any_step}
use Rattle.recovery_laws.proofs.stop_within_any_step.Goals as goal

pub returns : goal.returns
returns c = stop_within_any_step
