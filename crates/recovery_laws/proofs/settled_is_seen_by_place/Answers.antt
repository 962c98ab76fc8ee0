use Rattle.recovery_laws.proofs.Seen.{settled_is_seen_by_place}
use Rattle.recovery_laws.proofs.settled_is_seen_by_place.Goals as goal

pub returns : goal.returns
returns c = settled_is_seen_by_place
