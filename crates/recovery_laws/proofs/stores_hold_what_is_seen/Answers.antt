use Rattle.recovery_laws.proofs.OpenedStores.{stores_hold_what_is_seen}
use Rattle.recovery_laws.proofs.stores_hold_what_is_seen.Goals as goal

pub returns : goal.returns
returns c = stores_hold_what_is_seen
