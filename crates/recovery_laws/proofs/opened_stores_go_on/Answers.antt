use Rattle.recovery_laws.proofs.OpenedStores.{opened_stores_go_on}
use Rattle.recovery_laws.proofs.opened_stores_go_on.Goals as goal

pub returns : goal.returns
returns c = opened_stores_go_on
