use Rattle.recovery_laws.proofs.OpenedStores.{next_opening_goes_on}
use Rattle.recovery_laws.proofs.next_opening_goes_on.Goals as goal

pub returns : goal.returns
returns c = next_opening_goes_on
