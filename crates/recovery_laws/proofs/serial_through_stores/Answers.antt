use Rattle.recovery_laws.proofs.OpenedStores.{serial_through_stores}
use Rattle.recovery_laws.proofs.serial_through_stores.Goals as goal

pub returns : goal.returns
returns c = serial_through_stores
