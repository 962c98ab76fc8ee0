use Rattle.recovery_laws.proofs.Following.{one_store_is_called}
use Rattle.recovery_laws.proofs.one_store_is_called.Goals as goal

pub returns : goal.returns
returns c = one_store_is_called
