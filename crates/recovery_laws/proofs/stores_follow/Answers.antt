use Rattle.recovery_laws.proofs.Following.{stores_follow}
use Rattle.recovery_laws.proofs.stores_follow.Goals as goal

pub returns : goal.returns
returns c = stores_follow
