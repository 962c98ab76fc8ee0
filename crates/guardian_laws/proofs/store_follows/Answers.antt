use Rattle.guardian_laws.proofs.Following.{store_follows}
use Rattle.guardian_laws.proofs.store_follows.Goals as goal

pub returns : goal.returns
returns c = store_follows
