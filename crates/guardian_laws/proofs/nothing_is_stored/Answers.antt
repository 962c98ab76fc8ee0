use Rattle.guardian_laws.proofs.Following.{nothing_is_stored}
use Rattle.guardian_laws.proofs.nothing_is_stored.Goals as goal

pub returns : goal.returns
returns c = nothing_is_stored
