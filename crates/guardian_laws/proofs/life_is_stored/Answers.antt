use Rattle.guardian_laws.proofs.Reopened.{life_is_stored}
use Rattle.guardian_laws.proofs.life_is_stored.Goals as goal

pub returns : goal.returns
returns c = life_is_stored
