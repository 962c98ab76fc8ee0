use Rattle.object_laws.proofs.Standing.{owners_above_shown}
use Rattle.object_laws.proofs.owners_above.Goals as goal

pub returns : goal.returns
returns c = owners_above_shown
