use Rattle.object_laws.proofs.Standing.{knows_shown_law}
use Rattle.object_laws.proofs.knows_shown.Goals as goal

pub returns : goal.returns
returns c = knows_shown_law
