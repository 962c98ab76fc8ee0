use Rattle.object_laws.proofs.Standing.{blockers_shown_law}
use Rattle.object_laws.proofs.blockers_shown.Goals as goal

pub returns : goal.returns
returns c = blockers_shown_law
