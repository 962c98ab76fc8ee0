use Rattle.object_laws.proofs.Standing.{adders_on_top_shown}
use Rattle.object_laws.proofs.adders_on_top.Goals as goal

pub returns : goal.returns
returns c = adders_on_top_shown
