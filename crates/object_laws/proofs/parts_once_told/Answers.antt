use Rattle.object_laws.proofs.OnceTold.{parts_once_told}
use Rattle.object_laws.proofs.parts_once_told.Goals as goal

pub returns : goal.returns
returns c = parts_once_told
