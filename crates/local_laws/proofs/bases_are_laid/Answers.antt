use Rattle.local_laws.proofs.Laid.{bases_are_laid}
use Rattle.local_laws.proofs.bases_are_laid.Goals as goal

pub returns : goal.returns
returns c = bases_are_laid
