use Rattle.service.proofs.Alone.{goes_by_itself}
use Rattle.service.proofs.goes_by_itself.Goals as goal

pub returns : goal.returns
returns c = goes_by_itself
