use Rattle.object_laws.proofs.Concerned as concerned
use Rattle.object_laws.proofs.concerned_shown.Goals as goal

pub returns : goal.returns
returns c = concerned.concerned_shown
