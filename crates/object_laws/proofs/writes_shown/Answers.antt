use Rattle.object_laws.proofs.Topmost.{writes_shown}
use Rattle.object_laws.proofs.writes_shown.Goals as goal

pub returns : goal.returns
returns c = writes_shown
