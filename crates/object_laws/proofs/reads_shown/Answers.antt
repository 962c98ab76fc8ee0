use Rattle.object_laws.proofs.Topmost.{reads_shown}
use Rattle.object_laws.proofs.reads_shown.Goals as goal

pub returns : goal.returns
returns c = reads_shown
