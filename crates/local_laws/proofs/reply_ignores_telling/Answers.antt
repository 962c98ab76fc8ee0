use Rattle.local_laws.proofs.NoLocalRuns.{reply_ignores_telling}
use Rattle.local_laws.proofs.reply_ignores_telling.Goals as goal

pub returns : goal.returns
returns c = reply_ignores_telling
