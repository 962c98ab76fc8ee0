use Rattle.local_laws.proofs.NoLocalRuns.{lists_not_carried}
use Rattle.local_laws.proofs.lists_not_carried.Goals as goal

pub returns : goal.returns
returns c = lists_not_carried
