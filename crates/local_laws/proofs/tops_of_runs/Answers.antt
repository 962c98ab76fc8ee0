use Rattle.local_laws.proofs.Totals.{tops_of_runs}
use Rattle.local_laws.proofs.tops_of_runs.Goals as goal

pub returns : goal.returns
returns c = tops_of_runs
