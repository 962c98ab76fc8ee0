use Rattle.activities.proofs.Runs.{serial_runs_are_run}
use Rattle.activities.proofs.laws.serial_runs_are_run.Goals as goal

pub returns : goal.returns
returns c = serial_runs_are_run
