use Rattle.script_engine.proofs.Texts.{one_stored_run}
use Rattle.script_runs.specs.SerialRuns.{ComesSerially}
use Rattle.script_runs.proofs.Outcomes.{one_outcome}
use Rattle.script_runs.proofs.laws.one_serial_stored_run.Goals as goal

pub returns : goal.returns
returns c = one_stored_run ComesSerially one_outcome
