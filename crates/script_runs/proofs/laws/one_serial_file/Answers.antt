use Rattle.script_engine.proofs.Bytes.{one_file}
use Rattle.script_runs.specs.SerialRuns.{ComesSerially}
use Rattle.script_runs.proofs.Outcomes.{one_outcome}
use Rattle.script_runs.proofs.laws.one_serial_file.Goals as goal

pub returns : goal.returns
returns c = one_file ComesSerially one_outcome
