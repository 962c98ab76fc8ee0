use Rattle.script_runs.proofs.Outcomes as outcomes
use Rattle.script_runs.proofs.laws.serial_text.Goals as goal

pub returns : goal.returns
returns c = outcomes.one_text
