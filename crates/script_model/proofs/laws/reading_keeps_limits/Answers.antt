use Rattle.script_model.proofs.Limits.{reading_keeps_limits}
use Rattle.script_model.proofs.laws.reading_keeps_limits.Goals as goal

pub returns : goal.returns
returns c = reading_keeps_limits
