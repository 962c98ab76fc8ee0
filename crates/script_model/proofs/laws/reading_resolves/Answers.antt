use Rattle.script_model.proofs.Scripts.{reading_resolves}
use Rattle.script_model.proofs.laws.reading_resolves.Goals as goal

pub returns : goal.returns
returns c = reading_resolves
