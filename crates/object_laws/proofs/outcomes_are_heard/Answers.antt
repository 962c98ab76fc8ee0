use Rattle.object_laws.proofs.Events.{outcomes_are_heard_is}
use Rattle.object_laws.proofs.outcomes_are_heard.Goals as goal

pub returns : goal.returns
returns c = outcomes_are_heard_is
