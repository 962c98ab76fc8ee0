use Rattle.object_laws.proofs.Turns.{heard_in_turn_is}
use Rattle.object_laws.proofs.heard_in_turn.Goals as goal

pub returns : goal.returns
returns c = heard_in_turn_is
