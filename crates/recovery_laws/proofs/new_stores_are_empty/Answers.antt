use Rattle.recovery_laws.proofs.Following.{new_stores_are_empty}
use Rattle.recovery_laws.proofs.new_stores_are_empty.Goals as goal

pub returns : goal.returns
returns c = new_stores_are_empty
