use Rattle.object_laws.proofs.Standing.{none_between_shown}
use Rattle.object_laws.proofs.none_between.Goals as goal

pub returns : goal.returns
returns c = none_between_shown
