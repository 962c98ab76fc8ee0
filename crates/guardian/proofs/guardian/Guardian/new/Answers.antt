use Rattle.std.proofs.Common.{refl}
use Rattle.guardian.proofs.guardian.Guardian.new.Goals as goal

pub returns-in-Ok-clause-state : goal.returns-in-Ok-clause-state
returns-in-Ok-clause-state g c = c.over.ensures.state _ c.in-Ok.ensures refl c.requires.settled
