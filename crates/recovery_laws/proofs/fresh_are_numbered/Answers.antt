use Rattle.recovery_laws.proofs.Numbers.{fresh_are_numbered}
use Rattle.recovery_laws.proofs.fresh_are_numbered.Goals as goal

pub returns : goal.returns
returns c = fresh_are_numbered
