use Rattle.recovery_laws.proofs.Opened.{opened_again_goes_on}
use Rattle.recovery_laws.proofs.opened_again_goes_on.Goals as goal

pub returns : goal.returns
returns c = opened_again_goes_on
