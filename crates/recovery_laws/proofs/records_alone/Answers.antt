use Rattle.recovery_laws.proofs.Resting.{records_alone}
use Rattle.recovery_laws.proofs.records_alone.Goals as goal

pub returns : goal.returns
returns c = records_alone
