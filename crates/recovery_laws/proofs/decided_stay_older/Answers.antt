use Rattle.recovery_laws.proofs.Numbers.{decided_stay_older}
use Rattle.recovery_laws.proofs.decided_stay_older.Goals as goal

pub returns : goal.returns
returns c = decided_stay_older
