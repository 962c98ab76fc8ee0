use Rattle.recovery_laws.proofs.Numbers.{prepared_are_older}
use Rattle.recovery_laws.proofs.prepared_are_older.Goals as goal

pub returns : goal.returns
returns c = prepared_are_older
