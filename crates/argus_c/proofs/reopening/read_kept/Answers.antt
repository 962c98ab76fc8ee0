use Rattle.std.proofs.Common.{Err, ap}
use Rattle.argus_c.proofs.reopening.read_kept.Goals as goal

pub returns-in-Err-Unfit-clause-bad : goal.returns-in-Err-Unfit-clause-bad
returns-in-Err-Unfit-clause-bad c e = c.in-Err-Unfit.ensures.refused (ap Err c.in-Err-Unfit.field-0-is)
