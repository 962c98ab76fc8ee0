use Rattle.locked_run.proofs.RisingStamps.{stamps_rise}
use Rattle.locked_run.proofs.laws.stamps_rise.Goals as goal

pub returns : goal.returns
returns c = stamps_rise
