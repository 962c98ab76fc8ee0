use Rattle.local_laws.proofs.ReadBack.{records_read_back}
use Rattle.local_laws.proofs.records_read_back.Goals as goal

pub returns : goal.returns
returns c = records_read_back
