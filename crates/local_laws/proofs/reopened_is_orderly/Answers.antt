use Rattle.local_laws.proofs.ReadBack.{reopened_is_orderly}
use Rattle.local_laws.proofs.reopened_is_orderly.Goals as goal

pub returns : goal.returns
returns c = reopened_is_orderly
