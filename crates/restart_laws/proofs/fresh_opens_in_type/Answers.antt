use Rattle.restart_laws.proofs.Objects.{fresh_opens_in_type}
use Rattle.restart_laws.proofs.fresh_opens_in_type.Goals as goal

pub returns : goal.returns
returns c = fresh_opens_in_type
