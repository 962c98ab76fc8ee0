use Rattle.restart_laws.proofs.Belong.{next_opens_in_type}
use Rattle.restart_laws.proofs.next_opens_in_type.Goals as goal

pub returns : goal.returns
returns c = next_opens_in_type
