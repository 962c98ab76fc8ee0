use Rattle.restart_laws.proofs.Reopening.{reopened_opens_in_type}
use Rattle.restart_laws.proofs.reopened_opens_in_type.Goals as goal

pub returns : goal.returns
returns g c = reopened_opens_in_type g.S.Stable.seen
