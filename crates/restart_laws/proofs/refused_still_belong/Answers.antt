use Rattle.restart_laws.proofs.Reopening.{refused_still_belong}
use Rattle.restart_laws.proofs.refused_still_belong.Goals as goal

pub returns : goal.returns
returns g c = refused_still_belong g.S.Stable.seen
