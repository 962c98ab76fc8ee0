use Rattle.restart_laws.proofs.Reopening.{refused_by_faults_alone}
use Rattle.restart_laws.proofs.refused_by_faults_alone.Goals as goal

pub returns : goal.returns
returns g c = refused_by_faults_alone g.S.Stable.seen
