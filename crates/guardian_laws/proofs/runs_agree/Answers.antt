use Rattle.guardian_laws.proofs.Agreement.{runs_agree}
use Rattle.guardian_laws.proofs.runs_agree.Goals as goal

pub returns : goal.returns
returns c = runs_agree
