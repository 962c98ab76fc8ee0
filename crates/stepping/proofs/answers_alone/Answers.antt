use Rattle.stepping.proofs.Beside.{alone}
use Rattle.stepping.proofs.answers_alone.Goals as goal

pub returns : goal.returns
returns c = alone
