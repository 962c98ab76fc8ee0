use Rattle.runtime.proofs.Answering.{behind_none}
use Rattle.runtime.proofs.runtime.Runtime.step.Goals as goal

pub returns : goal.returns
returns g c = behind_none g.K.OfRun.opening c.args.step.now c.until_made.result c.until_made.ensures
