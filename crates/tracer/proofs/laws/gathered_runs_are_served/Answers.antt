use Rattle.run_laws.proofs.Serving.{runs_are_served}
use Rattle.tracer.proofs.laws.gathered_runs_are_served.Goals as goal

pub returns : goal.returns
returns c = λ opening hs past gathered run. runs_are_served opening past run
