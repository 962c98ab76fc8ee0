use Rattle.tracer.proofs.Left as leaving
use Rattle.tracer.proofs.laws.runs_are_gathered.Goals as goal

pub returns : goal.returns
returns c = leaving.runs_are_gathered
