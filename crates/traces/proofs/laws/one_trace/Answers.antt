use Rattle.traces.proofs.OneTrace.{one_trace}
use Rattle.traces.proofs.laws.one_trace.Goals as goal

pub returns : goal.returns
returns c = one_trace
