use Rattle.argus_engine.proofs.Verdicts.{one_verdict}
use Rattle.argus_engine.proofs.tracing.one_verdict.Goals as goal

pub returns : goal.returns
returns c = one_verdict
