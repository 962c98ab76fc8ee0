use Rattle.std.proofs.Common.{ap}
use Rattle.orphans.specs.Sending.{or_nothing}
use Rattle.orphans.proofs.sent.Sent.plan_place.Goals as goal

pub returns-clause-same : goal.returns-clause-same
returns-clause-same c = λ h life. ap or_nothing (c.reserve.ensures.entries.2 (h, life))
