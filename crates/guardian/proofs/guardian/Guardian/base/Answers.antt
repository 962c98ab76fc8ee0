use Rattle.guardian.proofs.Whole.{inside}
use Rattle.guardian.proofs.guardian.Guardian.base.Goals as goal

pub returns-clause-base : goal.returns-clause-base
returns-clause-base g c = λ s at. c.base.ensures.base s (inside g.S.Stable.seen c.self.view_is at).memory
