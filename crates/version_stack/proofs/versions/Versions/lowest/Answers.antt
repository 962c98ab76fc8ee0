use Rattle.version_stack.proofs.Stacked.{rising_in}
use Rattle.version_stack.proofs.versions.Versions.lowest.Goals as goal

pub returns-clause-rising : goal.returns-clause-rising
returns-clause-rising g c = rising_in c.self.invariant c.self.view_is
