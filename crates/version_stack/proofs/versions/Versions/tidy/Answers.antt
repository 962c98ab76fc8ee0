use Rattle.version_stack.proofs.Stacked.{rising_in}
use Rattle.version_stack.proofs.versions.Versions.tidy.Goals as goal

pub returns-in_err-merge-clause-rising : goal.returns-in_err-merge-clause-rising
returns-in_err-merge-clause-rising g c = rising_in c.self.invariant c.self.view_is

pub returns-clause-rising : goal.returns-clause-rising
returns-clause-rising g c = rising_in c.self.invariant c.self.view_is

pub returns-then-len-clause-rising : goal.returns-then-len-clause-rising
returns-then-len-clause-rising g c = rising_in c.self.invariant c.self.view_is
