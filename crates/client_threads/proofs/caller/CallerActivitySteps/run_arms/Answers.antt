use Rattle.std.proofs.Common.{subst}
use Rattle.activities.specs.Apart.{AllRunnable}
use Rattle.activities.proofs.Making.{makes_nowhere}
use Rattle.client_threads.proofs.caller.CallerActivitySteps.run_arms.Goals as goal

pub ran-requires : goal.ran-requires
ran-requires g c = subst (λ s. AllRunnable s c.args.arms.items) c.requires.is_of c.requires.each

pub returns-in_err-names-clause-makes : goal.returns-in_err-names-clause-makes
returns-in_err-names-clause-makes g c = makes_nowhere _ _ _

pub returns-in_err-done-clause-makes : goal.returns-in_err-done-clause-makes
returns-in_err-done-clause-makes g c = makes_nowhere _ _ _
