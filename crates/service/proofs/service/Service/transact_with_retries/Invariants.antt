use Rattle.service.specs.Retrying.{goes_on}
use Rattle.service.proofs.Again.{GoesOn}
use Rattle.service.proofs.service.Service.transact_with_retries.Given as goal

-- each attempt so far is to be followed by another
abbrev pub invariant-loop : goal.invariant-loop
invariant-loop g l =
    GoesOn g.W.MakesOwnSteps.sees g.J.Work.does (goes_on g.J.Error.MayPass.obstacle l.retries) l.home l.counter (g.W.MakesOwnSteps.run l.fn.self.world)
    (g.W.MakesOwnSteps.run l.self.world) l.fn.work l.work
