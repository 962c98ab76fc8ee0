use Rattle.std.proofs.Common.{refl}
use Rattle.run_model.specs.declared.step.Step.TheVariants as steps
use Rattle.service.proofs.Calls.{begun_place}
use Rattle.service.proofs.top.begin_top.Goals as goal

pub returns-clause-call : goal.returns-clause-call
returns-clause-call g c =
    begun_place g.W.MakesOwnSteps.run g.W.MakesOwnSteps.sees g.W.MakesOwnSteps.leaves (steps.Top c.args.home) c.args.service.now.world c.begin.new.self.world
    c.in_ok-action.action _ c.in_ok-action.ensures refl
