use Rattle.std.proofs.Common.{refl}
use Rattle.run_model.specs.declared.step.Step.TheVariants as steps
use Rattle.service.proofs.Calls.{begun_place}
use Rattle.service.proofs.subactions.begin_sub.Goals as goal

pub returns-clause-call : goal.returns-clause-call
returns-clause-call g c =
    begun_place g.W.MakesOwnSteps.run g.W.MakesOwnSteps.sees g.W.MakesOwnSteps.leaves (steps.Call c.args.at.now.action c.args.guardian) c.args.service.now.world
    c.call.new.self.world c.in_ok-action.action _ c.in_ok-action.ensures refl
