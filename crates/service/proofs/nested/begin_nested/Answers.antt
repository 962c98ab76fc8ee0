use Rattle.std.proofs.Common.{refl}
use Rattle.run_model.specs.declared.step.Step.TheVariants as steps
use Rattle.service.proofs.Calls.{begun_place}
use Rattle.service.proofs.nested.begin_nested.Goals as goal

pub returns-clause-call : goal.returns-clause-call
returns-clause-call g c =
    begun_place g.W.MakesOwnSteps.run g.W.MakesOwnSteps.sees g.W.MakesOwnSteps.leaves (steps.NestedTop c.args.at.now.action) c.args.service.now.world
    c.begin_nested.new.self.world c.in_ok-action.action _ c.in_ok-action.ensures refl
