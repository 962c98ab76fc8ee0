use Rattle.run_model.specs.declared.step.Step.TheVariants as steps
use Rattle.service.proofs.Phases.{call_done, call_failed}
use Rattle.service.proofs.two_phases.ServiceCommitSteps.try_decide.Goals as goal

pub returns-in_err-decide : goal.returns-in_err-decide
returns-in_err-decide g c =
    call_failed g.W.MakesOwnSteps.run g.W.MakesOwnSteps.sees g.W.MakesOwnSteps.leaves (steps.Decide c.args.top.now) c.args.self.now.world
    c.decide.new.self.world c.from_residual.result c.in_err-decide.field-0.0 c.from_residual.ensures.1 c.in_err-decide.ensures

pub returns : goal.returns
returns g c =
    call_done g.W.MakesOwnSteps.run g.W.MakesOwnSteps.sees g.W.MakesOwnSteps.leaves (steps.Decide c.args.top.now) c.args.self.now.world
    c.decide.new.self.world c.in_ok-decide.ensures
