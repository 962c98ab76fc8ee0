use Rattle.run_model.specs.declared.step.Step.TheVariants as steps
use Rattle.service.proofs.Phases.{call_done, call_failed}
use Rattle.service.proofs.two_phases.ServiceCommitSteps.try_close.Goals as goal

pub returns-in_err-close : goal.returns-in_err-close
returns-in_err-close g c =
    call_failed g.W.MakesOwnSteps.run g.W.MakesOwnSteps.sees g.W.MakesOwnSteps.leaves (steps.Close c.args.top.now) c.args.self.now.world
    c.close.new.self.world c.from_residual.result c.in_err-close.field-0.0 c.from_residual.ensures.1 c.in_err-close.ensures

pub returns : goal.returns
returns g c =
    call_done g.W.MakesOwnSteps.run g.W.MakesOwnSteps.sees g.W.MakesOwnSteps.leaves (steps.Close c.args.top.now) c.args.self.now.world
    c.close.new.self.world c.in_ok-close.ensures
