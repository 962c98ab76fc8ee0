use Rattle.service.proofs.two_phases.ServiceCommitSteps.try_prepare.Goals as goal

pub returns : goal.returns
returns g c = c.prepare.ensures
