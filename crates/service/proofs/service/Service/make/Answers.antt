use Rattle.service.proofs.Shapes.{made_call}
use Rattle.service.proofs.service.Service.make.Goals as goal

pub returns : goal.returns
returns g c =
    made_call g.W.MakesOwnSteps.run g.W.MakesOwnSteps.sees g.W.MakesOwnSteps.leaves c.args.step.now c.args.self.now.world c.make_step.new.self c.make_step.result
    c.taken.result c.taken.ensures c.make_step.ensures.answered c.make_step.ensures.after c.make_step.ensures.err c.make_step.ensures.stores
