use Rattle.world.proofs.Leaving.{leaves_stores}
use Rattle.world.proofs.world.WorldMakesSteps.step.Goals as goal

pub returns-clause-stores : goal.returns-clause-stores
returns-clause-stores g c =
    leaves_stores g.S.Stable.seen c.args.step.now c.args.self.now c.step.new.self c.step.result c.step.ensures.stores c.step.ensures.cause
    c.step.ensures.stop c.step.ensures.up
