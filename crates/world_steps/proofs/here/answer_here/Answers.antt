use Rattle.world_steps.specs.Lending.{said_here}
use Rattle.world_steps.proofs.Saying.{guardian_says}
use Rattle.world_steps.proofs.here.answer_here.Goals as goal

pub operation_of-requires : goal.operation_of-requires
operation_of-requires g c =
    let some = c.opening.ensures.some in
    (said_here some.0, guardian_says (g.G.Guardian.stands c.args.guardian.now) some.0 some.1)

pub returns : goal.returns
returns g c = λ x stood. c.operation_of.ensures (said_here x) (guardian_says (g.G.Guardian.stands c.args.guardian.now) x stood)
