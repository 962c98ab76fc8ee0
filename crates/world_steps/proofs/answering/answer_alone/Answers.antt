use Rattle.world_steps.specs.Lending.{said_alone}
use Rattle.world_steps.proofs.Saying.{forest_says}
use Rattle.world_steps.proofs.answering.answer_alone.Goals as goal

pub answer_of-requires : goal.answer_of-requires
answer_of-requires g c =
    let some = c.opening.ensures.some in
    (said_alone some.0, forest_says (g.R.Forest.stands c.args.forest.now) some.0 some.1)

pub returns : goal.returns
returns g c = λ f stood. c.answer_of.ensures (said_alone f) (forest_says (g.R.Forest.stands c.args.forest.now) f stood)
