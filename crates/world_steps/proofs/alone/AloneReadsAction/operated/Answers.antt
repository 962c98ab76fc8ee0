use Rattle.run_model.specs.Openings.{opening_in}
use Rattle.world_steps.specs.Lending.{facts_alone, said_alone}
use Rattle.world_steps.proofs.Nothing.{content_known, is_known, object_there, still_there}
use Rattle.world_steps.proofs.Saying.{forest_says}
use Rattle.world_steps.proofs.alone.AloneReadsAction.operated.Goals as goal

pub apply-requires : goal.apply-requires
apply-requires g c =
    let says = c.requires.some.1 in
    let f = says.state in
    let accepted = c.requires.accepted (said_alone f) (forest_says (g.R.Forest.stands c.args.self.now.forest.now) f says.forest) in
    content_known f.opening (opening_in c.opening.result.now) c.args.object c.args.operation.now c.in_ok-content.content
    (is_known f.opening (facts_alone f) c.args.action.now c.args.object c.args.operation.now accepted)
    c.in_ok-content.ensures (c.opening.ensures.opening f says.forest)

pub first_content-requires-clause-guardian : goal.first_content-requires-clause-guardian
first_content-requires-clause-guardian g c =
    let says = c.requires.some.1 in
    let f = says.state in
    let accepted = c.requires.accepted (said_alone f) (forest_says (g.R.Forest.stands c.args.self.now.forest.now) f says.forest) in
    (object_there f.opening (facts_alone f) c.args.action.now c.args.object c.args.operation.now accepted).guardian

pub first_content-requires-clause-number : goal.first_content-requires-clause-number
first_content-requires-clause-number g c =
    let says = c.requires.some.1 in
    let f = says.state in
    let accepted = c.requires.accepted (said_alone f) (forest_says (g.R.Forest.stands c.args.self.now.forest.now) f says.forest) in
    (object_there f.opening (facts_alone f) c.args.action.now c.args.object c.args.operation.now accepted).number

pub first_content-requires-clause-there : goal.first_content-requires-clause-there
first_content-requires-clause-there g c =
    let says = c.requires.some.1 in
    let f = says.state in
    let accepted = c.requires.accepted (said_alone f) (forest_says (g.R.Forest.stands c.args.self.now.forest.now) f says.forest) in
    (still_there f.opening (opening_in c.opening.result.now) c.args.object
    (object_there f.opening (facts_alone f) c.args.action.now c.args.object c.args.operation.now accepted) (c.opening.ensures.opening f says.forest)).within
