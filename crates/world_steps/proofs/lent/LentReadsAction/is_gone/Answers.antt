use Rattle.std.proofs.Common.{ap, false, sym, ◌∙◌, ◌≡◌}
use Rattle.run_model.specs.Actions.{home_of, is_gone}
use Rattle.run_model.specs.LocalHistories.{events_there}
use Rattle.run_model.specs.LocalReadings.{events_here}
use Rattle.layer_contracts.specs.Guardians.{lent_two}
use Rattle.world_steps.specs.Lending.{said_two}
use Rattle.world_steps.proofs.Saying.{by_two, two_say}
use Rattle.world_steps.proofs.lent.LentReadsAction.is_gone.Goals as goal

pub returns-in-Some : goal.returns-in-Some
returns-in-Some g c = λ s says.
    let f = says.state in
    let here = c.in-Some.ensures says.a says.b says.lent.first says.lent.second in
    let name = c.args.action.now in
    let home : c.args.home ≡ home_of name (events_there f.registry) = c.requires.home (said_two f says.a says.b) (two_say _ _ _ f says.a says.b says.lent) in
    by_two (λ k. c.is_gone.result ≡ k.facts.gone name) says
    (c.is_gone.ensures here.state here.guardian ∙ ap (λ past. is_gone name (events_here past)) (here.at.past ∙ ap (lent_two says.a says.b) home))

pub returns-in-None : goal.returns-in-None
returns-in-None g c = λ s says.
    let f = says.state in
    let name = c.args.action.now in
    let home : c.args.home ≡ home_of name (events_there f.registry) = c.requires.home (said_two f says.a says.b) (two_say _ _ _ f says.a says.b says.lent) in
    by_two (λ k. false ≡ k.facts.gone name) says
    (sym (ap (λ past. is_gone name (events_here past))
    (ap (lent_two says.a says.b) (sym home) ∙ c.in-None.ensures says.a says.b says.lent.first says.lent.second)))
