use Rattle.std.proofs.Common.{IfOk, ap, false, subst, ◌∙◌, ◌≡◌}
use Rattle.run_model.specs.Actions.{home_of}
use Rattle.run_model.specs.LocalHistories.{events_there}
use Rattle.layer_contracts.specs.Guardians.{lent_two}
use Rattle.world_steps.specs.Lending.{said_two}
use Rattle.world_steps.proofs.Nothing.{nobody_orphan, same_orphan}
use Rattle.world_steps.proofs.Saying.{by_two, two_say}
use Rattle.world_steps.proofs.lent.LentReadsAction.is_orphan.Goals as goal

pub returns-in-Some : goal.returns-in-Some
returns-in-Some g c = λ s says.
    let f = says.state in
    let here = c.in-Some.ensures says.a says.b says.lent.first says.lent.second in
    let name = c.args.action.now in
    let home : c.args.home ≡ home_of name (events_there f.registry) = c.requires.home (said_two f says.a says.b) (two_say _ _ _ f says.a says.b says.lent) in
    by_two (λ k. IfOk c.is_orphan.result (λ orphan. orphan ≡ k.facts.orphan name)) says
    (subst (λ k. IfOk c.is_orphan.result (λ orphan. orphan ≡ k))
    (same_orphan f.opening (home_of name (events_there f.registry)) (lent_two says.a says.b (home_of name (events_there f.registry))) name
    here.state (here.at.opening f says.lent.opening) (here.at.number ∙ home) (here.at.past ∙ ap (lent_two says.a says.b) home))
    (c.is_orphan.ensures here.state here.guardian))

pub returns-in-None : goal.returns-in-None
returns-in-None g c = λ s says.
    let f = says.state in
    let e = nobody_orphan f.opening c.args.home c.args.action.now in
    let home : c.args.home ≡ home_of c.args.action.now (events_there f.registry) =
    c.requires.home (said_two f says.a says.b) (two_say _ _ _ f says.a says.b says.lent) in
    by_two (λ k. false ≡ k.facts.orphan c.args.action.now) says
    (cc (e, c.in-None.ensures says.a says.b says.lent.first says.lent.second, home))
