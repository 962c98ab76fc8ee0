use Rattle.std.proofs.Common.{IfOk, subst, ◌≡◌}
use Rattle.run_model.specs.LocalHistories.{events_there}
use Rattle.run_model.specs.Actions.{is_committed}
use Rattle.layer_contracts.specs.Guardians.{lent_two}
use Rattle.world_steps.proofs.Nothing.{none_count, same_count}
use Rattle.world_steps.proofs.Saying.{by_two}
use Rattle.world_steps.proofs.lent.LentReads.told_count.Goals as goal

pub returns-in-Some : goal.returns-in-Some
returns-in-Some g c = λ s says.
    let f = says.state in
    let here = c.in-Some.ensures says.a says.b says.lent.first says.lent.second in
    by_two (λ k. IfOk c.told_count.result (λ n. n ≡ k.results.count c.args.guardian c.args.action.now)) says
    (subst (λ k. IfOk c.told_count.result (λ n. n ≡ k))
    (same_count f.opening c.args.guardian (lent_two says.a says.b c.args.guardian) c.args.action.now here.state
    c.is_committed-committed.result (is_committed c.args.action.now (events_there f.registry)) (here.at.opening f says.lent.opening)
    here.at.number here.at.past (c.is_committed-committed.ensures f says.lent.forest))
    (c.told_count.ensures here.state here.guardian))

pub returns-in-None : goal.returns-in-None
returns-in-None g c = λ s says.
    let f = says.state in
    by_two (λ k. 0 ≡ k.results.count c.args.guardian c.args.action.now) says
    (none_count f.opening c.args.guardian (lent_two says.a says.b c.args.guardian) c.args.action.now (is_committed c.args.action.now (events_there f.registry))
    (c.in-None.ensures says.a says.b says.lent.first says.lent.second))
