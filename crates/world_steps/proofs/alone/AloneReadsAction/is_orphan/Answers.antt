use Rattle.std.proofs.Common.{false, sym, ◌≡◌}
use Rattle.run_model.specs.Actions.{home_of}
use Rattle.run_model.specs.LocalHistories.{events_there}
use Rattle.world_steps.proofs.Nothing.{nobody_orphan}
use Rattle.world_steps.proofs.Saying.{by_forest}
use Rattle.world_steps.proofs.alone.AloneReadsAction.is_orphan.Goals as goal

pub returns : goal.returns
returns g c = λ s says.
    let f = says.state in
    by_forest (λ k. false ≡ k.facts.orphan c.args._action.now) says
    (sym (nobody_orphan f.opening (home_of c.args._action.now (events_there f.registry)) c.args._action.now))
