use Rattle.std.proofs.Common.{sym, ◌≡◌}
use Rattle.run_model.specs.Actions.{is_committed}
use Rattle.run_model.specs.LocalHistories.{events_there}
use Rattle.world_steps.proofs.Nothing.{nobody_count}
use Rattle.world_steps.proofs.Saying.{by_forest}
use Rattle.world_steps.proofs.alone.AloneReads.told_count.Goals as goal

pub returns : goal.returns
returns g c = λ s says.
    let f = says.state in
    by_forest (λ k. 0 ≡ k.results.count c.args._guardian c.args._action.now) says
    (sym (nobody_count f.opening c.args._guardian c.args._action.now (is_committed c.args._action.now (events_there f.registry))))
