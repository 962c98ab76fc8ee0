use Rattle.std.proofs.Common.{None, Option, Some, subst, sym}
use Rattle.action_names.specs.Names.{Name}
use Rattle.run_model.specs.Actions.{home_of, is_begun, is_busy, is_done}
use Rattle.run_model.specs.LocalHistories.{events_there}
use Rattle.step_answers.proofs.Actors.{worker_read}
use Rattle.step_answers.specs.Actors.{IsReadAs, IsWorker}
use Rattle.step_answers.specs.Saying.{Said}
use Rattle.step_answers.specs.declared.actor.Worker.{Worker}
use Rattle.world_steps.proofs.Saying.{by_forest}
use Rattle.world_steps.proofs.alone.AloneReadsAction.worker.Goals as goal

-- so the action is read
abbrev Reads : Name → Option Worker → Said → Type 0
Reads name read k =
    IsReadAs (k.facts.begun name) (IsWorker (k.facts.home name) (k.facts.done name) (k.facts.busy name)) read

pub returns-in_err-actor : goal.returns-in_err-actor
returns-in_err-actor g c = λ s says.
    let f = says.state in
    let name = c.args.action.now in
    let past = events_there f.registry in
    by_forest (Reads name c.from_residual.result) says
    (subst (IsReadAs (is_begun name past) (IsWorker (home_of name past) (is_done name past) (is_busy name past)))
    (sym c.from_residual.ensures) (worker_read name past None (c.in_err-actor.ensures f says.forest)))

pub returns : goal.returns
returns g c = λ s says.
    let f = says.state in
    let name = c.args.action.now in
    let past = events_there f.registry in
    by_forest (Reads name (Some c.worker.result)) says
    (subst (λ w. IsReadAs (is_begun name past) (IsWorker (home_of name past) (is_done name past) (is_busy name past)) (Some w))
    (sym c.worker.ensures) (worker_read name past (Some _) (c.in_ok-actor.ensures f says.forest)))
