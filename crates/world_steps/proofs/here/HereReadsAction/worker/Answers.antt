use Rattle.std.proofs.Common.{Some, sym, true, ◌∙◌, ◌≡◌}
use Rattle.step_answers.specs.Actors.{IsReadAs, IsWorker}
use Rattle.run_model.specs.LocalReadings.{is_at_home}
use Rattle.world_steps.proofs.Own.{home_here}
use Rattle.world_steps.proofs.Saying.{by_guardian}
use Rattle.world_steps.proofs.here.HereReadsAction.worker.Goals as goal

pub returns : goal.returns
returns g c = λ s says.
    let x = says.state in
    let name = c.args.action.now in
    let there : is_at_home x.number name x.past ≡ true = sym (c.is_there.ensures x says.guardian) ∙ c.if-not-is_there.false in
    by_guardian (λ k. IsReadAs (k.facts.begun name) (IsWorker (k.facts.home name) (k.facts.done name) (k.facts.busy name)) (Some (record { home = c.number.result; done = c.is_done.result; busy = c.is_busy.result }))) says (
      there,
      record {
        home = c.number.ensures.number x says.guardian ∙ sym (home_here x.number name x.past there);
        done = c.is_done.ensures x says.guardian there;
        busy = c.is_busy.ensures x says.guardian there;
      },
    )
