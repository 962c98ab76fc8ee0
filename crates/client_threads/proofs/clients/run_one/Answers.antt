use Rattle.std.proofs.Common.{IfOk, List, subst, sym}
use Rattle.run_model.specs.declared.history.Event.{Event}
use Rattle.activities.specs.Ends.{ClientMade}
use Rattle.client_threads.specs.Callers.{run_of}
use Rattle.client_threads.specs.Clients.{ClientDid}
use Rattle.runtime.specs.Receipts.{events_of}
use Rattle.client_threads.proofs.Running.{client_did}
use Rattle.client_threads.proofs.clients.run_one.Goals as goal
use Rattle.client_threads.proofs.clients.run_one.Goals.{in-Err, in-Ok}

pub returns : goal.returns
returns g c =
    let home = c.args.client.now.home in
    let lists = c.of_client-caller.result.calls.now.opening.now in
    let new = run_of c.run_client.new.world.calls.now.opening.now c.run_client.new.world.receipts in
    elim c.match-run_client.branch [
      | in-Ok w ↦
          subst (λ r. IfOk r (λ e. ClientDid home e (events_of c.into_receipts-receipts.result))) (sym w.end-is)
          (subst (λ (l : List (List Event)). ClientDid home w.in-Ok.end (events_of l)) (sym c.into_receipts-receipts.ensures)
          (client_did home w.in-Ok.end lists new
          (subst (λ l. ClientMade home w.in-Ok.end (run_of lists l) new) c.of_client-caller.ensures.none w.in-Ok.ensures.made)))
      | in-Err w ↦ subst (λ r. IfOk r (λ e. ClientDid home e (events_of c.into_receipts-receipts.result))) (sym w.end-is) tt
    ]
