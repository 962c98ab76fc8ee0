-- In a run each event of a guardian agrees with the history before it.
use Rattle.std.proofs.Common.{List, ap, refl, subst, ◌∙◌, ◌∷◌}
use Rattle.run_model.specs.LocalHistories.{local_history}
use Rattle.run_model.specs.LocalReadings.{LocalEvent}
use Rattle.local_laws.proofs.Outcomes.{history_named}
use Rattle.guardian_laws.specs.Crashes.{LeavesSafe}
use Rattle.guardian_laws.specs.Laws.{RunsAgree}
use Rattle.guardian_laws.proofs.Actions.{agrees_on_actions}
use Rattle.guardian_laws.proofs.Outcomes.{agrees_on_outcomes}
use Rattle.guardian_laws.proofs.Safe.{leaves_safe}
use Rattle.guardian_laws.proofs.Votes.{agrees_on_votes}

pub runs_agree : RunsAgree
runs_agree opening s run g r named = record {
  actions = agrees_on_actions opening s run g r named;
  outcomes = agrees_on_outcomes opening s run g r;
  votes = agrees_on_votes opening s run g r;
  safe = λ x e.
      subst (λ (l : List LocalEvent). LeavesSafe opening l x)
      (ap (λ h. local_history opening (s ∷ run) h) e ∙ history_named opening s run g named)
      (leaves_safe opening (s ∷ run) x r);
  given = refl;
}
