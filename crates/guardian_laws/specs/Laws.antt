-- When an event agrees with a guardian's own history, and the law that in a run it does.
use Rattle.std.specs.Prelude.{◌≡◌, ℕ, true, List, [], ◌∷◌}
use Rattle.run_model.specs.declared.step.ObjectId.{ObjectId}
use Rattle.run_model.specs.Openings.{Opening}
use Rattle.run_model.specs.Runs.{IsRun}
use Rattle.run_model.specs.LocalReadings.{LocalEvent}
use Rattle.run_model.specs.LocalHistories.{Stamped, carried, events_of, local_history, names_guardian}
use Rattle.guardian_laws.specs.Actions.{AgreesOnActions}
use Rattle.guardian_laws.specs.Outcomes.{AgreesOnOutcomes, AgreesOnVotes}
use Rattle.guardian_laws.specs.Crashes.{LeavesSafe}

-- The event agrees with the history of g before it.
pub record Agrees (opening : Opening) (g : ℕ) (c : LocalEvent)
    (here : List LocalEvent) : Type 0 where
  pub actions : AgreesOnActions g c here
  pub outcomes : AgreesOnOutcomes c here
  pub votes : AgreesOnVotes g c
  -- what a crash would leave after it is what is safe then
  pub safe : (x : ObjectId) → x.guardian ≡ g → LeavesSafe opening (c ∷ here) x
  pub given : c.carried.restored ≡ []

-- the event as g keeps it
abbrev pub kept_event : Opening → Stamped → List Stamped → ℕ → LocalEvent
kept_event opening s run g =
    record { stamp = s.0; event = s.1; carried = carried opening s.1 g (events_of run) (λ h. local_history opening run h) }

-- In a run each event of a guardian agrees with the history before it.
abbrev pub RunsAgree : Type 0
RunsAgree = (opening : Opening) (s : Stamped) (run : List Stamped) (g : ℕ)
    → IsRun opening (events_of (s ∷ run)) → names_guardian s.1.step (events_of run) g ≡ true
    → Agrees opening g (kept_event opening s run g) (local_history opening run g)
