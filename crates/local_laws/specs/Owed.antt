-- What every guardian's own history has, by itself: each reply, each vote of its own and each count is that of the
-- events before it.
use Rattle.std.specs.Prelude.{◌≡◌, ℕ, ◌==◌, IsTrue, List, [], ◌∷◌, if◌then◌else◌}
use Rattle.run_model.specs.declared.step.Step.{Step}
use Rattle.run_model.specs.declared.step.Step.TheVariants.{Op, Prepare, Tell}
use Rattle.run_model.specs.declared.answer.Answer.TheVariants.{Done, VoteNo, VoteYes}
use Rattle.run_model.specs.Openings.{Opening}
use Rattle.run_model.specs.Runs.{IsRun}
use Rattle.run_model.specs.LocalReadings.{LocalEvent, brings, count_here, operation_here, says_committed, vote_here, is_at_home}
use Rattle.run_model.specs.LocalHistories.{Stamped, events_of, local_history}

abbrev pub IsOwed : Opening → ℕ → LocalEvent → List LocalEvent → Step → Type 0
IsOwed opening g c here (Op a x wanted) = IsTrue (is_at_home g a here)
    × (c.event.answer ≡ operation_here opening g a x wanted here)
IsOwed opening g c here (Prepare h t) =
    IsTrue (h == g) → c.event.answer
    ≡ (if vote_here g t c.carried.dependencies here then VoteYes else VoteNo)
IsOwed opening g c here (Tell h a) =
    c.event.answer ≡ Done (count_here opening g a (says_committed (brings c a)) here)
IsOwed opening g c here _ = Unit {0}

-- the history goes on from the time before with events that have what they should, and with which no store gave
-- anything back; within a run there is no time before
pub data IsLocalRun (opening : Opening) (g : ℕ) (before : List LocalEvent) : List LocalEvent
    → Type 0 where
  begins : IsLocalRun opening g before before
  goes_on : {here : List LocalEvent} (c : LocalEvent) → IsOwed opening g c here c.event.step
      → c.carried.restored ≡ []
      → IsLocalRun opening g before here → IsLocalRun opening g before (c ∷ here)

-- the guardians of a run have such histories
abbrev pub LocalRuns : Type 0
LocalRuns = (opening : Opening) (run : List Stamped) (g : ℕ) → IsRun opening (events_of run)
    → IsLocalRun opening g [] (local_history opening run g)
