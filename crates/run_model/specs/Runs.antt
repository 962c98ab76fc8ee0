-- What a run is, and how steps make one.
use Rattle.std.specs.Prelude.{Bool, true, false, ◌≡◌, IsTrue, List, [], ◌∷◌, if◌then◌else◌}
use Rattle.run_model.specs.declared.step.Step.{Step}
use Rattle.run_model.specs.declared.answer.Answer.{Answer}
use Rattle.run_model.specs.declared.answer.Answer.TheVariants.{Waits, Refused}
use Rattle.run_model.specs.declared.history.Event.{Event}
use Rattle.run_model.specs.Openings.{Opening, OpeningLists, Setup, fresh_lists}
use Rattle.run_model.specs.Answers.{answer_of}

-- an opening, in lists, and what has happened since
pub record World : Type 0 where
  pub lists : OpeningLists
  pub past : List Event

-- new guardians, to whom nothing has happened
abbrev pub new_world : Setup → World
new_world setup = record { lists = fresh_lists setup; past = [] }

-- a step that is refused or waits changes nothing, and is not in the history
abbrev pub is_accepted : Answer → Bool
is_accepted (Waits names) = false
is_accepted (Refused why) = false
is_accepted _ = true

-- each event was accepted, with the answer of its step at the events before it
abbrev pub IsRun : Opening → List Event → Type 0
IsRun opening [] = Unit {0}
IsRun opening (e ∷ past) = (e.answer ≡ answer_of opening e.step past)
    × IsTrue (is_accepted e.answer) × IsRun opening past

-- the history after a step with this answer
abbrev pub history_after : Step → Answer → List Event → List Event
history_after step answer past =
    if is_accepted answer then record { step = step; answer = answer } ∷ past else past

-- the answers of steps, one after another
abbrev pub answers_from : Opening → List Event → List Step → List Answer
answers_from opening past [] = []
answers_from opening past (step ∷ steps) =
    let answer = answer_of opening step past in
    answer ∷ answers_from opening (history_after step answer past) steps

-- the history that they leave
abbrev pub history_from : Opening → List Event → List Step → List Event
history_from opening past [] = past
history_from opening past (step ∷ steps) =
    history_from opening (history_after step (answer_of opening step past) past) steps

-- the world after a step with this answer
abbrev pub world_after : World → Step → Answer → World
world_after w step answer = record { lists = w.lists; past = history_after step answer w.past }
