-- What a step of some thread is answered.
use Rattle.std.specs.Prelude.{List, Option, Some}
use Rattle.run_model.specs.declared.history.Event.{Event}
use Rattle.run_model.specs.declared.step.Step.{Step}
use Rattle.run_model.specs.declared.answer.Answer.{Answer}
use Rattle.run_model.specs.Openings.{Opening}
use Rattle.locked_run.specs.Acting.{IsAnswered}
use Rattle.locked_run.specs.Behind.{GoesOnFrom}

-- The answer is that of the step at a run of the opening, after which this was seen (`IsAnswered`). The
-- run goes on from what was seen earlier, if anything was.
abbrev pub IsAnsweredFrom : Opening → Option (List Event) → Step → Answer
    → Option (List Event) → List Event → Type 0
IsAnsweredFrom opening earlier step answer receipt seen =
    (at : IsAnswered opening step answer receipt seen) × GoesOnFrom earlier at.past

-- behind what was seen earlier, so that what is seen then comes behind it
abbrev pub IsAnsweredBehind : Opening → List Event → Step → Answer → Option (List Event)
    → List Event → Type 0
IsAnsweredBehind opening earlier step answer receipt seen =
    IsAnsweredFrom opening (Some earlier) step answer receipt seen
