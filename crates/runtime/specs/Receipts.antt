-- The events of a thread, by its receipts.
use Rattle.std.specs.Prelude.{◌≡◌, List, [], ◌∷◌, ◌++◌, Result, Ok, Err, option_to_list}
use Rattle.run_model.specs.declared.answer.Answer.{Answer}
use Rattle.run_model.specs.declared.history.Event.{Event}
use Rattle.runtime.specs.declared.answered.Answered.{Answered}

-- the event of a receipt: the last of the run that it has seen
abbrev pub event_of : List Event → List Event
event_of [] = []
event_of (e ∷ past) = e ∷ []

-- the events of receipts, the newest first, where receipts stand in the order in which they came
abbrev pub events_of : List (List Event) → List Event
events_of [] = []
events_of (receipt ∷ receipts) = events_of receipts ++ event_of receipt

-- the answer came, and its receipt was kept if it has one; or there was a fault, and nothing more is kept
abbrev pub IsKept : {K E F : Type 0} → Result (Answered K) E → Result Answer F → List (List Event)
    → List (List Event) → Type 0
IsKept (Ok answered) (Ok answer) old new = (answer ≡ answered.answer)
    × (new ≡ old ++ option_to_list answered.receipt)
IsKept (Err fault) (Err other) old new = new ≡ old
IsKept _ _ old new = ⊥
