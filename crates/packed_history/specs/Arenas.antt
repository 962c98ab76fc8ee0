-- Events in rows.
use Rattle.std.specs.Prelude.{◌≡◌, ◌+◌, ◌≤◌, ◌<◌, ℕ, List, [], ◌∷◌, length, map, slice_get, slice_range, take, unwrap_or}
use Rattle.run_model.specs.declared.answer.Answer.TheVariants.{VoteNo}
use Rattle.run_model.specs.declared.history.Event.{Event}
use Rattle.run_model.specs.declared.step.Step.TheVariants.{Top}
use Rattle.packed_history.specs.declared.arenas.Row.{Row}
use Rattle.packed_history.specs.declared.arenas.Row.TheVariants.{Short, Whole}
use Rattle.packed_history.specs.Answers.{Given, HasAnswer, answer_in, answers_before, nothing_given}
use Rattle.packed_history.specs.Steps.{HasStep, Requests, no_requests, step_in, steps_before}

-- the parts of events, those of a sort the oldest first
pub record Parts : Type 0 where
  pub numbers : List ℕ
  pub steps : Requests
  pub answers : Given
  pub whole : List Event

abbrev pub no_parts : Parts
no_parts = record { numbers = []; steps = no_requests; answers = nothing_given; whole = [] }

-- the parts of a row are there
abbrev pub HasRow : Parts → Row → Type 0
HasRow p (Short depth start step answer) = (start + depth ≤ length p.numbers) × HasStep p.steps step
    × HasAnswer p.answers answer
HasRow p (Whole place) = place < length p.whole

-- stands for an event that is not there
abbrev pub no_event : Event
no_event = record { step = Top 0; answer = VoteNo }

-- the event of a row
abbrev pub event_in : Parts → Row → Event
event_in p (Short depth start step answer) =
    let action = slice_range p.numbers start (start + depth) in
    record { step = step_in p.steps action step; answer = answer_in p.answers action answer }
event_in p (Whole place) = unwrap_or (slice_get p.whole place) no_event

abbrev pub events_in : Parts → List Row → List Event
events_in p rows = map (event_in p) rows

-- the parts of the events before that of a row
abbrev pub parts_before : Parts → Row → Parts
parts_before p (Short depth start step answer) = record {
  numbers = take start p.numbers;
  steps = steps_before p.steps step;
  answers = answers_before p.answers answer;
  whole = p.whole;
}
parts_before p (Whole place) =
    record { numbers = p.numbers; steps = p.steps; answers = p.answers; whole = take place p.whole }

-- the event is kept in this row, behind what was kept before
pub record IsKept (old new : Parts) (row : Row) (event : Event) : Type 0 where
  pub has : HasRow new row
  pub reads : event_in new row ≡ event
  pub before : parts_before new row ≡ old

-- the parts of each row, the newest first, are there and lie behind those of the rows before it
abbrev pub AreLaid : Parts → List Row → Type 0
AreLaid p [] = Unit {0}
AreLaid p (row ∷ rows) = HasRow p row × AreLaid (parts_before p row) rows
