-- Examples of what goes on from stores: an opening, and a guardian that is opened again by itself.
use Rattle.std.specs.Prelude.{pos, Bool, List, [], ◌∷◌, Some, None, if◌then◌else◌, ◌==◌}
use Rattle.values.specs.declared.content.Content.TheVariants.{Counter}
use Rattle.run_model.specs.declared.step.Step.{Step}
use Rattle.run_model.specs.declared.step.Step.TheVariants.{Top, Recover, Tell}
use Rattle.run_model.specs.declared.answer.Answer.{Answer}
use Rattle.run_model.specs.declared.answer.Answer.TheVariants.{Done}
use Rattle.atomic_types.specs.declared.part.Part.TheVariants.{Delta}
use Rattle.run_model.specs.Openings.{Held, Opening, nothing_held}
use Rattle.run_model.specs.StableContent.{Prepared}
use Rattle.run_model.specs.LocalReadings.{LocalEvent, nothing_carried}
use Rattle.run_model.specs.Reopening.{life_before, opened_alone}
use Rattle.action_names.specs.Names.{Name}
use Rattle.proved_examples.specs.Counting.{adds, totals}
use Rattle.proved_examples.specs.Example.{Example, action_1, began}

-- the store of guardian 1 held an added 5, and top actions up to 6 had voted
abbrev pub held_five : Held
held_five =
    record nothing_held { base = λ n. if n == 1 then Some (Delta (pos 5)) else None; count = 2; next_top = 7 }

abbrev pub opened : Opening
opened = record { setup = (Counter (pos 10) ∷ []) ∷ []; stores = λ g. held_five; first_top = 7 }

abbrev pub seven : Name
seven = 7 ∷ []

abbrev pub goes_on : Example
goes_on =
    (Top 1, began seven) ∷ totals seven (pos 15) ∷ adds seven (pos 1) ∷ totals seven (pos 16) ∷ []

-- the same store, where an add of 3 was prepared for top action 1, at home at guardian 2
abbrev pub record_of_three : Prepared
record_of_three = record { home = 2; parts = (1, Delta (pos 3)) ∷ [] }

abbrev pub before : List LocalEvent
before = life_before 1 held_five ((action_1, record_of_three) ∷ [])

abbrev pub alone : Opening
alone = opened_alone ((Counter (pos 10) ∷ []) ∷ []) 1 held_five

abbrev pub event_here : Step → Answer → LocalEvent
event_here step answer =
    record { stamp = 1; event = record { step = step; answer = answer }; carried = nothing_carried }

-- once it is up and top action 7 began there
abbrev pub up : List LocalEvent
up = event_here (Top 1) (began seven) ∷ event_here (Recover 1) (Done 0) ∷ before

-- and once it was told that top action 1 committed, or aborted
abbrev pub told : Bool → List LocalEvent
told committed =
    record { stamp = 2; event = record { step = Tell 1 action_1; answer = Done 1 }; carried = record nothing_carried { outcomes = (action_1, committed) ∷ [] } }
    ∷ up
