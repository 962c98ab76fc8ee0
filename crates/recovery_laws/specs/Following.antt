-- What the steps of a run make of the stores.
use Rattle.std.specs.Prelude.{ℕ, ◌+◌, List, [], ◌∷◌, map as each, if◌then◌else◌}
use Rattle.run_model.specs.declared.history.Event.{Event}
use Rattle.run_model.specs.LocalHistories.{local_history, names_guardian, numbered}
use Rattle.run_model.specs.Openings.{Opening, Setup}
use Rattle.guardian_laws.specs.Laws.{kept_event}
use Rattle.stable_store.specs.Stored.{Stored, empty}
use Rattle.guardian_laws.specs.Stored.{after_event}

-- what g's store holds after the event that follows past: where the event names g, what the call that it asks for
-- leaves
abbrev pub content_after : Opening → Event → List Event → ℕ → Stored → Stored
content_after opening e past g s =
    if names_guardian e.step past g
    then after_event opening g (kept_event opening (0, e) (numbered past) g)
    (local_history opening (numbered past) g) s
    else s

-- what these stores hold then, of which the first is that of guardian g
abbrev pub contents_from : Opening → Event → List Event → ℕ → List Stored → List Stored
contents_from opening e past g [] = []
contents_from opening e past g (s ∷ stores) =
    content_after opening e past g s ∷ contents_from opening e past (g + 1) stores

-- what the stores of all guardians hold then
abbrev pub stores_after : Opening → Event → List Event → List Stored → List Stored
stores_after opening e past stores = contents_from opening e past 1 stores

-- what they hold after all events, where they held this before
abbrev pub stores_through : Opening → List Event → List Stored → List Stored
stores_through opening [] first = first
stores_through opening (e ∷ past) first =
    stores_after opening e past (stores_through opening past first)

-- the stores of new guardians
abbrev pub new_stores : Setup → List Stored
new_stores setup = each (λ contents. empty) setup
