-- What each lock keeps of the run: its events, with their stamps and without what messages carried.
use Rattle.std.specs.Prelude.{◌∷◌, ◌≤◌, [], All, Err, List, Ok, Result, ℕ, drop, if◌then◌else◌, length, map, reverse}
use Rattle.std.specs.List.Sorted.{IsStrictlyIncreasing}
use Rattle.run_model.specs.declared.history.Event.{Event}
use Rattle.run_model.specs.declared.step.Step.{Step}
use Rattle.run_model.specs.LocalHistories.{Stamped, local_history, numbered, registry_history, takes_registry}
use Rattle.run_model.specs.Openings.{Opening}

-- events with these stamps, as far as there are both
abbrev pub with_stamps : List ℕ → List Event → List Stamped
with_stamps (n ∷ ns) (e ∷ es) = (n, e) ∷ with_stamps ns es
with_stamps _ _ = []

-- these, of which the newest has this stamp
abbrev pub restamped : ℕ → List Stamped → List Stamped
restamped n [] = []
restamped n (s ∷ rest) = (n, s.1) ∷ rest

-- the events of the run that name guardian g, the newest first
abbrev pub guardian_events : Opening → List Event → ℕ → List Stamped
guardian_events opening past g =
    map (λ e. (e.stamp, e.event)) (local_history opening (numbered past) g)

-- the events of the run that take the registry
abbrev pub registry_events : Opening → List Event → List Stamped
registry_events opening past =
    map (λ e. (e.stamp, e.event)) (registry_history opening (numbered past))

-- the registry's history with this event, if the step takes the registry
abbrev pub with_taken : Step → Stamped → List Stamped → List Stamped
with_taken step s history = if takes_registry step then s ∷ history else history

-- a history in which an event was recorded, once it was kept with its stamp, or was not kept
abbrev pub settled : {E : Type 0} → Result ℕ E → List Stamped → List Stamped
settled (Ok stamp) history = restamped stamp history
settled (Err fault) history = drop 1 history

-- and the registry's
abbrev pub settled_there : {E : Type 0} → Step → Result ℕ E → List Stamped → List Stamped
settled_there step kept history = if takes_registry step then settled kept history else history

-- the stamps of these events, the oldest first
abbrev pub stamps_of : List Stamped → List ℕ
stamps_of history = reverse (map (λ s. s.0) history)

-- the stamps rise, and none is above n
pub record RiseTo (n : ℕ) (stamps : List ℕ) : Type 0 where
  pub rise : IsStrictlyIncreasing stamps
  pub last : All (λ stamp. stamp ≤ n) stamps

-- what each lock keeps of a run has rising stamps, and none is above the number of the run's events
abbrev pub StampsRise : Type 0
StampsRise =
    (opening : Opening) (past : List Event)
    → ((g : ℕ) → RiseTo (length past) (stamps_of (guardian_events opening past g)))
    × RiseTo (length past) (stamps_of (registry_events opening past))
