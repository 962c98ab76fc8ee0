-- The histories that a run leaves: the registry's, and one for each guardian. An event has its number for its stamp.
use Rattle.std.specs.Prelude.{ℕ, zero, suc, Bool, ◌≡◌, ◌<◌, List, [], ◌∷◌, ◌++◌, if◌then◌else◌, length, map, reverse, slice_index_or}
use Rattle.run_model.specs.declared.history.Event.{Event}
use Rattle.run_model.specs.declared.step.Step.{Step}
use Rattle.run_model.specs.Gathering.{Histories, IsGathered}
use Rattle.run_model.specs.Lists.{guardians_of}
use Rattle.run_model.specs.LocalHistories.{Stamped, local_history, names_guardian, numbered, registry_history, takes_registry}
use Rattle.run_model.specs.Openings.{Opening}
use Rattle.run_model.specs.Runs.{IsRun}

-- the events of the registry's history, without what messages carried, the oldest first
abbrev pub left_with_registry : Opening → List Event → List Stamped
left_with_registry opening past =
    reverse (map (λ c. (c.stamp, c.event)) (registry_history opening (numbered past)))

-- those of the history of guardian g
abbrev pub left_at : Opening → List Event → ℕ → List Stamped
left_at opening past g =
    reverse (map (λ c. (c.stamp, c.event)) (local_history opening (numbered past) g))

abbrev pub histories_of : Opening → List Event → Histories
histories_of opening past = record {
  registry = left_with_registry opening past;
  guardians = map (λ g. left_at opening past g) (guardians_of opening);
}

-- A run is gathered from the histories that it leaves.
abbrev pub RunsAreGathered : Type 0
RunsAreGathered = (opening : Opening) (past : List Event) → IsRun opening past
    → IsGathered opening (histories_of opening past) past

-- ---- a history by its number, 0 for the registry's

-- the history of this number has the event of a step that is taken after past
abbrev pub has_event : ℕ → Step → List Event → Bool
has_event zero step past = takes_registry step
has_event (suc g) step past = names_guardian step past (suc g)

-- an event put behind the history at this place, if there is one
abbrev pub put_behind : ℕ → Stamped → List (List Stamped) → List (List Stamped)
put_behind n c [] = []
put_behind zero c (h ∷ hs) = (h ++ c ∷ []) ∷ hs
put_behind (suc n) c (h ∷ hs) = h ∷ put_behind n c hs

-- an event that comes after past was put behind each history that has it
pub record IsKept (past : List Event) (c : Stamped) (old new : List (List Stamped)) : Type 0 where
  pub count : length new ≡ length old
  pub each : (h : ℕ) → h < length old
      → slice_index_or new h [] ≡ (if has_event h c.1.step past
      then slice_index_or old h [] ++ c ∷ [] else slice_index_or old h [])
