-- Walks of an action's tree: its descendants, and the outcomes of those that have ended and were not told.
use Rattle.std.specs.Prelude.{◌≡◌, ℕ, ◌+◌, Bool, true, false, not, ◌&&◌, List, [], map, filter, filter_map, count_by, if◌then◌else◌, Option, Some, None, slice_get}
use Rattle.action_names.specs.Names.{Name, is_proper_ancestor, parent_of, rising_names, same_name}
use Rattle.run_model.specs.declared.history.Event.{Event}
use Rattle.run_model.specs.Actions.{begun, is_begun, is_committed, is_ended}
use Rattle.step_answers.specs.declared.actor.Status.{Status}
use Rattle.step_answers.specs.declared.actor.Status.TheVariants.{Aborted, Active, Closed, Committed}
use Rattle.action_forest.specs.Trees.{Trees, said}

-- the ended descendants of an action that were not told, by name, each with whether it committed
abbrev pub untold_below : Name → (Name → Bool) → List Event → List (Name × Bool)
untold_below a told past =
    map (λ b. (b, is_committed b past))
    (rising_names
    (filter (λ b. is_proper_ancestor a b && (is_ended b past && not (told b))) (begun past)))

-- the name of the action at a place, and the empty name where there is none
abbrev pub name_there : Trees → ℕ → Name
name_there forest i = said (λ action. action.name) [] (slice_get forest.actions i)

-- how often an action is at the places
abbrev pub times_at : Trees → List ℕ → Name → ℕ
times_at forest places b = count_by (λ i. same_name (name_there forest i) b) places

-- at the places are the descendants of a that were begun, each once
abbrev pub AreBelow : Trees → Name → List Event → List ℕ → Type 0
AreBelow forest a past places =
    (b : Name) → times_at forest places b
    ≡ (if is_begun b past && is_proper_ancestor a b then 1 else 0)

-- at the places are the children of a, and those of each action that is at the first of them
abbrev pub AreReached : Trees → Name → List Event → List ℕ → List ℕ → Type 0
AreReached forest a past first places =
    (b : Name) → times_at forest places b
    ≡ (if is_begun b past
    then (if same_name (parent_of b) a then 1 else 0) + times_at forest first (parent_of b) else 0)

-- whether it committed, if an action that stands so has ended
abbrev pub outcome_of : Status → Option Bool
outcome_of Active = None
outcome_of Closed = None
outcome_of Committed = Some true
outcome_of Aborted = Some false

-- the outcome of an action, if it has ended and was not told
abbrev pub untold_outcome : (Name → Bool) → List Event → Name → Option (Name × Bool)
untold_outcome told past b =
    if is_ended b past && not (told b) then Some (b, is_committed b past) else None

-- those of the actions at the places, in the order of the places
abbrev pub untold_at : Trees → (Name → Bool) → List Event → List ℕ → List (Name × Bool)
untold_at forest told past places =
    filter_map (λ i. untold_outcome told past (name_there forest i)) places
