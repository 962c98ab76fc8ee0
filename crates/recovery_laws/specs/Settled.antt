-- What a guardian's store contains of its objects once each record of a prepared top action has come to rest:
-- installed where the home of the top action decided it, and dropped elsewhere.
use Rattle.std.specs.Prelude.{ℕ, Bool, List, filter, fold, if◌then◌else◌, is_some, Option, Some, None}
use Rattle.action_names.specs.Names.{Name, is_top, rising_names}
use Rattle.atomic_types.specs.declared.part.Part.{Part}
use Rattle.run_model.specs.declared.history.Event.{Event}
use Rattle.run_model.specs.Actions.{begun}
use Rattle.run_model.specs.LocalReadings.{LocalEvent, decided_here, prepared_here, stable_base_here}
use Rattle.run_model.specs.Openings.{Opening, part_at}
use Rattle.run_model.specs.StableContent.{Prepared, installed_over, is_stably_decided, stable_base, stable_prepared}

-- the top actions that have begun, rising
abbrev pub tops_of : List Event → List Name
tops_of past = filter (λ a. is_top a) (rising_names (begun past))

-- what is installed of object n once a record, if there is one, has come to rest, where the test says which homes
-- decided its top action
abbrev pub settled_with : Option Prepared → (ℕ → Bool) → ℕ → Option Part → Option Part
settled_with None decided n part = part
settled_with (Some r) decided n part =
    if decided r.home then installed_over (part_at r.parts n) part else part

-- what is installed of object n at g once the record of t has come to rest
abbrev pub settled_by : Opening → ℕ → ℕ → List Event → Name → Option Part → Option Part
settled_by opening g n past t part =
    settled_with (stable_prepared opening g t past) (λ h. is_stably_decided opening h t past) n part

-- and those of these names, one after another
abbrev pub settled_over : Opening → ℕ → ℕ → List Event → List Name → Option Part
settled_over opening g n past names =
    fold (λ part t. settled_by opening g n past t part) (stable_base opening g n past) names

-- and those of all top actions, from the least on
abbrev pub settled_base : Opening → ℕ → ℕ → List Event → Option Part
settled_base opening g n past = settled_over opening g n past (tops_of past)

-- the store of g has a record of t
abbrev pub is_recorded : Opening → ℕ → List Event → Name → Bool
is_recorded opening g past t = is_some (stable_prepared opening g t past)

-- what is settled of object n at g where these are the guardians' own histories: the record and the base are of g's,
-- a decision of its home's
abbrev pub settled_here : Opening → ℕ → ℕ → (ℕ → List LocalEvent) → List Name → Option Part
settled_here opening g n histories names =
    fold (λ part t. settled_with (prepared_here opening g t (histories g))
    (λ h. decided_here opening h t (histories h)) n part)
    (stable_base_here opening g n (histories g)) names
