-- What a registry's history says of actions beyond the definitions of run_model, and the events that change a forest.
use Rattle.std.specs.Prelude.{◌≡◌, ◌⊎◌, ℕ, suc, Bool, true, false, not, List, [], ◌∷◌, length, map, filter, count_by, if◌then◌else◌, Option, Some, IsTrue, IsFalse}
use Rattle.action_names.specs.Names.{Name, child_of, is_top, parent_of, same_name}
use Rattle.action_names.specs.Deps.{lesser}
use Rattle.run_model.specs.declared.answer.Answer.TheVariants.{Began, Done}
use Rattle.run_model.specs.declared.history.Event.{Event}
use Rattle.run_model.specs.declared.step.Step.{Step}
use Rattle.run_model.specs.declared.step.Step.TheVariants.{Abort, Close, Commit, Decide}
use Rattle.run_model.specs.Actions.{begun, is_aborted, is_begun, is_closed, is_committed, is_ended, made_by}
use Rattle.run_model.specs.Dependencies.{inherited, own_entry}
use Rattle.run_model.specs.LocalHistories.{NewAction, RegistryEvent, dependency_there, entries_of}
use Rattle.run_model.specs.Openings.{Opening}
use Rattle.step_answers.specs.declared.actor.Status.{Status}
use Rattle.step_answers.specs.declared.actor.Status.TheVariants.{Aborted, Active, Closed, Committed}

-- how an action stands; one that was not begun counts as active
abbrev pub status_there : Name → List Event → Status
status_there a past =
    if is_committed a past then Committed
    else (if is_aborted a past then Aborted else (if is_closed a past then Closed else Active))

-- how many of the things that an action made have not ended
abbrev pub unended_there : Name → List Event → ℕ
unended_there a past = count_by (λ b. not (is_ended b past)) (made_by a past)

-- how many children of an action were begun; of the empty name these are the top actions
abbrev pub children_there : Name → List Event → ℕ
children_there a past = length (filter (λ b. same_name (parent_of b) a) (begun past))

-- the step neither closes nor ends an action
abbrev pub is_still : Step → Bool
is_still (Commit a) = false
is_still (Close t) = false
is_still (Decide t) = false
is_still (Abort a) = false
is_still _ = true

-- the action was begun and has not ended
pub record IsUnended (past : List Event) (a : Name) : Type 0 where
  pub begun : IsTrue (is_begun a past)
  pub not_ended : IsFalse (is_ended a past)

-- the event of a step that begins nothing
abbrev pub done : ℕ → Step → RegistryEvent
done stamp step =
    record { stamp = stamp; event = record { step = step; answer = Done 0 }; begun = [] }

-- on which guardians an action depends that begins at this home in this life of it
abbrev pub first_entries : Opening → List RegistryEvent → ℕ → ℕ → Name → List (ℕ × ℕ)
first_entries opening registry home life b =
    entries_of opening (λ h.
    lesser (inherited (is_top b) b (λ c. dependency_there c h registry)) (own_entry home h life))

abbrev pub first_action : Opening → List RegistryEvent → ℕ → ℕ → Name → NewAction
first_action opening registry home life b =
    record { name = b; home = home; incarnation = life; dependencies = first_entries opening registry home life b }

-- the event of a step that begins these names at this home in this life of it
abbrev pub beginning : Opening → List RegistryEvent → ℕ → Step → List Name → ℕ → ℕ → RegistryEvent
beginning opening registry stamp step names home life = record {
  stamp = stamp;
  event = record { step = step; answer = Began names };
  begun = map (λ b. first_action opening registry home life b) names;
}

-- names that are given one after another: each is that of the next child of its parent, where next has the next
-- numbers before
abbrev pub AreNext : (Name → ℕ) → List Name → Type 0
AreNext next [] = Unit {0}
AreNext next (a ∷ names) =
    (a ≡ child_of (parent_of a) (next (parent_of a)))
    × AreNext (λ b. if same_name b (parent_of a) then suc (next b) else next b) names

-- each of the names is that of a top action, or of a child of the maker
abbrev pub AreUnder : Option Name → List Name → Type 0
AreUnder maker [] = Unit {0}
AreUnder maker (a ∷ names) = (IsTrue (is_top a) ⊎ (maker ≡ Some (parent_of a)))
    × AreUnder maker names
