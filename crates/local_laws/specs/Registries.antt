-- What the registry's history says of actions is what the flat history says.
use Rattle.std.specs.Prelude.{◌≡◌, ◌==◌, ℕ, List, ◌∷◌, IsTrue, IsFalse}
use Rattle.std.specs.List.{list_any}
use Rattle.action_names.specs.Names.{Name}
use Rattle.run_model.specs.declared.history.Event.{Event}
use Rattle.run_model.specs.declared.step.Step.{Step}
use Rattle.run_model.specs.Actions.{begun, home_of, is_aborted, is_busy, is_closed, is_committed, maker_of, next_number, closing_step}
use Rattle.run_model.specs.Answers.{answer_of}
use Rattle.run_model.specs.Dependencies.{dependency}
use Rattle.run_model.specs.Lists.{guardians_of}
use Rattle.run_model.specs.Openings.{Opening}
use Rattle.run_model.specs.Runs.{IsRun}
use Rattle.run_model.specs.Visibility.{has_prepared}
use Rattle.run_model.specs.Votes.{has_voted}
use Rattle.run_model.specs.LocalHistories.{Stamped, answer_lent, dependency_there, events_of, events_there, history_after_lent, local_history, names_guardian, registry_after, registry_history, RegistryEvent, closing_there, numbered}
use Rattle.run_model.specs.LocalReadings.{LocalEvent}

pub record IsRegistrySame (there past : List Event) : Type 0 where
  pub begun : begun there ≡ begun past
  pub next : (opening : Opening) (a : Name)
      → next_number opening a there ≡ next_number opening a past
  pub home : (a : Name) → home_of a there ≡ home_of a past
  pub maker : (a : Name) → maker_of a there ≡ maker_of a past
  pub committed : (a : Name) → is_committed a there ≡ is_committed a past
  pub aborted : (a : Name) → is_aborted a there ≡ is_aborted a past
  pub closed : (a : Name) → is_closed a there ≡ is_closed a past
  pub busy : (a : Name) → is_busy a there ≡ is_busy a past
  pub voted : (g : ℕ) (t : Name) → has_voted g t there ≡ has_voted g t past
  pub prepared : (g : ℕ) (t : Name) → has_prepared g t there ≡ has_prepared g t past

abbrev pub RegistrySame : Type 0
RegistrySame = (opening : Opening) (run : List Stamped) → IsRun opening (events_of run)
    → IsRegistrySame (events_there (registry_history opening run)) (events_of run)

abbrev pub RegistryDependenciesSame : Type 0
RegistryDependenciesSame = (opening : Opening) (run : List Stamped) (a : Name) (h : ℕ)
    → IsRun opening (events_of run) → IsTrue (list_any (λ k. k == h) (guardians_of opening))
    → dependency_there a h (registry_history opening run) ≡ dependency a h (events_of run)

-- the answer of a step by the histories of all is the defined one
abbrev pub AnswersSame : Type 0
AnswersSame = (opening : Opening) (run : List Stamped) (step : Step) → IsRun opening (events_of run)
    → answer_lent opening (registry_history opening run) (λ g. local_history opening run g) step
    ≡ answer_of opening step (events_of run)

-- After an accepted step, what it was lent makes the histories of the longer run.
abbrev pub HistoriesGrow : Type 0
HistoriesGrow = (opening : Opening) (s : Stamped) (run : List Stamped)
    → IsRun opening (events_of (s ∷ run))
    → (registry_after opening s (registry_history opening run) (λ g. local_history opening run g)
    ≡ registry_history opening (s ∷ run))
    × ((g : ℕ) → history_after_lent opening s (registry_history opening run)
    (λ h. local_history opening run h) g
    ≡ local_history opening (s ∷ run) g)

-- The answer asks of no guardian but of those that the step names.
abbrev pub AsksNamed : Type 0
AsksNamed = (opening : Opening)
    (registry : List RegistryEvent) (histories others : ℕ → List LocalEvent) (step : Step)
    → ((g : ℕ) → IsTrue (names_guardian step (events_there registry) g) → histories g ≡ others g)
    → answer_lent opening registry histories step ≡ answer_lent opening registry others step

-- These are the histories of the guardians that the step names.
abbrev pub AreTheirs : Opening → List Stamped → (ℕ → List LocalEvent) → Step → Type 0
AreTheirs opening run histories step =
    (g : ℕ) → IsTrue (names_guardian step (events_there (registry_history opening run)) g)
    → histories g ≡ local_history opening run g

-- What a step that is lent the registry and the guardians that it names answers, and what it leaves of them where it
-- is accepted.
abbrev pub LentAnswers : Type 0
LentAnswers =
    (opening : Opening) (run : List Stamped) (histories : ℕ → List LocalEvent) (step : Step)
    → IsRun opening (events_of run) → AreTheirs opening run histories step
    → answer_lent opening (registry_history opening run) histories step
    ≡ answer_of opening step (events_of run)

abbrev pub LentGrows : Type 0
LentGrows = (opening : Opening) (s : Stamped) (run : List Stamped) (histories : ℕ → List LocalEvent)
    → IsRun opening (events_of (s ∷ run)) → AreTheirs opening run histories s.1.step
    → (registry_after opening s (registry_history opening run) histories
    ≡ registry_history opening (s ∷ run))
    × ((g : ℕ) → IsTrue (names_guardian s.1.step (events_there (registry_history opening run)) g)
    → history_after_lent opening s (registry_history opening run) histories g
    ≡ local_history opening (s ∷ run) g)

-- whom the event does not name, it leaves
abbrev pub UnnamedStay : Type 0
UnnamedStay = (opening : Opening) (s : Stamped) (run : List Stamped) (g : ℕ)
    → IsRun opening (events_of (s ∷ run))
    → IsFalse (names_guardian s.1.step (events_there (registry_history opening run)) g)
    → local_history opening (s ∷ run) g ≡ local_history opening run g

-- Where events are stamped with their numbers, the registry's history says at which step an action closed.
abbrev pub ClosingSame : Type 0
ClosingSame = (opening : Opening) (past : List Event) (a : Name)
    → closing_there a (registry_history opening (numbered past)) ≡ closing_step a past
