-- What a step is lent: the forest, and two guardians, which may be the same one twice.
use Rattle.std.specs.Prelude.{◌≡◌, ℕ, true, ◌==◌, ◌||◌, IsTrue, List, [], map, filter}
use Rattle.action_names.specs.Names.{Name}
use Rattle.run_model.specs.declared.history.Event.{Event}
use Rattle.run_model.specs.declared.step.Step.{Step}
use Rattle.run_model.specs.declared.step.Step.TheVariants.{Tell}
use Rattle.run_model.specs.Actions.{home_of, is_committed, names_begun}
use Rattle.run_model.specs.Answers.{Results}
use Rattle.run_model.specs.Refusals.{Facts}
use Rattle.run_model.specs.LocalReadings.{LocalEvent, facts_here, results_here, told_committed_here}
use Rattle.run_model.specs.LocalHistories.{NewAction, action_lent, dependencies_sent, dependency_there, entries_of, events_there, facts_lent, home_lent, life_lent, results_lent}
use Rattle.layer_contracts.specs.Guardians.{GuardianState, count_told, lent_two}
use Rattle.layer_contracts.specs.Forests.{ForestState, begun_in}
use Rattle.step_answers.specs.Saying.{Said}
use Rattle.world_steps.specs.declared.lent.Lent.{Lent}

abbrev pub facts_two : ForestState → GuardianState → GuardianState → Facts
facts_two f a b = facts_lent f.opening f.registry (lent_two a b)

abbrev pub results_two : ForestState → GuardianState → GuardianState → Results
results_two f a b = results_lent f.opening f.registry (lent_two a b)

-- the same, where a guardian that was told a commit counts nothing for a telling that the action aborted
abbrev pub results_told : ForestState → GuardianState → GuardianState → Results
results_told f a b = record (results_two f a b) {
  count = λ g c. count_told (record { opening = f.opening; number = g; past = lent_two a b g }) c
      (is_committed c (events_there f.registry));
}

-- of an action that a guardian was told committed the forest says so too, where the step tells that guardian its
-- outcome
abbrev pub IsTellable : ForestState → GuardianState → GuardianState → Step → Type 0
IsTellable f a b (Tell g c) = IsTrue (told_committed_here c (lent_two a b g))
    → IsTrue (is_committed c (events_there f.registry))
IsTellable f a b _ = Unit {0}

-- no guardian is lent
abbrev pub nobody : ℕ → List LocalEvent
nobody g = []

abbrev pub facts_alone : ForestState → Facts
facts_alone f = facts_lent f.opening f.registry nobody

abbrev pub results_alone : ForestState → Results
results_alone f = results_lent f.opening f.registry nobody

-- all stand in one opening
pub record OneOpening (f : ForestState) (a b : GuardianState) : Type 0 where
  pub first : a.opening ≡ f.opening
  pub second : b.opening ≡ f.opening

-- The forest stands in the state f, and the two guardians in a and b, all in one opening.
pub record AreLent (stands : ForestState → Type 0) (one other : GuardianState → Type 0)
    (f : ForestState) (a b : GuardianState) : Type 0 where
  pub forest : stands f
  pub first : one a
  pub second : other b
  pub opening : OneOpening f a b

-- what is lent stands in these states
abbrev pub Lends : {R G : Type 0} → (R → ForestState → Type 0) → (G → GuardianState → Type 0)
    → Lent R G → ForestState → GuardianState → GuardianState → Type 0
Lends forest guardian lent f a b =
    AreLent (forest lent.forest.now) (guardian lent.first.now) (guardian lent.second.now) f a b

-- What they say together, in states in which they stand; what the forest says alone, and what a guardian says.
abbrev pub said_two : ForestState → GuardianState → GuardianState → Said
said_two f a b =
    record { opening = f.opening; facts = facts_two f a b; results = results_told f a b }

pub record IsSaidByTwo (stands : ForestState → Type 0) (one other : GuardianState → Type 0)
    (s : Said) : Type 0 where
  pub state : ForestState
  pub a : GuardianState
  pub b : GuardianState
  pub lent : AreLent stands one other state a b
  pub said : s ≡ said_two state a b

abbrev pub said_alone : ForestState → Said
said_alone f = record { opening = f.opening; facts = facts_alone f; results = results_alone f }

pub record IsSaidAlone (stands : ForestState → Type 0) (s : Said) : Type 0 where
  pub state : ForestState
  pub forest : stands state
  pub said : s ≡ said_alone state

abbrev pub said_here : GuardianState → Said
said_here x =
    record { opening = x.opening; facts = facts_here x.opening x.number x.past; results = results_here x.opening x.past }

pub record IsSaidHere (stands : GuardianState → Type 0) (s : Said) : Type 0 where
  pub state : GuardianState
  pub guardian : stands state
  pub said : s ≡ said_here state

-- the guardian x is the one of number g among those lent
pub record IsAt (a b : GuardianState) (g : ℕ) (x : GuardianState) : Type 0 where
  pub number : x.number ≡ g
  pub past : x.past ≡ lent_two a b g
  pub opening : (f : ForestState) → OneOpening f a b → x.opening ≡ f.opening

-- this guardian stands in the state of that one
pub record StandsAt (stands : GuardianState → Type 0) (a b : GuardianState) (g : ℕ) : Type 0 where
  pub state : GuardianState
  pub guardian : stands state
  pub at : IsAt a b g state

-- the guardian x is one of those that are lent
pub record IsOneOf (a b x : GuardianState) : Type 0 where
  pub past : x.past ≡ lent_two a b x.number
  pub number : ((a.number == x.number) || (b.number == x.number)) ≡ true

-- what an event begins, in the life of its home that is lent
abbrev pub begun_lent : ForestState → GuardianState → GuardianState → Event → List NewAction
begun_lent f a b e = begun_in f (life_lent e.step f.registry (lent_two a b)) e

-- what an event says to g of dependencies: of new actions at home there, and of all
abbrev pub new_two : ForestState → GuardianState → GuardianState → Event → ℕ
    → List (Name × List (ℕ × ℕ))
new_two f a b e g =
    map (λ c. (c, (action_lent f.opening e.step f.registry (lent_two a b) c).dependencies))
    (filter (λ c. home_lent e.step f.registry == g) (names_begun e.answer))

abbrev pub dependencies_two : ForestState → GuardianState → GuardianState → Event → ℕ
    → List (Name × List (ℕ × ℕ))
dependencies_two f a b e g =
    dependencies_sent (λ c. home_of c (events_there f.registry))
    (λ c. entries_of f.opening (λ h. dependency_there c h f.registry)) e.step g (new_two f a b e g)
