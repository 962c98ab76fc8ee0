-- When actions and votes are those of a history, and what an event changes there.
use Rattle.std.specs.Prelude.{◌≡◌, ◌||◌, ℕ, Bool, true, false, List, [], IsFalse, IsTrue, is_none}
use Rattle.action_names.specs.Names.{Name}
use Rattle.run_model.specs.declared.answer.Answer.TheVariants.{Began}
use Rattle.run_model.specs.declared.history.Event.{Event}
use Rattle.run_model.specs.declared.step.Step.{Step}
use Rattle.run_model.specs.declared.step.Step.TheVariants as step
use Rattle.run_model.specs.Actions.{is_begun, maker_in, names_begun}
use Rattle.run_model.specs.LocalHistories.{RegistryEvent, dependency_there, events_there, home_lent}
use Rattle.run_model.specs.Openings.{Opening}
use Rattle.run_model.specs.Runs.{is_accepted}
use Rattle.run_model.specs.Visibility.{has_prepared}
use Rattle.run_model.specs.Votes.{is_yes}
use Rattle.layer_contracts.specs.Forests.{begun_in, entered, stamped_there}
use Rattle.action_forest.specs.Events.{IsUnended}
use Rattle.action_forest.specs.Forests.{IsCommitmentOf, IsForest}
use Rattle.action_forest.specs.Rooms.{AreBorn, FitsBegun}
use Rattle.action_forest.specs.Trees.{trees}
use Rattle.action_forest.specs.declared.forest.Begun.{Begun}
use Rattle.registry.specs.Polls.{AreBallots, FitsBallots, IsVoteOn}
use Rattle.registry.specs.declared.actions.Actions.{Actions}
use Rattle.registry.specs.declared.change.Change.{Change}
use Rattle.registry.specs.declared.change.Kind.{Kind}
use Rattle.registry.specs.declared.change.Kind.TheVariants as kind

-- the actions and the votes are those of the history
pub record AreActions (opening : Opening) (registry : List RegistryEvent)
    (actions : Actions) : Type 0 where
  pub forest : IsForest opening registry (trees actions.forest)
  pub ballots : AreBallots (events_there registry) actions.ballots

-- and of some history
abbrev pub AreOfSome : Opening → Actions → Type 0
AreOfSome opening actions = (registry : List RegistryEvent) × AreActions opening registry actions

-- at each opening and registry's history of which the actions and votes are
abbrev pub AtEachOf : Actions → (Opening → List RegistryEvent → Type 0) → Type 0
AtEachOf actions holds = (opening : Opening) (registry : List RegistryEvent)
    → AreActions opening registry actions → holds opening registry

-- the event that comes after this history, of which what it begins begins in this life of its home
abbrev pub event_after : Opening → List RegistryEvent → ℕ → Event → ℕ → RegistryEvent
event_after opening registry stamp e life =
    stamped_there stamp
    (record {
      event = e;
      begun = begun_in (record { opening = opening; registry = registry }) life e;
    })

-- whether the guardian voted yes on t, if t depends on it
abbrev pub is_ready_there : Name → List RegistryEvent → ℕ → Bool
is_ready_there t registry g =
    is_none (dependency_there t g registry) || has_prepared g t (events_there registry)

-- the event was accepted, with the answer that some guardians' histories have it be
pub record IsEntered (opening : Opening) (registry : List RegistryEvent) (e : Event) : Type 0 where
  pub accepted : IsTrue (is_accepted e.answer)
  pub answered : entered (record { opening = opening; registry = registry }) e

-- whether the step is one that closes or ends an action and takes no room
abbrev pub is_ending : Step → Bool
is_ending (step.Close t) = true
is_ending (step.Decide t) = true
is_ending (step.Abort a) = true
is_ending _ = false

-- what such a step asks of the action
abbrev pub MayEnd : List RegistryEvent → Step → Type 0
MayEnd registry (step.Close t) = IsTrue (is_begun t (events_there registry))
MayEnd registry (step.Decide t) = IsUnended (events_there registry) t
MayEnd registry (step.Abort a) = IsUnended (events_there registry) a
MayEnd registry _ = ⊥

-- whether the step takes room though it begins nothing
abbrev pub takes_room : Step → Bool
takes_room (step.Commit a) = true
takes_room (step.Prepare g t) = true
takes_room _ = false

-- these are the actions that the step begins under these names, in this life of its home
abbrev pub AreBegun : Opening → List RegistryEvent → Step → List Name → ℕ → Actions → Begun → Type 0
AreBegun opening registry step names life actions begun =
    AreBorn opening registry (maker_in step) (home_lent step registry) life (trees actions.forest)
    names begun

-- the change is what the event changes, by its kind
abbrev pub FitsKind : Opening → List RegistryEvent → Event → ℕ → Actions → Change → Kind → Type 0
FitsKind opening registry e life actions change kind.Begin =
    (names : List Name) × (e.answer ≡ Began names)
    × AreBegun opening registry e.step names life actions change.begun
FitsKind opening registry e life actions change kind.Commit =
    (a : Name) × (e.step ≡ step.Commit a)
    × IsCommitmentOf (trees actions.forest) a change.commitment
FitsKind opening registry e life actions change (kind.Vote v) =
    (g : ℕ) × (t : Name) × (e.step ≡ step.Prepare g t) × IsVoteOn g t (is_yes e.answer) v
FitsKind opening registry e life actions change kind.Other = IsFalse (takes_room e.step)
    × (names_begun e.answer ≡ [])

abbrev pub FitsChange : Opening → List RegistryEvent → Event → ℕ → Actions → Change → Type 0
FitsChange opening registry e life actions change =
    FitsKind opening registry e life actions change change.kind

-- there is room for the change
abbrev pub HasRoomOf : Actions → Change → Kind → Type 0
HasRoomOf actions change kind.Begin = FitsBegun actions.forest change.begun
HasRoomOf actions change kind.Commit = Unit {0}
HasRoomOf actions change (kind.Vote v) = FitsBallots actions.ballots v
HasRoomOf actions change kind.Other = Unit {0}

abbrev pub HasRoomFor : Actions → Change → Type 0
HasRoomFor actions change = HasRoomOf actions change change.kind
