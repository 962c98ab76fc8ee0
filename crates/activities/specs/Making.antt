-- The steps of one activity, perhaps beside the steps of others.
use Rattle.std.specs.Prelude.{◌≡◌, ◌⊎◌, ℕ, Bool, true, false, IsTrue, List, [], ◌∷◌, ◌++◌, Option, None, Some}
use Rattle.action_names.specs.Names.{Name, has_name}
use Rattle.run_model.specs.declared.answer.Answer.{Answer}
use Rattle.run_model.specs.declared.answer.Answer.TheVariants.{Began}
use Rattle.run_model.specs.declared.history.Event.{Event}
use Rattle.run_model.specs.declared.step.Step.{Step}
use Rattle.run_model.specs.declared.step.Step.TheVariants.{Commit, Decide, Top}
use Rattle.run_model.specs.Actions.{is_begun, is_committed}
use Rattle.run_model.specs.Answers.{answer_of}
use Rattle.run_model.specs.Openings.{OpeningLists, opening_in}
use Rattle.run_model.specs.Runs.{IsRun, World, world_after}
use Rattle.activities.specs.Continuing.{tops_begun}
use Rattle.activities.specs.OwnSteps.{IsOfAction, LeavesAlone, about}

-- ---- answers

-- the answer is that of the step at some history
pub record IsAnswered (lists : OpeningLists) (step : Step) (answer : Answer) : Type 0 where
  pub past : List Event
  pub answered : answer ≡ answer_of (opening_in lists) step past

-- ---- an activity's own events, the newest first

-- one of these actions, or one that the events began
abbrev pub IsKnown : List Name → List Event → Name → Type 0
IsKnown names events a = IsTrue (has_name names a) ⊎ IsTrue (is_begun a events)

-- the step is of an action that is known
abbrev pub IsOfKnown : List Name → List Event → Step → Type 0
IsOfKnown names before step = IsOfAction step
    × ((a : Name) → IsTrue (has_name (about step) a) → IsKnown names before a)

-- each step is of one of these actions, or of one that the events before it began
abbrev pub AreOwn : List Name → List Event → Type 0
AreOwn names [] = Unit {0}
AreOwn names (e ∷ before) = IsOfKnown names before e.step × AreOwn names before

-- an action that the events commit is one of these, or one that they began
abbrev pub CommitOnly : List Name → List Event → Type 0
CommitOnly names events = (a : Name) → IsTrue (is_committed a events) → IsKnown names events a

-- ---- worlds

-- the world went on by steps of the actors and of actions that these steps began; what they committed is one of the
-- second list, or began since
pub record Makes (actors committing : List Name) (old new : World) : Type 0 where
  pub same_opening : new.lists ≡ old.lists
  pub later : List Event
  pub past : new.past ≡ later ++ old.past
  pub own : AreOwn actors later
  pub commits : CommitOnly committing later

-- so, and these actions have begun since, and no others
pub record Begins (actors committing names : List Name) (old new : World) : Type 0 where
  pub makes : Makes actors committing old new
  pub begun : (a : Name) → IsTrue (has_name names a) → IsTrue (is_begun a makes.later)
  pub only : (a : Name) → IsTrue (is_begun a makes.later) → IsTrue (has_name names a)

-- the action that a step commits
abbrev pub commits_of : Step → List Name
commits_of (Commit a) = a ∷ []
commits_of (Decide a) = a ∷ []
commits_of _ = []

-- the action has committed, or nothing but what began since
abbrev pub Tells : Bool → Name → World → World → Type 0
Tells true a old new = IsTrue (is_committed a new.past)
Tells false a old new = Makes (a ∷ []) [] old new

-- ---- clients

-- the step begins a top action
abbrev pub IsTop : Step → Type 0
IsTop (Top g) = Unit {0}
IsTop _ = ⊥

-- a step of a client: it begins a top action, or is of an action that the events before it began
abbrev pub IsOfClient : List Event → Step → Type 0
IsOfClient before step = IsTop step ⊎ IsOfKnown [] before step

-- each event is of a client
abbrev pub AreOfClients : List Event → Type 0
AreOfClients [] = Unit {0}
AreOfClients (e ∷ before) = IsOfClient before e.step × AreOfClients before

-- the world went on by steps of clients, whose top actions are these; what they committed began since
pub record ClientsMake (tops : List Name) (old new : World) : Type 0 where
  pub same_opening : new.lists ≡ old.lists
  pub later : List Event
  pub past : new.past ≡ later ++ old.past
  pub own : AreOfClients later
  pub commits : CommitOnly [] later
  pub began : tops_begun later ≡ tops

-- the world once a top action has begun there
abbrev pub with_top : ℕ → Name → World → World
with_top home a w = world_after w (Top home) (Began (a ∷ []))

-- the same if one has begun
abbrev pub once_begun : ℕ → Option Name → World → World
once_begun home None w = w
once_begun home (Some a) w = with_top home a w

-- a client's top action began, if one is named, and the client made steps of it and of what it began
abbrev pub ClientMakes : ℕ → Option Name → World → World → Type 0
ClientMakes home None old new = new ≡ old
ClientMakes home (Some a) old new = Makes (a ∷ []) (a ∷ []) (with_top home a old) new

-- clients leave alone what began before them
abbrev pub EarlierIsLeftAlone : Type 0
EarlierIsLeftAlone = (tops : List Name) (old new : World) → IsRun (opening_in new.lists) new.past
    → ClientsMake tops old new → LeavesAlone old new
