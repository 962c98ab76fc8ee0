-- The numbers of top actions across runs: what a store knows of an earlier run has smaller ones than what begins now.
use Rattle.std.specs.Prelude.{ℕ, max, ◌<◌, ◌≤◌, IsTrue, List, [], ◌∷◌, fold, length}
use Rattle.action_names.specs.Names.{Name, last_of}
use Rattle.run_model.specs.declared.history.Event.{Event}
use Rattle.run_model.specs.Lists.{guardians_of}
use Rattle.run_model.specs.Openings.{Opening, Setup, fresh}
use Rattle.run_model.specs.Runs.{IsRun}
use Rattle.run_model.specs.StableContent.{is_stably_decided, stable_next_top}
use Rattle.run_model.specs.Visibility.{has_prepared}

-- a guardian of the opening
abbrev pub IsGuardian : Opening → ℕ → Type 0
IsGuardian opening g = (0 < g) × (g ≤ length opening.setup)

-- Each top action that a guardian's store had as decided before has a smaller number than those that begin now.
abbrev pub DecidedAreOlder : Opening → Type 0
DecidedAreOlder opening = (g n : ℕ) → IsGuardian opening g
    → IsTrue ((opening.stores g).decided (n ∷ [])) → n < opening.first_top

-- the greatest of what the guardians' stores have as the number after that of all top actions on which they voted
-- yes, and at least 1
abbrev pub next_top_of_all : Opening → List Event → ℕ
next_top_of_all opening past =
    fold (λ m g. max m (stable_next_top opening g past)) 1 (guardians_of opening)

-- The stores know the first number of a top action, and have no later one as decided.
pub record IsNumbered (opening : Opening) : Type 0 where
  pub decided : DecidedAreOlder opening
  pub first : opening.first_top ≤ next_top_of_all opening []

-- so it is where nothing happened before
abbrev pub FreshAreNumbered : Type 0
FreshAreNumbered = (setup : Setup) → IsNumbered (fresh setup)

-- Each top action that some guardian has prepared has a number below it.
abbrev pub PreparedAreOlder : Type 0
PreparedAreOlder = (opening : Opening) (past : List Event) (g : ℕ) (t : Name) → IsRun opening past
    → IsTrue (has_prepared g t past) → last_of t < next_top_of_all opening past

-- So has each that is decided.
abbrev pub DecidedStayOlder : Type 0
DecidedStayOlder = (opening : Opening) (past : List Event) (g n : ℕ) → IsNumbered opening
    → IsRun opening past → IsGuardian opening g → IsTrue (is_stably_decided opening g (n ∷ []) past)
    → n < next_top_of_all opening past
