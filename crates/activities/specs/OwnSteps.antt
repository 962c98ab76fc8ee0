-- The action that a step is about.
use Rattle.std.specs.Prelude.{◌≡◌, ℕ, IsTrue, List, [], ◌∷◌}
use Rattle.action_names.specs.Names.{Name}
use Rattle.run_model.specs.declared.step.Step.{Step}
use Rattle.run_model.specs.declared.step.Step.TheVariants.{Top, NestedTop, Call, Arms, Op, Commit, Close, Prepare, Decide, Abort, Tell, Crash, Recover}
use Rattle.run_model.specs.Actions.{is_aborted, is_begun, is_closed, is_committed, is_down}
use Rattle.run_model.specs.Runs.{World}

-- the action that a step is about: each is about one, but for a `top` step, and where a guardian crashes or recovers
abbrev pub about : Step → List Name
about (NestedTop a) = a ∷ []
about (Call a g) = a ∷ []
about (Arms a kinds) = a ∷ []
about (Op a x wanted) = a ∷ []
about (Commit a) = a ∷ []
about (Close a) = a ∷ []
about (Prepare g a) = a ∷ []
about (Decide a) = a ∷ []
about (Abort a) = a ∷ []
about (Tell g a) = a ∷ []
about _ = []

-- a step that is about an action
abbrev pub IsOfAction : Step → Type 0
IsOfAction (Top g) = ⊥
IsOfAction (Crash g) = ⊥
IsOfAction (Recover g) = ⊥
IsOfAction _ = Unit {0}

-- what was begun before is left alone: it has committed, aborted or closed exactly where it had; and a guardian is
-- down exactly where it was
pub record LeavesAlone (old new : World) : Type 0 where
  pub committed : (a : Name) → IsTrue (is_begun a old.past)
      → is_committed a new.past ≡ is_committed a old.past
  pub aborted : (a : Name) → IsTrue (is_begun a old.past)
      → is_aborted a new.past ≡ is_aborted a old.past
  pub closed : (a : Name) → IsTrue (is_begun a old.past)
      → is_closed a new.past ≡ is_closed a old.past
  pub down : (g : ℕ) → is_down g new.past ≡ is_down g old.past
