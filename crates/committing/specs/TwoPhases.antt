-- Steps that are tried in turn, and the two phases by which a top action commits.
use Rattle.std.specs.Prelude.{◌≡◌, ◌⊎◌, ℕ, Bool, true, false, List, [], ◌∷◌, ◌++◌, Result, Ok, Err, map as each}
use Rattle.action_names.specs.Names.{Name}
use Rattle.run_model.specs.declared.step.Step.{Step}
use Rattle.run_model.specs.declared.step.Step.TheVariants.{Close, Prepare, Decide}

-- ---- steps in turn

-- that a step was tried with this result, and what that left
abbrev pub Tries : Type 0 → Type 0 → Type 1
Tries E M = Step → Result Bool E → M → M → Type 0

-- whether it was done
abbrev pub is_done : {E : Type 0} → Result Bool E → Bool
is_done (Ok done) = done
is_done (Err stop) = false

-- These steps were tried in turn, each once the one before it was done. The first one that was not done is the last
-- that was tried, and the result is its result. If all were done, the result is true.
abbrev pub AreTried : {E M : Type 0} → Tries E M → List Step → Result Bool E → M → M → Type 0
AreTried tries [] result old new = (result ≡ Ok true) × (new ≡ old)
AreTried {M = M} tries (step ∷ more) result old new =
    ((is_done result ≡ false) × tries step result old new)
    ⊎ ((next : M) × tries step (Ok true) old next × AreTried tries more result next new)

-- ---- two phases

-- the top action closes, these guardians vote on it, and it is decided
abbrev pub two_phases : Name → List ℕ → List Step
two_phases top participants =
    Close top ∷ each (λ g. Prepare g top) participants ++ Decide top ∷ []
