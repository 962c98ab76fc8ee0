-- What steps leave of a world and its stores. A world's run is given by a function, and how a step leaves its stores
-- by a relation.
use Rattle.std.specs.Prelude.{◌≡◌, List, [], ◌∷◌, Option, Some, None}
use Rattle.run_model.specs.declared.step.Step.{Step}
use Rattle.run_model.specs.Answers.{answer_of}
use Rattle.run_model.specs.Openings.{opening_in}
use Rattle.run_model.specs.Runs.{World, world_after}
use Rattle.layer_contracts.specs.declared.guardian.Fault.{Fault}
use Rattle.layer_contracts.specs.declared.guardian.Fault.TheVariants.{Stable}

-- how a step, which may have failed so, leaves the stores
abbrev pub Leaves : Type 0 → Type 1
Leaves M = Step → Option Fault → M → M → Type 0

-- the step was made, and left the world and each store as it says
pub record IsMade {M : Type 0} (run : M → World) (leaves : Leaves M) (step : Step)
    (old new : M) : Type 0 where
  pub after : run new
      ≡ world_after (run old) step (answer_of (opening_in (run old).lists) step (run old).past)
  pub stores : leaves step None old new

-- so were these, one after another
abbrev pub AreMade : {M : Type 0} → (M → World) → Leaves M → List Step → M → M → Type 0
AreMade run leaves [] old new = new ≡ old
AreMade {M} run leaves (step ∷ steps) old new = (next : M) × IsMade run leaves step old next
    × AreMade run leaves steps next new

-- and none beside some
abbrev pub HasMade : {M : Type 0} → (M → World) → Leaves M → M → M → Type 0
HasMade run leaves old new = (steps : List Step) × AreMade run leaves steps old new

-- After some steps one failed at a store; the run is as those steps left it, and the stores are left as by that
-- failure.
pub record FailsAtStore {M : Type 0} (run : M → World) (leaves : Leaves M)
    (old new : M) : Type 0 where
  pub before : M
  pub made : HasMade run leaves old before
  pub step : Step
  pub same : run new ≡ run before
  pub stores : leaves step (Some Stable) before new
