-- What a fault was of, and which actions have ended all the same.
use Rattle.std.specs.Prelude.{◌≡◌, ◌⊎◌, ◌++◌, IsTrue, false, List, Option, Some, IfErr}
use Rattle.std.specs.List.{AllByRecursion}
use Rattle.action_names.specs.Names.{Name, has_name}
use Rattle.run_model.specs.declared.step.Step.{Step}
use Rattle.run_model.specs.Actions.{is_begun, is_ended}
use Rattle.run_model.specs.Runs.{World}
use Rattle.layer_contracts.specs.declared.guardian.Fault.{Fault}
use Rattle.layer_contracts.specs.declared.guardian.Fault.TheVariants.{Memory}
use Rattle.activities.specs.declared.apart.EndedArm.{EndedArm}

-- memory ran out, or a step failed so
abbrev pub IsCause : (Fault → Type 0) → Fault → Type 0
IsCause fails fault = (fault ≡ Memory) ⊎ fails fault

-- the fault of each arm that has one is such
abbrev pub AreCauses : (Fault → Type 0) → List EndedArm → Type 0
AreCauses fails arms = AllByRecursion (λ arm. IfErr arm.ended (IsCause fails)) arms

-- a step that failed so can leave such worlds so
pub record StepFails {M : Type 0} (leaves : Step → Option Fault → M → M → Type 0)
    (fault : Fault) : Type 0 where
  pub step : Step
  pub old : M
  pub new : M
  pub left : leaves step (Some fault) old new

-- a step can fail
pub record CanFail (fails : Fault → Type 0) : Type 0 where
  pub fault : Fault
  pub fails_so : fails fault

-- each of these actions that was begun has ended, and so has each that began since
abbrev pub HaveEnded : List Name → World → World → Type 0
HaveEnded names old new = (a : Name) → IsTrue (is_begun a new.past)
    → IsTrue (has_name names a) ⊎ (is_begun a old.past ≡ false) → IsTrue (is_ended a new.past)

-- What had ended has ended still. Where nobody else makes steps, these actions have ended, and so has what began
-- since; or a step can fail.
pub record EndOrFail (alone : Type 0) (fails : Fault → Type 0) (names : List Name)
    (old new : World) : Type 0 where
  pub stay : (a : Name) → IsTrue (is_ended a old.past) → IsTrue (is_ended a new.past)
  pub ended : alone → HaveEnded names old new ⊎ CanFail fails

-- so of each of these that does not wait any longer
abbrev pub EndBut : Type 0 → (Fault → Type 0) → List Name → List Name → World → World → Type 0
EndBut alone fails names waiting old new = (ended : List Name) × (names ≡ waiting ++ ended)
    × EndOrFail alone fails ended old new
