-- What a list of steps leaves.
use Rattle.std.specs.Prelude.{ℕ, ◌≡◌, ◌⊎◌, List, ◌++◌, Some, slice_get, take}
use Rattle.run_model.specs.declared.step.Step.{Step}
use Rattle.run_model.specs.declared.answer.Answer.{Answer}
use Rattle.run_model.specs.Openings.{opening_in}
use Rattle.run_model.specs.Runs.{World, answers_from, history_from}
use Rattle.stable_store.specs.Calls.{View}
use Rattle.layer_contracts.specs.declared.guardian.Fault.{Fault}
use Rattle.layer_contracts.specs.declared.guardian.Fault.TheVariants.{Memory}
use Rattle.stepping.specs.Stepping.{AreMade}
use Rattle.world.specs.Worlds.{InWorld, LeavesStores}

abbrev pub run_of : {S : Type 0} → InWorld S → World
run_of w = w.run

-- The steps were made one after another, each as a step alone, and their answers stand behind those from before.
pub record Ran {S : Type 0} (seen : S → View) (old new : InWorld S) (steps : List Step)
    (before after : List Answer) : Type 0 where
  pub answers : after ≡ before ++ answers_from (opening_in old.run.lists) old.run.past steps
  pub same_opening : new.run.lists ≡ old.run.lists
  pub history : new.run.past ≡ history_from (opening_in old.run.lists) old.run.past steps
  pub made : AreMade run_of (LeavesStores seen) steps old new

-- The steps before one of them were made. That one was not tried, since memory ran out, or it failed so.
pub record RanBefore {S : Type 0} (seen : S → View) (old new : InWorld S) (steps : List Step)
    (fault : Fault) (before after : List Answer) : Type 0 where
  pub count : ℕ
  pub step : Step
  pub there : slice_get steps count ≡ Some step
  pub left : InWorld S
  pub ran : Ran seen old left (take count steps) before after
  pub same : new.run ≡ left.run
  pub stores : ((fault ≡ Memory) × (new ≡ left)) ⊎ LeavesStores seen step (Some fault) left new
