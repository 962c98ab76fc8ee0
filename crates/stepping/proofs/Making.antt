-- Steps that were made, one after another, and one that failed at a store behind them.
use Rattle.std.proofs.Common.{◌≡◌, ◌∙◌, List, [], ◌∷◌, ◌++◌, Result, Ok, Err, None, ap, refl, subst}
use Rattle.std.specs.Prelude.{OnOk}
use Rattle.run_model.specs.declared.answer.Answer.{Answer}
use Rattle.run_model.specs.declared.step.Step.{Step}
use Rattle.run_model.specs.Answers.{answer_of}
use Rattle.run_model.specs.Openings.{opening_in}
use Rattle.run_model.specs.Runs.{World, world_after}
use Rattle.stepping.specs.Stepping.{AreMade, FailsAtStore, HasMade, Leaves}

pub join : {M : Type 0} (run : M → World) (leaves : Leaves M) (steps more : List Step) (old now new : M)
    → AreMade run leaves steps old now → AreMade run leaves more now new → AreMade run leaves (steps ++ more) old new
join run leaves [] more old now new e m = subst (λ w. AreMade run leaves more w new) e m
join run leaves (step ∷ steps) more old now new a m = (a.0, a.1, join run leaves steps more a.0 now new a.2 m)

pub made_none : {M : Type 0} (run : M → World) (leaves : Leaves M) (w : M) → HasMade run leaves w w
made_none run leaves w = ([], refl)

pub made_one : {M : Type 0} (run : M → World) (leaves : Leaves M) (old new : M) (step : Step) (answer : Answer)
    → answer ≡ answer_of (opening_in (run old).lists) step (run old).past → run new ≡ world_after (run old) step answer
    → leaves step None old new → HasMade run leaves old new
made_one run leaves old new step answer is after stores =
    (step ∷ [], (new, record { after = after ∙ ap (λ a. world_after (run old) step a) is; stores = stores }, refl))

pub made_more : {M : Type 0} (run : M → World) (leaves : Leaves M) (old now new : M) → HasMade run leaves old now
    → HasMade run leaves now new → HasMade run leaves old new
made_more run leaves old now new a m = (a.0 ++ m.0, join run leaves a.0 m.0 old now new a.1 m.1)

-- what comes after steps that were made
pub made_after : {M A E : Type 0} (run : M → World) (leaves : Leaves M) (old now new : M) → HasMade run leaves old now
    → (result : Result A E) → OnOk result (HasMade run leaves now new) → OnOk result (HasMade run leaves old new)
made_after run leaves old now new made (Err e) ok = tt
made_after run leaves old now new made (Ok a) ok = made_more run leaves old now new made ok

pub fails_after : {M : Type 0} (run : M → World) (leaves : Leaves M) (old now new : M) → HasMade run leaves old now
    → FailsAtStore run leaves now new → FailsAtStore run leaves old new
fails_after run leaves old now new made f = record {
  before = f.before;
  made = made_more run leaves old now f.before made f.made;
  step = f.step;
  same = f.same;
  stores = f.stores;
}
