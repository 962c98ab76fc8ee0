-- What was done where the engine gives up, seen from a world before the steps that were made.
use Rattle.std.proofs.Common.{◌≡◌, Result, Ok, Err, Some, IsErrAnd, IfErr, inl, inr, subst, sym}
use Rattle.run_model.specs.declared.step.Step.{Step}
use Rattle.run_model.specs.Runs.{World}
use Rattle.layer_contracts.specs.declared.guardian.Fault.{Fault as StepFault}
use Rattle.layer_contracts.specs.declared.guardian.Fault.TheVariants as of_step
use Rattle.argus_engine.specs.declared.engine.Fault.{Fault}
use Rattle.argus_engine.specs.declared.engine.Fault.TheVariants.{Memory, Store, Input, Output, Stamps, Receipts, Open, Time}
use Rattle.argus_engine.specs.Reading.{IsOfReader}
use Rattle.argus_engine.specs.Serving.{GaveUp, fault_of_step}
use Rattle.stepping.specs.Stepping.{HasMade, Leaves}
use Rattle.stepping.proofs.Making.{fails_after, made_more}

-- a fault that is passed on
pub passed_on : {A : Type 0} (P : Fault → Type 0) (fault : Fault) (result : Result A Fault) → IsErrAnd result (λ e. e ≡ fault) → P fault → IfErr result P
passed_on P fault (Ok a) is h = tt
passed_on P fault (Err x) is h = subst P (sym is) h

-- seen from before the steps that were made
pub gave_up_later : {M : Type 0} (run : M → World) (leaves : Leaves M) (old now new : M) → HasMade run leaves old now → (fault : Fault)
    → GaveUp run leaves now new fault → GaveUp run leaves old new fault
gave_up_later run leaves old now new made Memory (inl more) = inl (made_more run leaves old now new made more)
gave_up_later run leaves old now new made Memory (inr f) = inr record {
  before = f.before;
  made = made_more run leaves old now f.before made f.made;
  step = f.step;
  same = f.same;
  stores = f.stores;
}
gave_up_later run leaves old now new made Store f = fails_after run leaves old now new made f
gave_up_later run leaves old now new made Input more = made_more run leaves old now new made more
gave_up_later run leaves old now new made Output more = made_more run leaves old now new made more
gave_up_later run leaves old now new made Stamps none = none
gave_up_later run leaves old now new made Receipts none = none
gave_up_later run leaves old now new made Open none = none
gave_up_later run leaves old now new made Time none = none

pub answers_later : {M A : Type 0} (run : M → World) (leaves : Leaves M) (old now new : M) → HasMade run leaves old now → (result : Result A Fault)
    → IfErr result (GaveUp run leaves now new) → IfErr result (GaveUp run leaves old new)
answers_later run leaves old now new made (Ok a) h = tt
answers_later run leaves old now new made (Err x) h = gave_up_later run leaves old now new made x h

-- a step failed, and none was made before
pub gave_up_here : {M : Type 0} (run : M → World) (leaves : Leaves M) (old new : M) (step : Step) (fault : StepFault) → HasMade run leaves old old
    → run new ≡ run old → leaves step (Some fault) old new → GaveUp run leaves old new (fault_of_step fault)
gave_up_here run leaves old new step of_step.Memory none same stores = inr record { before = old; made = none; step = step; same = same; stores = stores }
gave_up_here run leaves old new step of_step.Stable none same stores = record { before = old; made = none; step = step; same = same; stores = stores }

-- the reader failed, or the vector found no memory
pub gave_up_reading : {M : Type 0} (run : M → World) (leaves : Leaves M) (old new : M) (fault : Fault) → HasMade run leaves old new → IsOfReader fault
    → GaveUp run leaves old new fault
gave_up_reading run leaves old new fault made (inl memory) = subst (GaveUp run leaves old new) (sym memory) (inl made)
gave_up_reading run leaves old new fault made (inr input) = subst (GaveUp run leaves old new) (sym input) made

-- the writer failed
pub gave_up_writing : {M : Type 0} (run : M → World) (leaves : Leaves M) (old new : M) (fault : Fault) → HasMade run leaves old new → fault ≡ Output
    → GaveUp run leaves old new fault
gave_up_writing run leaves old new fault made output = subst (GaveUp run leaves old new) (sym output) made
