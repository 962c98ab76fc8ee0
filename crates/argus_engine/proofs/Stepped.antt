-- Faults of steps and of readers, and one at a store seen from a world before the steps that were made.
use Rattle.std.proofs.Common.{◌≡◌, ◌∙◌, Result, Ok, Err, Some, IsErrAnd, IfErr, ap, inl, inr, subst, sym}
use Rattle.std.specs.Prelude.{IsErrOf, OnErr}
use Rattle.run_model.specs.declared.step.Step.{Step}
use Rattle.run_model.specs.Runs.{World}
use Rattle.layer_contracts.specs.declared.guardian.Fault.{Fault as StepFault}
use Rattle.layer_contracts.specs.declared.guardian.Fault.TheVariants as of_step
use Rattle.argus_engine.specs.declared.engine.Fault.{Fault}
use Rattle.argus_engine.specs.declared.engine.Fault.TheVariants.{Memory, Store}
use Rattle.argus_engine.specs.Reading.{IsOfReader, IsOfReaderOrStep, IsOfStep}
use Rattle.argus_engine.specs.Serving.{fault_of_step}
use Rattle.stepping.specs.Stepping.{FailsAtStore, HasMade, Leaves}
use Rattle.stepping.proofs.Making.{fails_after, made_none}

-- what holds, also after a fault
pub also : {A E So : Type 0} (result : Result A E) → So → OnErr result So
also (Ok a) so = tt
also (Err e) so = so

abbrev refused : {A E : Type 0} → E → Result A E
refused e = Err e

not_both : {A : Type 0} (r : Result A Fault) → r ≡ refused Memory → r ≡ refused Store → ⊥
not_both r e f = absurd_of (sym e ∙ f)
  where
    absurd_of : {A : Type 0} → refused {A = A} Memory ≡ refused Store → ⊥
    absurd_of e = cc

-- the step failed at a store, and none was made before
pub failed_here : {M A : Type 0} (run : M → World) (leaves : Leaves M) (old new : M) (step : Step) (fault : StepFault)
    (result : Result A Fault) → IsErrAnd result (λ e. e ≡ fault_of_step fault) → run new ≡ run old
    → leaves step (Some fault) old new → IsErrOf result Store → FailsAtStore run leaves old new
failed_here run leaves old new step fault (Ok a) is same stores e = absurd is
failed_here run leaves old new step of_step.Memory (Err x) is same stores e = absurd (not_both (Err x) (ap (λ y. Err y) is) e)
failed_here run leaves old new step of_step.Stable (Err x) is same stores e = record {
  before = old;
  made = made_none run leaves old;
  step = step;
  same = same;
  stores = stores;
}

-- seen from before the steps that were made
pub failed_later : {M A B : Type 0} {run : M → World} {leaves : Leaves M} {old now new : M} (fault : Fault) (result : Result A Fault)
    → IsErrAnd result (λ e. e ≡ fault) → HasMade run leaves old now
    → (refused {A = B} fault ≡ refused Store → FailsAtStore run leaves now new) → IsErrOf result Store → FailsAtStore run leaves old new
failed_later fault (Ok a) is m fails e = absurd is
failed_later {A = A} {B = B} {run = run} {leaves = leaves} {old = old} {now = now} {new = new} fault (Err x) is m fails e =
    fails_after run leaves old now new m (fails (ap (λ y. refused {A = B} y) (sym is ∙ same x e)))
  where
    same : (x : Fault) → refused {A = A} x ≡ refused Store → x ≡ Store
    same x e = cc

-- what the fault of a step is
pub fault_of_either : {A : Type 0} (fault : StepFault) (result : Result A Fault) → IsErrAnd result (λ e. e ≡ fault_of_step fault) → IfErr result IsOfStep
fault_of_either fault (Ok a) is = tt
fault_of_either of_step.Memory (Err x) is = inl is
fault_of_either of_step.Stable (Err x) is = inr is

-- a fault that is passed on, of the reader or of the step
pub of_reader : {A : Type 0} (fault : Fault) (result : Result A Fault) → IsErrAnd result (λ e. e ≡ fault) → IsOfReader fault → IfErr result IsOfReaderOrStep
of_reader fault (Ok a) is h = tt
of_reader fault (Err x) is (inl memory) = inr (inl (is ∙ memory))
of_reader fault (Err x) is (inr input) = inl (is ∙ input)

pub of_its_step : {A : Type 0} (fault : Fault) (result : Result A Fault) → IsErrAnd result (λ e. e ≡ fault) → IsOfStep fault → IfErr result IsOfReaderOrStep
of_its_step fault (Ok a) is h = tt
of_its_step fault (Err x) is h = inr (subst IsOfStep (sym is) h)

-- the reader's fault is none of a store
pub not_of_reader : {A So : Type 0} (fault : Fault) (result : Result A Fault) → IsErrAnd result (λ e. e ≡ fault) → IsOfReader fault → IsErrOf result Store → So
not_of_reader fault (Ok a) is h e = absurd is
not_of_reader {A} fault (Err x) is h e = absurd (none x (subst IsOfReader (sym is) h) e)
  where
    none : (x : Fault) → IsOfReader x → refused {A = A} x ≡ refused Store → ⊥
    none x (inl memory) e = cc
    none x (inr input) e = cc
