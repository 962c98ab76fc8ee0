-- What a reading that gave something has read, step by step.
use Rattle.std.proofs.Common.{Bool, Err, List, None, Ok, Option, Some, ap, false, is_ok, refl, true, ℕ, ◌≡◌}
use Rattle.std.proofs.lemmas.Bool.{false≢true}
use Rattle.script_model.specs.declared.fault.FaultKind.{FaultKind}
use Rattle.script_model.specs.declared.fault.ScriptFault.{ScriptFault}
use Rattle.script_model.specs.Reading.{Outcome, Read, and_then, ask, need, ◌>>=◌}

or_else : {A : Type 0} → A → Outcome A → A
or_else a (Ok b) = b
or_else a (Err e) = a

-- a fault gives nothing
pub no_fault : {A B : Type 0} {w : ScriptFault} {a : A} → Err w ≡ Ok a → B
no_fault e = absurd (false≢true (ap is_ok e))

pub same_ok : {A : Type 0} (a b : A) → ◌≡◌ {A = Outcome A} (Ok a) (Ok b) → a ≡ b
unfolding or_else
same_ok a b e = ap (or_else a) e

pub then_ok : {A B : Type 0} (r : Outcome A) (f : A → Outcome B) (b : B) → and_then r f ≡ Ok b → (a : A) × (r ≡ Ok a) × (f a ≡ Ok b)
then_ok (Ok a) f b e = (a, refl, e)
then_ok (Err w) f b e = no_fault e

pub asked_ok : (t : Bool) (why : FaultKind) (place : List ℕ) (u : Unit {0}) → ask t why place ≡ Ok u → t ≡ true
asked_ok true why place u e = refl
asked_ok false why place u e = no_fault e

pub needed_ok : {A : Type 0} (o : Option A) (why : FaultKind) (place : List ℕ) (a : A) → need o why place ≡ Ok a → o ≡ Some a
needed_ok (Some x) why place a e = ap Some (same_ok x a e)
needed_ok None why place a e = no_fault e

-- what was read first, and what was then read with it
pub then_read : {A B : Type 0} (r : Read A) (f : A → Read B) (place : List ℕ) (b : B) → (r >>= f) place ≡ Ok b
    → (a : A) × (r place ≡ Ok a) × (f a place ≡ Ok b)
then_read r f place b e = then_ok (r place) (λ a. f a place) b e
