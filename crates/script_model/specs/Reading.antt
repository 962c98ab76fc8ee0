-- What reading a part of a document gives: what the part is, or the first fault in it.
use Rattle.std.specs.Prelude.{ℕ, List, [], ◌∷◌, ◌++◌, ◌≡◌, ◌≢◌, suc, Bool, if◌then◌else◌, decimal, Option, Some, None, Result, Ok, Err}
use Rattle.serde_json.specs.Data.{Data, Items, no_items, item}
use Rattle.script_model.specs.declared.fault.FaultKind.{FaultKind}
use Rattle.script_model.specs.declared.fault.ScriptFault.{ScriptFault}
use Rattle.script_model.specs.declared.fault.ScriptFault.TheVariants.{Memory, Bad}

abbrev pub Outcome : Type 0 → Type 0
Outcome A = Result A ScriptFault

-- a part is read at its place, a JSON pointer (RFC 6901)
abbrev pub Read : Type 0 → Type 0
Read A = List ℕ → Outcome A

abbrev pub and_then : {A B : Type 0} → Outcome A → (A → Outcome B) → Outcome B
and_then (Ok a) f = f a
and_then (Err e) f = Err e

infixl 10 ◌>>=◌
abbrev pub ◌>>=◌ : {A B : Type 0} → Read A → (A → Read B) → Read B
r >>= f = λ place. and_then (r place) (λ a. f a place)

infixl 10 ◌>>◌
abbrev pub ◌>>◌ : {A B : Type 0} → Read A → Read B → Read B
r >> s = r >>= (λ _. s)

abbrev pub reads : {A : Type 0} → A → Read A
reads a = λ place. Ok a

-- the fault stands at the part itself
abbrev pub fault : {A : Type 0} → FaultKind → Read A
fault why = λ place. Err (Bad why place)

-- a fault, unless the test holds
abbrev pub ask : Bool → FaultKind → Read (Unit {0})
ask holds why = if holds then reads tt else fault why

-- what there is, or a fault
abbrev pub need : {A : Type 0} → Option A → FaultKind → Read A
need (Some a) why = reads a
need None why = fault why

-- the place of a part under this name; names that stand in places are made of letters, digits and _, so none has to
-- be escaped
abbrev pub step : List ℕ → List ℕ → List ℕ
step place name = place ++ 47 ∷ name

-- a part that stands under this name, or at this index, of what is read
abbrev pub at : {A : Type 0} → List ℕ → Read A → Read A
at name read = λ place. read (step place name)

abbrev pub nth : {A : Type 0} → ℕ → Read A → Read A
nth i read = at (decimal i) read

-- each element of an array in turn, the first of which stands at this index
abbrev pub each : {A : Type 0} → (Data → Read A) → ℕ → Items → Read (List A)
each read i no_items = reads []
each read i (item d ds) = do
  x ← nth i (read d)
  xs ← each read (suc i) ds
  reads (x ∷ xs)

-- what a call answers that reads: the outcome, unless memory is wanting
abbrev pub Answers : {A : Type 0} → Outcome A → Outcome A → Type 0
Answers outcome (Ok a) = outcome ≡ Ok a
Answers outcome (Err e) = e ≢ Memory → outcome ≡ Err e
