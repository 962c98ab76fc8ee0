-- Which handlers can reach themselves by calls, and what a script is.
use Rattle.std.specs.Prelude.{ℕ, map, ◌-◌, ◌<◌, ◌≡◌, List, [], ◌∷◌, ◌++◌, Option, Some, None, Ok, Err, codes, decimal, slice_get, Contains, ◌⊎◌}
use Rattle.serde_json.specs.Data.{Data}
use Rattle.script_model.specs.declared.fault.FaultKind.TheVariants as is
use Rattle.script_model.specs.declared.fault.ScriptFault.{ScriptFault}
use Rattle.script_model.specs.declared.fault.ScriptFault.TheVariants.{Memory, Bad}
use Rattle.script_model.specs.declared.statement.Statement.{Statement}
use Rattle.script_model.specs.declared.statement.Arm.TheOpen.{Statement-F, Arm-F}
use Rattle.script_model.specs.declared.statement.Arm.TheFolds.{fold-Statement}
use Rattle.script_model.specs.declared.checked.Handler.{Handler}
use Rattle.script_model.specs.declared.checked.Checked.{Checked}
use Rattle.script_model.specs.Reading.{step}
use Rattle.script_model.specs.ScriptReading.{script}
use Rattle.script_model.specs.StatementReading.{Body}

-- the numbers of the handlers that bodies call
abbrev pub joined : List (List ℕ) → List ℕ
joined [] = []
joined (xs ∷ more) = xs ++ joined more

abbrev pub joined_if_any : Option (List (List ℕ)) → List ℕ
joined_if_any None = []
joined_if_any (Some xs) = joined xs

-- one statement, with the calls of each statement that stands in it in that one's place
abbrev pub called_step : Statement-F (List ℕ) (List ℕ) → List ℕ
called_step (Statement-F.Op o s) = joined_if_any s
called_step (Statement-F.Call c s) = c.handler ∷ joined_if_any s
called_step (Statement-F.Coenter arms) = joined arms
called_step (Statement-F.TopAction body s) = joined body ++ joined s
called_step (Statement-F.If test first second) = joined first ++ joined second
called_step (Statement-F.Repeat n body) = joined body
called_step Statement-F.Abort = []
called_step (Statement-F.Return e) = []

abbrev pub called_arm : Arm-F (List ℕ) (List ℕ) → List ℕ
called_arm (Arm-F.Sub body) = joined body
called_arm (Arm-F.Top body) = joined body

abbrev pub called_by : Statement → List ℕ
called_by = fold-Statement (List ℕ) (List ℕ) called_arm called_step

abbrev pub called : Body → List ℕ
called body = joined (map called_by body)

-- the handler of the first number calls that of the second
abbrev pub Calls : List Handler → ℕ → ℕ → Type 0
Calls hs a b = (h : Handler) × (slice_get hs a ≡ Some h) × Contains (called h.body) b

-- it does, or it calls one that reaches that one
pub data Reaches (hs : List Handler) : ℕ → ℕ → Type 0 where
  directly : {a b : ℕ} → Calls hs a b → Reaches hs a b
  further : {a b c : ℕ} → Calls hs a b → Reaches hs b c → Reaches hs a c

-- ---- what a script is

-- the document is this script, none of whose handlers can reach itself
pub record Fits (d : Data) (c : Checked) : Type 0 where
  pub read : script d [] ≡ Ok c
  pub ends : (n : ℕ) → Reaches c.handlers n n → ⊥

-- where a handler stands in the document
abbrev pub handler_place : Handler → List ℕ
handler_place h =
    step (step (step (step [] (codes "guardians")) (decimal (h.guardian - 1))) (codes "handlers"))
    h.name

-- the document is a script but for its first handler that can reach itself, which stands at this place
pub record IsRecursiveAt (d : Data) (place : List ℕ) : Type 0 where
  pub checked : Checked
  pub read : script d [] ≡ Ok checked
  pub number : ℕ
  pub handler : Handler
  pub found : slice_get checked.handlers number ≡ Some handler
  pub recursive : Reaches checked.handlers number number
  pub first : (n : ℕ) → n < number → Reaches checked.handlers n n → ⊥
  pub place_is : place ≡ handler_place handler

-- the fault of a document: the first that reading it meets, else the first recursion
abbrev pub IsFirstFault : Data → ScriptFault → Type 0
IsFirstFault d Memory = Unit {0}
IsFirstFault d (Bad why place) = (script d [] ≡ Err (Bad why place))
    ⊎ ((why ≡ is.Recursion) × IsRecursiveAt d place)
