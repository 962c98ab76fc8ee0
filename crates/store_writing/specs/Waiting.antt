-- Parts that wait until one statement can write many.
use Rattle.std.specs.Prelude.{◌≡◌, ℕ, pos, ◌≤◌, List, [], ◌∷◌, ◌++◌, string_bytes, Result, OnOk}
use Rattle.std.specs.List.{AllByRecursion}
use Rattle.sqlite.specs.declared.types.Value.TheVariants.{Int, Text}
use Rattle.sqlite.specs.declared.error.Error.{Error}
use Rattle.sqlite.specs.Order.{Row}
use Rattle.sqlite.specs.State.{State}
use Rattle.atomic_types.specs.declared.part.Part.{Part}
use Rattle.store_tables.specs.PartTexts.{IsStoredPart, part_text}
use Rattle.stable_store.specs.Stored.{Stored}
use Rattle.store_tables.specs.Shown.{greatest_number}
use Rattle.store_writing.specs.declared.waiting.PartText.{PartText}
use Rattle.store_writing.specs.Steps.{Steps}

-- it is the object and the text of a part that a store may hold
pub record IsTextOf (w : PartText) (e : ℕ × Part) : Type 0 where
  pub object : w.object ≡ e.0
  pub high : e.0 ≤ greatest_number
  pub text : string_bytes w.text ≡ part_text e.1
  pub stored : IsStoredPart e.1

abbrev pub AreTextsOf : List PartText → List (ℕ × Part) → Type 0
AreTextsOf [] [] = Unit {0}
AreTextsOf [] (e ∷ es) = ⊥
AreTextsOf (w ∷ ws) [] = ⊥
AreTextsOf (w ∷ ws) (e ∷ es) = IsTextOf w e × AreTextsOf ws es

-- the text of this part stands behind those that were there
pub record HasOneMore (was now : List PartText) (e : ℕ × Part) : Type 0 where
  pub last : PartText
  pub is : IsTextOf last e
  pub whole : now ≡ was ++ last ∷ []

-- each object and its text, as parameters
abbrev pub parameters_of : List PartText → Row
parameters_of [] = []
parameters_of (w ∷ ws) = Int (pos w.object) ∷ Text (string_bytes w.text) ∷ parameters_of ws

-- a part of any kind
abbrev pub IsAny : Part → Type 0
IsAny p = Unit {0}

-- of all these parts the first are written, and the others, of one kind, wait
pub record Waits (Kind : Part → Type 0) (waiting : List PartText)
    (written all : List (ℕ × Part)) : Type 0 where
  pub left : List (ℕ × Part)
  pub whole : written ++ left ≡ all
  pub texts : AreTextsOf waiting left
  pub kinds : AllByRecursion (λ e. Kind e.1) left

-- A part of a transaction took all these parts: it left what those made that it has written, and the others wait.
pub record Takes (Kind : Part → Type 0) (old new : State) (waiting : List PartText)
    (all : List (ℕ × Part)) (after : List (ℕ × Part) → Stored)
    (result : Result (Unit {0}) Error) : Type 0 where
  pub written : List (ℕ × Part)
  pub waits : OnOk result (Waits Kind waiting written all)
  pub steps : Steps old new (after written) result
