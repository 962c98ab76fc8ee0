-- Marks of the handlers that are called, and the question whether one can reach itself.
use Rattle.std.specs.Prelude.{◌≡◌, ℕ, suc, ◌<◌, List, [], ◌∷◌, length, map, replicate, slice_set, get_or, slice_get}
use Rattle.std.specs.Prelude.{Bool, true, false, ◌||◌, Some, Ok, Err, Vec, Result}
use Rattle.script_model.specs.declared.fault.FaultKind.TheVariants.{Recursion}
use Rattle.script_model.specs.declared.fault.ScriptFault.{ScriptFault}
use Rattle.script_model.specs.declared.fault.ScriptFault.TheVariants.{Memory, Bad}
use Rattle.script_model.specs.declared.statement.Arm.{Arm}
use Rattle.script_model.specs.declared.statement.Arm.TheFolds.{fold-Arm}
use Rattle.script_model.specs.declared.checked.Handler.{Handler}
use Rattle.script_model.specs.declared.checked.Checked.{Checked}
use Rattle.script_model.specs.Reaching.{called, called_arm, called_step, joined, Reaches, handler_place}
use Rattle.std.specs.declared.alloc.Global.{Global}

abbrev pub called_in_arm : Arm → List ℕ
called_in_arm = fold-Arm (List ℕ) (List ℕ) called_arm called_step

abbrev pub called_in_arms : List Arm → List ℕ
called_in_arms arms = joined (map called_in_arm arms)

-- whether this number is marked
abbrev pub marked : List Bool → ℕ → Bool
marked marks n = get_or marks n false

-- the marks with these numbers marked as well
abbrev pub marked_all : List ℕ → List Bool → List Bool
marked_all [] marks = marks
marked_all (n ∷ ns) marks = marked_all ns (slice_set marks n true)

-- for each handler, marks of those that it calls
abbrev pub call_rows : List Handler → List (List Bool)
call_rows hs = map (λ h. marked_all (called h.body) (replicate (length hs) false)) hs

abbrev pub rows_of : List (Vec Bool Global) → List (List Bool)
rows_of table = map (λ row. row.items) table

-- how many are not marked
abbrev pub unmarked : List Bool → ℕ
unmarked [] = 0
unmarked (true ∷ marks) = unmarked marks
unmarked (false ∷ marks) = suc (unmarked marks)

-- the new marks are the old ones and those of the row, and whether these were more
pub record AddsRow (row old new : List Bool) (grew : Bool) : Type 0 where
  pub same_length : length new ≡ length old
  pub union : (n : ℕ) → marked new n ≡ (marked old n || marked row n)
  pub more : grew ≡ true → unmarked new < unmarked old
  pub same : grew ≡ false → new ≡ old

-- The old marks stay, and what is new is called by what is marked. Where nothing is new, the marks hold all that
-- their own rows mark.
pub record Spreads (rows : List (List Bool)) (old new : List Bool) (grew : Bool) : Type 0 where
  pub same_length : length new ≡ length old
  pub kept : (n : ℕ) → marked old n ≡ true → marked new n ≡ true
  pub sound : (hs : List Handler) (start : ℕ) → rows ≡ call_rows hs
      → ((n : ℕ) → marked old n ≡ true → Reaches hs start n)
      → (n : ℕ) → marked new n ≡ true → Reaches hs start n
  pub more : grew ≡ true → unmarked new < unmarked old
  pub closed : grew ≡ false → (a b : ℕ) → marked new a ≡ true → marked (get_or rows a []) b ≡ true
      → marked new b ≡ true

-- no handler can reach itself, or the first that can is told
abbrev pub IsAsked : Checked → Result (Unit {0}) ScriptFault → Type 0
IsAsked c (Ok _) = (n : ℕ) → Reaches c.handlers n n → ⊥
IsAsked c (Err Memory) = Unit {0}
IsAsked c (Err (Bad why place)) = (why ≡ Recursion)
    × ((n : ℕ) × (h : Handler) × (slice_get c.handlers n ≡ Some h) × Reaches c.handlers n n
    × ((m : ℕ) → m < n → Reaches c.handlers m m → ⊥) × (place ≡ handler_place h))
