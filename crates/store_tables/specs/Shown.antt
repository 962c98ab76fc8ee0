-- What a row of a store's tables shows.
use Rattle.std.specs.Prelude.{◌≡◌, ℕ, ◌+◌, ◌≤◌, pos, List}
use Rattle.sqlite.specs.declared.types.Value.{Value as Column}
use Rattle.sqlite.specs.declared.types.Value.TheVariants.{Int, Text}
use Rattle.sqlite.specs.Order.{Row, column}
use Rattle.values.specs.Totals.{IsCounter}
use Rattle.atomic_types.specs.declared.part.Part.{Part}
use Rattle.atomic_types.specs.declared.part.Part.TheVariants.{Value, Delta}
use Rattle.store_tables.specs.PartTexts.{IsStoredPart, part_text}

-- the greatest number of a top action, a guardian or an object
abbrev pub greatest_number : ℕ
greatest_number = 4294967295

-- the column has the number of a top action, a guardian or an object
pub record IsNumber (v : Column) (n : ℕ) : Type 0 where
  pub is : v ≡ Int (pos n)
  pub low : 1 ≤ n
  pub high : n ≤ greatest_number

-- how a column spells a part: by its text, where the part is a value by its text, where it is a delta as a number
pub record IsText (v : Column) (p : Part) : Type 0 where
  pub is : v ≡ Text (part_text p)
  pub stored : IsStoredPart p

abbrev pub IsValueText : Column → Part → Type 0
IsValueText v (Value c) = IsText v (Value c)
IsValueText v (Delta z) = ⊥

abbrev pub IsAddedBy : Column → Part → Type 0
IsAddedBy v (Value c) = ⊥
IsAddedBy v (Delta z) = (v ≡ Int z) × IsCounter z

abbrev pub IsValue : Part → Type 0
IsValue (Value c) = Unit {0}
IsValue (Delta z) = ⊥

abbrev pub IsDelta : Part → Type 0
IsDelta (Value c) = ⊥
IsDelta (Delta z) = Unit {0}

-- The tables have a column more than what a query shows of them: `first` is 1 in a table, and 0 in an answer.

-- an object, and the text of what is installed of it
pub record ShowsPart (first : ℕ) (r : Row) (e : ℕ × Part) : Type 0 where
  pub object : IsNumber (column r 0) e.0
  pub part : IsText (column r (first + 1)) e.1

-- a top action, and the guardian that is its home
pub record ShowsHome (first : ℕ) (r : Row) (e : ℕ × ℕ) : Type 0 where
  pub top : IsNumber (column r 0) e.0
  pub home : IsNumber (column r (first + 1)) e.1

-- a top action, an object, and what would be installed of it
pub record ShowsRecord (Spells : Column → Part → Type 0) (first : ℕ) (r : Row)
    (e : ℕ × (ℕ × Part)) : Type 0 where
  pub top : IsNumber (column r first) e.0
  pub object : IsNumber (column r (first + 1)) e.1.0
  pub part : Spells (column r (first + 2)) e.1.1

abbrev pub ShowsTop : Row → ℕ → Type 0
ShowsTop r n = IsNumber (column r 0) n

-- a row of `meta`: its place, a name and a number
pub record ShowsNumber (r : Row) (e : ℕ × (List ℕ × ℕ)) : Type 0 where
  pub place : column r 0 ≡ Int (pos e.0)
  pub name : column r 1 ≡ Text e.1.0
  pub number : column r 2 ≡ Int (pos e.1.1)
