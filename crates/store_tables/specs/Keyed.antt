-- Answers in which no key comes twice.
use Rattle.std.specs.Prelude.{◌≡◌, ℕ, ◌≤◌, pos, Bool, ◌&&◌, List, None, IsSome}
use Rattle.std.specs.List.{count_by}
use Rattle.std.specs.Ordering.{is_eq}
use Rattle.std.specs.FinMap as map
use Rattle.sqlite.specs.declared.types.Value.{Value as Column}
use Rattle.sqlite.specs.declared.types.Value.TheVariants.{Int}
use Rattle.sqlite.specs.Order.{Row, column, value_cmp}
use Rattle.sqlite_trees.specs.Tree.{has_rowid, IsTable}
use Rattle.sqlite_rules.specs.Lists.{Has}
use Rattle.atomic_types.specs.declared.part.Part.{Part}
use Rattle.store_tables.specs.Shown.{ShowsRecord}
use Rattle.store_tables.specs.Parts.{Records, part_in}
use Rattle.store_tables.specs.Holds.{Tables}
use Rattle.store_tables.specs.First.{FirstTables, IsPrepared}

-- each row shows something
abbrev pub EachShows : {X : Type 0} → (Row → X → Type 0) → List Row → Type 0
EachShows {X} Shows rows = (r : Row) → Has rows r → (x : X) × Shows r x

-- the record of this top action has a part of this object
abbrev pub IsTaken : Records → ℕ → ℕ → Type 0
IsTaken prepared top object = IsSome (part_in (map.get prepared top) object)

-- each row shows a part that its record does not have
abbrev pub AreNew : (Column → Part → Type 0) → List Row → Records → Type 0
AreNew Spells rows prepared = (r : Row) → Has rows r
    → (e : ℕ × (ℕ × Part)) × ShowsRecord Spells 0 r e × IsPrepared prepared e.0
    × (part_in (map.get prepared e.0) e.1.0 ≡ None)

-- no number comes twice in the first column
abbrev pub KeysDiffer : List Row → Type 0
KeysDiffer rows = (n : ℕ) → count_by (has_rowid (pos n)) rows ≤ 1

-- the first columns are this top action and this object
abbrev pub is_part_shown : ℕ → ℕ → Row → Bool
is_part_shown top object row = is_eq (value_cmp (column row 0) (Int (pos top)))
    && is_eq (value_cmp (column row 1) (Int (pos object)))

-- no top action comes twice with the same object
abbrev pub PartsDiffer : List Row → Type 0
PartsDiffer rows = (top object : ℕ) → count_by (is_part_shown top object) rows ≤ 1

-- what queries show of tables that keep their keys: the numbers rise by their places, and no key comes twice
pub record AreKeyed (t : Tables) : Type 0 where
  pub numbers : IsTable t.numbers
  pub base : KeysDiffer t.base
  pub homes : KeysDiffer t.homes
  pub values : PartsDiffer t.values
  pub deltas : PartsDiffer t.deltas

pub record AreKeyedFirst (t : FirstTables) : Type 0 where
  pub base : KeysDiffer t.base
  pub homes : KeysDiffer t.homes
  pub parts : PartsDiffer t.parts
