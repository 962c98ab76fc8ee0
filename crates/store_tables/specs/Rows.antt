-- Rows by their keys.
use Rattle.std.specs.Prelude.{ℕ, ◌≤◌, pos, Bool, ◌&&◌, List, find, Option, IsTrue}
use Rattle.std.specs.List.{AllByRecursion, count_by}
use Rattle.std.specs.Ordering.{is_eq}
use Rattle.sqlite.specs.declared.types.Value.{Value}
use Rattle.sqlite.specs.declared.types.Value.TheVariants.{Int, Text}
use Rattle.sqlite.specs.Order.{Row, column, value_cmp}
use Rattle.sqlite.specs.Tree.{Trees}
use Rattle.sqlite_trees.specs.Tree.{rowid, has_rowid}
use Rattle.sqlite_trees.specs.View.{is_int}
use Rattle.sqlite_rules.specs.Lists.{Has}
use Rattle.store_tables.specs.Tables.{stable_schema}

-- the row with this number as its key
abbrev pub row_at : List Row → ℕ → Option Row
row_at rows n = find (has_rowid (pos n)) rows

-- the row of a part of a record, whose first columns are the top action and the object
abbrev pub is_part_of : ℕ → ℕ → Row → Bool
is_part_of top object row = is_eq (value_cmp (column row 1) (Int (pos top)))
    && is_eq (value_cmp (column row 2) (Int (pos object)))

abbrev pub part_at : List Row → ℕ → ℕ → Option Row
part_at rows top object = find (is_part_of top object) rows

-- the row of `meta` with the number of this name
abbrev pub is_named : List ℕ → Row → Bool
is_named name row = is_eq (value_cmp (column row 1) (Text name))

-- the rowids are integers, and none comes twice
pub record HasRowids (rows : List Row) : Type 0 where
  pub ints : (r : Row) → Has rows r → IsTrue (is_int (rowid r))
  pub once : (v : Value) → count_by (λ r. is_eq (value_cmp (rowid r) v)) rows ≤ 1

-- so it is in each table of a store
abbrev pub HaveRowids : Trees → Type 0
HaveRowids db = AllByRecursion (λ t. HasRowids (db t.tree)) stable_schema.tables
