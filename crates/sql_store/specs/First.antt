-- A database of version 1, as an opening finds it.
use Rattle.std.specs.Prelude.{◌≡◌, ℕ, pos, false, List, [], ◌∷◌, codes, filter, Result, IsErrOf}
use Rattle.std.specs.List.{AllByRecursion}
use Rattle.sqlite.specs.declared.types.Value.TheVariants.{Int}
use Rattle.sqlite.specs.Order.{Row, column}
use Rattle.sqlite.specs.Tree.{Trees}
use Rattle.sqlite.specs.State.{State, HasCleanDisk}
use Rattle.sqlite_catalog.specs.Listing.{IsSound}
use Rattle.stable_store.specs.Stored.{Stored}
use Rattle.stable_store.specs.declared.fault.StoreFault.{StoreFault}
use Rattle.stable_store.specs.declared.fault.StoreFault.TheVariants.{NotOurs}
use Rattle.store_tables.specs.Tables.{first_schema}
use Rattle.store_tables.specs.Rows.{HasRowids, is_named}
use Rattle.store_tables.specs.First.{HoldsFirst, first_tables_of}
use Rattle.store_writing.specs.Steps.{While}

-- exactly one row of `meta` has this name, and it has this number
pub record Names (rows : List Row) (name : List ℕ) (n : ℕ) : Type 0 where
  pub row : Row
  pub only : filter (is_named name) rows ≡ row ∷ []
  pub number : column row 2 ≡ Int (pos n)

-- a database with the tables of version 1 alone, which hold this content and nothing else
pub record IsFirstStore (db : Trees) (c : Stored) : Type 0 where
  pub sound : IsSound first_schema db
  pub placed : AllByRecursion (λ t. HasRowids (db t.tree)) first_schema.tables
  pub version : Names (db 0) (codes "version") 1
  pub count : Names (db 0) (codes "count") c.count
  pub holds : HoldsFirst 1 (first_tables_of db) c.count c

-- and nothing waits for a commit
pub record IsFirstAtRest (s : State) (c : Stored) : Type 0 where
  pub schema : s.now.schema ≡ first_schema
  pub store : IsFirstStore s.now.trees c
  pub mode : s.in_transaction ≡ false
  pub settled : s.now ≡ s.committed

-- so it is while the disk is clean and the connection open
abbrev pub IsFirst : State → Stored → Type 0
IsFirst s c = While s (IsFirstAtRest s c)

-- It is not told of a store of version 1 that its rows hold no content, unless the disk has returned something else
-- than was written.
abbrev pub RecognizesFirst : {T : Type 0} → State → State → Result T StoreFault → Type 0
RecognizesFirst old new result = IsErrOf result NotOurs → HasCleanDisk new
    → (c : Stored) → ¬ IsFirst old c
