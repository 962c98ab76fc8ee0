-- Laying the tables of a store out, as the schema shows it.
use Rattle.std.specs.Prelude.{◌≡◌, ℕ, List, Result, Ok, OnOk}
use Rattle.sqlite.specs.Order.{Row}
use Rattle.sqlite.specs.Schema.{Schema}
use Rattle.sqlite.specs.State.{State, HasCleanDisk, Executes}
use Rattle.sqlite_catalog.specs.Listing.{IsSound}
use Rattle.store_tables.specs.Tables.{no_schema, first_schema, stable_schema}
use Rattle.sql_store.specs.declared.layout.Layout.{Layout}
use Rattle.sql_store.specs.declared.layout.Layout.TheVariants.{Nothing, First, Second, Others}

-- the database has the tables of this layout, and nothing else
abbrev pub HasTables : Layout → Schema → Type 0
HasTables Nothing schema = schema ≡ no_schema
HasTables First schema = schema ≡ first_schema
HasTables Second schema = schema ≡ stable_schema
HasTables Others schema = ⊥

-- The database had the tables of this layout and nothing else, and after `Ok` it has those of a store and nothing else.
abbrev pub LaysOut : {T E : Type 0} → Layout → State → State → Result T E → Type 0
LaysOut layout old new result = HasCleanDisk new → HasTables layout old.now.schema
    → OnOk result (new.now.schema ≡ stable_schema)

-- And after `Ok` the rows obey that schema, and list it.
abbrev pub LaysSound : {T E : Type 0} → Layout → State → State → Result T E → Type 0
LaysSound layout old new result = HasCleanDisk new → HasTables layout old.now.schema
    → OnOk result (IsSound stable_schema new.now.trees)

-- after `Ok` the schema is what it was
abbrev pub KeepsSchema : {T E : Type 0} → State → State → Result T E → Type 0
KeepsSchema old new result = HasCleanDisk new → OnOk result (new.now.schema ≡ old.now.schema)

-- the statement was run
abbrev pub HasRun : List ℕ → Row → State → State → Type 0
HasRun sql params old new = (count : ℕ) × Executes sql params old new (Ok count)
