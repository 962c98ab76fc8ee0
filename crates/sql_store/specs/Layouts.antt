-- What a database has of the columns that queries name, and which tables of a store those are.
use Rattle.std.specs.Prelude.{◌≡◌, ℕ, List, [], ◌∷◌, codes, Result, Ok, Err}
use Rattle.std.specs.List.{AllByRecursion}
use Rattle.sqlite.specs.Schema.{Schema}
use Rattle.sqlite.specs.Listing.{understood}
use Rattle.sqlite.specs.declared.error.Error.{Error}
use Rattle.sqlite.specs.declared.error.Error.TheVariants.{SqlInputError}
use Rattle.sqlite_resolve.specs.declared.compiled.Compiled.{Compiled}
use Rattle.sqlite_resolve.specs.declared.error.CompileError.{CompileError}
use Rattle.sqlite_resolve.specs.declared.error.CompileError.TheVariants.{NoSuchTable}
use Rattle.store_tables.specs.Tables.{no_schema, first_schema, stable_schema}
use Rattle.sql_store.specs.declared.layout.Layout.{Layout}
use Rattle.sql_store.specs.declared.layout.Layout.TheVariants.{Nothing, First, Second}
use Rattle.sql_store.specs.declared.layout.Presence.{Presence}
use Rattle.sql_store.specs.declared.layout.Presence.TheVariants.{There, Missing, Others}

-- as the database understands the query
abbrev pub presence : Result Compiled CompileError → Presence
presence (Ok c) = There
presence (Err NoSuchTable) = Missing
presence (Err _) = Others

abbrev pub presence_in : Schema → List ℕ → Presence
presence_in schema sql = presence (understood schema sql)

-- the error says that the query was not understood, and this is what the database has then
abbrev pub IsAbsence : Error → Presence → Type 0
IsAbsence error found = (fault : CompileError) × (error ≡ SqlInputError fault)
    × (found ≡ presence (Err fault))

-- where the database has the same of all that the queries name, it is this
abbrev pub IsPresence : Schema → List (List ℕ) → Presence → Type 0
IsPresence schema queries found = (all : Presence)
    → AllByRecursion (λ q. presence_in schema q ≡ all) queries → found ≡ all

-- the queries that look for the columns of a store
abbrev pub column_queries : List (List ℕ)
column_queries =
    codes "SELECT k, v FROM meta"
    ∷ codes "SELECT obj, val FROM base"
    ∷ codes "SELECT top, home FROM prepared"
    ∷ codes "SELECT top, obj, val FROM prepared_val"
    ∷ codes "SELECT top FROM decided"
    ∷ codes "SELECT top, obj, add_by FROM prepared_delta"
    ∷ []

-- the database has the tables and the columns of a store, whatever else it has
abbrev pub HasColumns : Schema → Type 0
HasColumns schema = AllByRecursion (λ q. presence_in schema q ≡ There) column_queries

-- which layout it is, for the schemas of a new database, of version 1 and of a store, and with the columns of a store
pub record IsLayout (schema : Schema) (layout : Layout) : Type 0 where
  pub new : schema ≡ no_schema → layout ≡ Nothing
  pub first : schema ≡ first_schema → layout ≡ First
  pub second : schema ≡ stable_schema → layout ≡ Second
  pub columns : HasColumns schema → layout ≡ Second
