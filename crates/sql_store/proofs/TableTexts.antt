-- What the texts that lay tables out make of the schema.
use Rattle.std.proofs.Common.{ℕ, List, [], ◌∷◌, codes, refl}
use Rattle.sqlite.specs.Schema.{Schema}
use Rattle.sqlite.specs.Listing.{understood}
use Rattle.sqlite_tied.specs.Compute.{everything}
use Rattle.store_tables.specs.Tables.{no_schema, first_schema, stable_schema, meta, base, prepared, prepared_val, decided, prepared_delta}
use Rattle.sql_store.proofs.Schemas.{MakesTable, MakeTables, WritesRows}
use Rattle.sqlite_catalog.specs.Listing.{automatic}

-- the texts of the tables of version 1, in turn
abbrev pub first_texts : List (List ℕ)
first_texts =
    codes "CREATE TABLE meta(k TEXT PRIMARY KEY, v INTEGER NOT NULL)"
    ∷ codes "CREATE TABLE base(obj INTEGER PRIMARY KEY, val TEXT NOT NULL)"
    ∷ codes "CREATE TABLE prepared(top INTEGER PRIMARY KEY, home INTEGER NOT NULL)"
    ∷ codes "CREATE TABLE prepared_val(top INTEGER NOT NULL REFERENCES prepared(top) ON DELETE CASCADE, obj INTEGER NOT NULL, val TEXT NOT NULL, PRIMARY KEY(top, obj))"
    ∷ codes "CREATE TABLE decided(top INTEGER PRIMARY KEY)"
    ∷ []

-- with so many of the tables of version 1
abbrev pub with_meta : Schema
with_meta = record { tables = meta ∷ []; indexes = automatic meta 0 (1 ∷ []) 1 ∷ []; views = [] }

abbrev pub with_base : Schema
with_base = record with_meta { tables = meta ∷ (record base { tree = 2 }) ∷ [] }

abbrev pub with_prepared : Schema
with_prepared = record with_meta { tables = meta ∷ (record base { tree = 2 }) ∷ (record prepared { tree = 3 }) ∷ [] }

abbrev pub with_values : Schema
with_values = record first_schema { tables = meta ∷ (record base { tree = 2 }) ∷ (record prepared { tree = 3 }) ∷ (record prepared_val { tree = 4 }) ∷ [] }

pub makes_meta : MakesTable no_schema (codes "CREATE TABLE meta(k TEXT PRIMARY KEY, v INTEGER NOT NULL)") with_meta
unfolding understood everything
makes_meta = record { is = refl; plain = (refl, refl); table = meta; defined = refl; made = refl; complete = refl }

pub makes_base : MakesTable with_meta (codes "CREATE TABLE base(obj INTEGER PRIMARY KEY, val TEXT NOT NULL)") with_base
unfolding understood everything
makes_base = record { is = refl; plain = (refl, refl); table = base; defined = refl; made = refl; complete = refl }

pub makes_prepared : MakesTable with_base (codes "CREATE TABLE prepared(top INTEGER PRIMARY KEY, home INTEGER NOT NULL)") with_prepared
unfolding understood everything
makes_prepared = record { is = refl; plain = (refl, refl); table = prepared; defined = refl; made = refl; complete = refl }

pub makes_values : MakesTable with_prepared (codes "CREATE TABLE prepared_val(top INTEGER NOT NULL REFERENCES prepared(top) ON DELETE CASCADE, obj INTEGER NOT NULL, val TEXT NOT NULL, PRIMARY KEY(top, obj))") with_values
unfolding understood everything
makes_values = record { is = refl; plain = (refl, refl); table = prepared_val; defined = refl; made = refl; complete = refl }

pub makes_decided : MakesTable with_values (codes "CREATE TABLE decided(top INTEGER PRIMARY KEY)") first_schema
unfolding understood everything
makes_decided = record { is = refl; plain = (refl, refl); table = decided; defined = refl; made = refl; complete = refl }

pub makes_deltas : MakesTable first_schema (codes "CREATE TABLE prepared_delta(top INTEGER NOT NULL REFERENCES prepared(top) ON DELETE CASCADE, obj INTEGER NOT NULL, add_by INTEGER NOT NULL, PRIMARY KEY(top, obj))") stable_schema
unfolding understood everything
makes_deltas = record { is = refl; plain = (refl, refl); table = prepared_delta; defined = refl; made = refl; complete = refl }

pub clears_numbers : WritesRows stable_schema (codes "DELETE FROM meta")
unfolding understood everything
clears_numbers = record { plain = (refl, refl); rows = tt }

pub puts_version : WritesRows stable_schema (codes "INSERT INTO meta(rowid, k, v) VALUES (1, 'version', 2)")
unfolding understood everything
puts_version = record { plain = (refl, refl); rows = tt }

pub puts_count : WritesRows stable_schema (codes "INSERT INTO meta(rowid, k, v) VALUES (2, 'count', ?1)")
unfolding understood everything
puts_count = record { plain = (refl, refl); rows = tt }

pub puts_next : WritesRows stable_schema (codes "INSERT INTO meta(rowid, k, v) VALUES (3, 'next_top', ?1)")
unfolding understood everything
puts_next = record { plain = (refl, refl); rows = tt }

pub takes_value : WritesRows stable_schema (codes "DELETE FROM prepared_val WHERE top = ?1 AND obj = ?2")
unfolding understood everything
takes_value = record { plain = (refl, refl); rows = tt }

pub puts_delta : WritesRows stable_schema (codes "INSERT INTO prepared_delta VALUES (?1, ?2, ?3)")
unfolding understood everything
puts_delta = record { plain = (refl, refl); rows = tt }

-- the tables of version 1, one after another
pub make_first : MakeTables no_schema first_texts first_schema
make_first = (with_meta, makes_meta, (with_base, makes_base, (with_prepared, makes_prepared, (with_values, makes_values, (first_schema, makes_decided, refl)))))
