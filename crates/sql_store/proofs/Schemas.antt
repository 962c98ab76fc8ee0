-- What a statement of known text makes of the schema.
use Rattle.std.proofs.Common.{◌≡◌, ℕ, ◌+◌, ◌<◌, ◌≤◌, Bor, List, [], ◌∷◌, map, drop, length, get_or, false, Option, None, Result, Ok, Err, OnOk, refl, sym, ap, subst, ◌∙◌}
use Rattle.std.proofs.lemmas.List.{drop_more, drop_all}
use Rattle.sqlite.specs.Order.{Row}
use Rattle.sqlite.specs.Table.{Table}
use Rattle.sqlite.specs.Schema.{Schema}
use Rattle.sqlite.specs.Command.{Command}
use Rattle.sqlite.specs.Command.TheVariants.{Insert, InsertOr, Update, Delete, CreateTable}
use Rattle.sqlite.specs.Effect.{Database, IsDatabase}
use Rattle.sqlite.specs.Does.{Tally, Does, lacks_sequence}
use Rattle.sqlite.specs.declared.run.Mode.{Mode}
use Rattle.sqlite.specs.Listing.{understood}
use Rattle.sqlite.specs.Given.{IsPlain}
use Rattle.sqlite.specs.State.{State, HasCleanDisk, Runs, Writes, mode_of}
use Rattle.sqlite.proofs.Callers.{command_of, statement_of, runs_as}
use Rattle.sqlite_resolve.specs.Compile.{table_defined_by}
use Rattle.sqlite_catalog.specs.Change.{created}
use Rattle.sqlite_catalog.specs.Listing.{IsSound}
use Rattle.store_tables.proofs.PartRows.{went, same_value}
use Rattle.store_tables.specs.Tables.{first_schema, stable_schema}
use Rattle.store_writing.proofs.Runs.{writes_rows}
use Rattle.sql_store.specs.declared.layout.Layout.{Layout}
use Rattle.sql_store.specs.declared.layout.Layout.TheVariants.{First, Second}
use Rattle.sql_store.specs.Schemas.{HasTables, LaysOut, LaysSound, HasRun}
use Rattle.sql_store.proofs.Looking.{on_table}
use Rattle.sql_store.proofs.Asked.{no_text}

module _ (limit : Option ℕ) (mode : Mode) (params : Row) (db : Database) (text : List ℕ) (tally : Tally) (after : Database) where
  rows_written : (command : Command) → writes_rows command → Does limit mode params db text None command (Ok (tally, after)) → after.schema ≡ db.schema
  rows_written (Insert at from) w h = on_table limit mode params db None tally after at (Insert at from) h
  rows_written (InsertOr at way from clauses) w h = on_table limit mode params db None tally after at (InsertOr at way from clauses) h
  rows_written (Update at q) w h = on_table limit mode params db None tally after at (Update at q) h
  rows_written (Delete at q) w h = on_table limit mode params db None tally after at (Delete at q) h
  rows_written _ w h = absurd w

  table_made : (table : Table) → table_defined_by text ≡ Ok table → lacks_sequence (created db.schema table) ≡ false
      → Does limit mode params db text None CreateTable (Ok (tally, after)) → after.schema ≡ created db.schema table
  table_made table defined complete h =
      let outer = went h in
      let inner = went outer.1 in
      let same : inner.1.table ≡ table = same_value (sym inner.1.defined ∙ defined) in
      let is : inner.0.schema ≡ created db.schema table = inner.1.is ∙ ap (created db.schema) same in
      let none : lacks_sequence inner.0.schema ≡ false = ap lacks_sequence is ∙ complete in
      let last : ◌≡◌ {A = Result Database _} (Ok outer.0) (Ok inner.0) = rw none at inner.2 in
      ap (λ (p : Tally × Database). p.1.schema) (same_value outer.2) ∙ (ap (λ (d : Database). d.schema) (same_value last) ∙ is)

-- the text is a statement that makes a table, and this schema becomes that one
pub record MakesTable (schema : Schema) (sql : List ℕ) (after : Schema) : Type 0 where
  pub is : command_of (understood schema sql) ≡ CreateTable
  pub plain : IsPlain (understood schema sql)
  pub table : Table
  pub defined : table_defined_by (statement_of sql (understood schema sql)) ≡ Ok table
  pub made : created schema table ≡ after
  pub complete : lacks_sequence (created schema table) ≡ false

-- the texts make tables one after another, and this schema becomes that one
abbrev pub MakeTables : Schema → List (List ℕ) → Schema → Type 0
MakeTables schema [] last = schema ≡ last
MakeTables schema (sql ∷ more) last = (next : Schema) × MakesTable schema sql next × MakeTables next more last

-- so do those from this place on
pub record MakesLeft (schema last : Schema) (texts : List (Bor (List ℕ))) (from : ℕ) : Type 0 where
  pub left : MakeTables schema (map (λ (x : Bor (List ℕ)). x.now) (drop from texts)) last

-- the text is a statement that writes rows
pub record WritesRows (schema : Schema) (sql : List ℕ) : Type 0 where
  pub plain : IsPlain (understood schema sql)
  pub rows : writes_rows (command_of (understood schema sql))

module _ (sql : List ℕ) (params : Row) (old new : State) (schema : Schema) (has : old.now.schema ≡ schema) (ran : HasRun sql params old new) where
  abbrev statement : List ℕ
  statement = statement_of sql (understood schema sql)

  pub makes_table : (after : Schema) → MakesTable schema sql after → new.now.schema ≡ after
  makes_table after it =
      let w : Writes old new None CreateTable statement params ran.0 = runs_as sql params old new schema has CreateTable it.is it.plain ran.0 ran.1 in
      let complete = ap (λ s. lacks_sequence (created s it.table)) has ∙ it.complete in
      table_made old.step_limit (mode_of old) params old.now statement w.tally new.now it.table it.defined complete w.changed
      ∙ (ap (λ s. created s it.table) has ∙ it.made)

  pub writes_only : WritesRows schema sql → new.now.schema ≡ schema
  writes_only it =
      let command = command_of (understood schema sql) in
      written command it.rows (runs_as sql params old new schema has command refl it.plain ran.0 ran.1) ∙ has
    where
      wrote : (command : Command) → writes_rows command → Writes old new None command statement params ran.0 → new.now.schema ≡ old.now.schema
      wrote command w h = rows_written old.step_limit (mode_of old) params old.now statement h.tally new.now command w h.changed

      written : (command : Command) → writes_rows command → Runs old new None command statement params ran.0 → new.now.schema ≡ old.now.schema
      written (Insert at from) w h = wrote (Insert at from) w h
      written (InsertOr at way from clauses) w h = wrote (InsertOr at way from clauses) w h
      written (Update at q) w h = wrote (Update at q) w h
      written (Delete at q) w h = wrote (Delete at q) w h
      written _ w h = absurd w

  pub sound_after : WritesRows schema sql → IsDatabase new.now
  sound_after it =
      let command = command_of (understood schema sql) in
      obeyed command it.rows (runs_as sql params old new schema has command refl it.plain ran.0 ran.1)
    where
      obeyed : (command : Command) → writes_rows command → Runs old new None command statement params ran.0 → IsDatabase new.now
      obeyed (Insert at from) w h = h.sound
      obeyed (InsertOr at way from clauses) w h = h.sound
      obeyed (Update at q) w h = h.sound
      obeyed (Delete at q) w h = h.sound
      obeyed _ w h = absurd w

-- ---- texts one after another

pub next_made : {texts : List (Bor (List ℕ))} {i : ℕ} {last : Schema} (params : Row) (a b : State) → i < length texts → MakesLeft a.now.schema last texts i
    → HasRun (get_or texts i no_text).now params a b → MakesLeft b.now.schema last texts (i + 1)
next_made {texts} {i} {last} params a b low h ran =
    let now = λ (x : Bor (List ℕ)). x.now in
    let first = subst (λ xs. MakeTables a.now.schema (map now xs) last) (drop_more texts i no_text low) h.left in
    subst (λ s. MakesLeft s last texts (i + 1)) (sym (makes_table (get_or texts i no_text).now params a b a.now.schema refl ran first.0 first.1)) (record { left = first.2 })

pub all_made : {texts : List (Bor (List ℕ))} {i : ℕ} {schema last : Schema} → length texts ≤ i → MakesLeft schema last texts i → schema ≡ last
all_made {texts} {i} {schema} {last} end h = subst (λ xs. MakeTables schema (map (λ (x : Bor (List ℕ)). x.now) xs) last) (drop_all i texts end) h.left

-- ---- parts of a transaction

-- a statement that makes the last table
pub ran_last : {T E : Type 0} (sql : List ℕ) (params : Row) (a b : State) (r : Result T E) → MakesTable first_schema sql stable_schema
    → (HasCleanDisk b → OnOk r (HasRun sql params a b)) → LaysOut First a b r
ran_last sql params a b (Ok x) it ran clean has = makes_table sql params a b first_schema has (ran clean) stable_schema it
ran_last sql params a b (Err e) it ran clean has = tt

-- a statement that was run
pub ran_rows : {T E : Type 0} (sql : List ℕ) (params : Row) (a b : State) (r : Result T E) → WritesRows stable_schema sql
    → (HasCleanDisk b → OnOk r (HasRun sql params a b)) → LaysOut Second a b r
ran_rows sql params a b (Ok x) it ran clean has = writes_only sql params a b stable_schema has (ran clean) it
ran_rows sql params a b (Err e) it ran clean has = tt

-- one part after another
pub then_laid : {T E : Type 0} (layout : Layout) (a b d : State) (r : Result T E) → (HasCleanDisk d → HasCleanDisk b)
    → (HasCleanDisk b → HasTables layout a.now.schema → b.now.schema ≡ stable_schema) → LaysOut Second b d r → LaysOut layout a d r
then_laid layout a b d (Ok y) before first next clean has = next clean (first (before clean) has)
then_laid layout a b d (Err e) before first next clean has = tt

-- the rows obey the schema once a statement was run
pub ran_sound : {T E : Type 0} (sql : List ℕ) (params : Row) (a b : State) (r : Result T E) → WritesRows stable_schema sql
    → (HasCleanDisk b → OnOk r (HasRun sql params a b)) → LaysSound Second a b r
ran_sound sql params a b (Ok x) it ran clean has =
    subst (λ s. IsSound s b.now.trees) (writes_only sql params a b stable_schema has (ran clean) it) (sound_after sql params a b stable_schema has (ran clean) it)
ran_sound sql params a b (Err e) it ran clean has = tt

pub then_sound : {T E : Type 0} (layout : Layout) (a b d : State) (r : Result T E) → (HasCleanDisk d → HasCleanDisk b)
    → (HasCleanDisk b → HasTables layout a.now.schema → b.now.schema ≡ stable_schema) → LaysSound Second b d r → LaysSound layout a d r
then_sound layout a b d (Ok y) before first next clean has = next clean (first (before clean) has)
then_sound layout a b d (Err e) before first next clean has = tt

pub on_ok : {T E : Type 0} (r : Result T E) (P : Type 0) → P → OnOk r P
on_ok (Ok x) P h = h
on_ok (Err e) P h = tt

pub none_ok : {T E : Type 0} (r : Result T E) (e : E) (P : Type 0) → r ≡ Err e → OnOk r P
none_ok (Ok x) e P is = absurd (let q = is in cc)
none_ok (Err f) e P is = tt
