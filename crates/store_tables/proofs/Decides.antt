-- What the statements that put rows in make of the tables.
use Rattle.std.proofs.Common.{◌≡◌, ℕ, zero, suc, ◌<◌, ◌*◌, ◌/◌, ℤ, pos, List, [], ◌∷◌, map, length, drop, ◌++◌, append-nil}
use Rattle.std.proofs.Common.{Bool, true, false, cond, Option, None, Ok, refl, sym, ap, subst, subst₂, ◌∙◌, arith}
use Rattle.sqlite.specs.declared.types.Value.{Value}
use Rattle.sqlite.specs.declared.types.Value.TheVariants.{Null, Int, Text}
use Rattle.sqlite.specs.Order.{Row, column}
use Rattle.sqlite.specs.Tree.{Trees}
use Rattle.sqlite.specs.Ops.{unary}
use Rattle.sqlite.specs.Kind.TheVariants.{Integer, Text as Words}
use Rattle.sqlite.specs.Cast.{cast, cast_row}
use Rattle.sqlite.specs.Table.{Table}
use Rattle.sqlite_schema.specs.Names.{same_name}
use Rattle.sqlite_value.specs.Keys.{joined}
use Rattle.sqlite_schema.specs.declared.schema.Keys.TheVariants.{Enforced}
use Rattle.sqlite_rules.specs.Action.{works}
use Rattle.sqlite_rules.specs.Edit.{next_rowid}
use Rattle.sqlite.specs.Edit.{with_rowid}
use Rattle.sqlite.specs.Rowids.TheVariants.{Chosen}
use Rattle.sqlite.specs.Effect.{Database, value_rows}
use Rattle.sqlite.specs.Does.{Tally, Does}
use Rattle.sqlite.specs.declared.run.Mode.{Mode}
use Rattle.store_tables.specs.Tables.{stable_schema, decided, base, meta, prepared, prepared_val, prepared_delta}
use Rattle.sqlite.specs.Source.TheVariants.{Values}
use Rattle.store_tables.proofs.Texts.{decide_command, key_terms, base_command, pair_terms, record_command}
use Rattle.store_tables.proofs.Texts.{value_command, part_terms, delta_command, number_terms, number_command}
use Rattle.store_tables.proofs.PartRows.{went, same_value, PutsRow, ReplacesRow, PutsNext, ReplacesNext, InTurn, turned, made_of}
use Rattle.store_tables.proofs.PartRows.{replaced, replaced_each, inserted, inserted_each}

either : (b : Bool) (x : Value) → cond b x x ≡ x
either true x = refl
either false x = refl

pub cast_int : (n : ℤ) → cast Integer (Int n) ≡ Int n
unfolding unary
cast_int n = either _ (Int n)

pub cast_null : cast Integer Null ≡ Null
unfolding unary
cast_null = either _ Null

abbrev pub decided_table : Table
decided_table = record decided { tree = 6 }

pub decided_quiet : (olds : List Row) → works stable_schema Enforced 0 6 olds [] ≡ []
unfolding same_name joined
decided_quiet olds = refl

abbrev pub plain_mode : Mode
plain_mode = record { keys = Enforced; in_doubt = false; may_wait = false }

-- the row of a number, once its columns are those of the table
key_row : (n : ℕ) → cast_row decided_table (Int (pos n) ∷ Null ∷ []) ≡ Int (pos n) ∷ Null ∷ []
key_row n = λ i. cast_int (pos n) i ∷ cast_null i ∷ []

-- a row of a number
pub decides : (limit : Option ℕ) (n : ℕ) (db : Database) (tally : Tally) (after : Database) (text : List ℕ) → db.schema ≡ stable_schema
    → Does limit plain_mode (Int (pos n) ∷ []) db text None decide_command (Ok (tally, after))
    → (after.schema ≡ stable_schema) × ReplacesRow decided_table (Int (pos n) ∷ Null ∷ []) (Int (pos n) ∷ Null ∷ []) db.trees after.trees
decides limit n db tally after text has h =
    let params : Row = Int (pos n) ∷ [] in
    let source : Row = Int (pos n) ∷ Null ∷ [] in
    let done =
    went (subst (λ s. Does limit plain_mode params (record db { schema = s }) text None decide_command (Ok (tally, after))) has h) in
    let now : after ≡ record { schema = stable_schema; trees = done.0.trees } =
    ap (λ (p : Tally × Database). p.1) (same_value (went (went done.2).2).2) in
    let made = replaced limit decided_table params decided_quiet (Values key_terms 2) source db.trees done.0 (λ rows is. is.1) done.1 in
    let new : with_rowid Chosen (db.trees 6) (cast_row decided_table source) ≡ source = ap (with_rowid Chosen (db.trees 6)) (key_row n) in
    let row : cast_row decided_table (with_rowid Chosen (db.trees 6) (cast_row decided_table source)) ≡ source =
    ap (cast_row decided_table) new ∙ key_row n in
    (ap (λ (d : Database). d.schema) now, subst (ReplacesRow decided_table source source db.trees) (sym (ap (λ (d : Database). d.trees) now)) (subst₂ (λ a b. ReplacesRow decided_table a b db.trees done.0.trees) new row made))

-- ---- a value in the base

abbrev pub base_table : Table
base_table = record base { tree = 2 }

-- objects with their texts, as parameters
abbrev pub cells : List (ℕ × List ℕ) → Row
cells [] = []
cells (e ∷ es) = Int (pos e.0) ∷ Text e.1 ∷ cells es

-- what stands at a place, and what is left behind it
head_at : (params : Row) (at : ℕ) (x : Value) (more : Row) → drop at params ≡ x ∷ more → (column params at ≡ x) × (drop (suc at) params ≡ more)
head_at params zero x more h = (ap (λ r. column r 0) h, ap (drop 1) h)
head_at [] (suc at) x more h = absurd (omega (arith, ap length h))
head_at (p ∷ params) (suc at) x more h = head_at params at x more h

base_quiet : (olds : List Row) → works stable_schema Enforced 0 2 olds [] ≡ []
unfolding same_name joined
base_quiet olds = refl

pub cast_text : (t : List ℕ) → cast Words (Text t) ≡ Text t
unfolding unary
cast_text t = refl

abbrev pub pair_row : ℕ → List ℕ → Row
pair_row n t = Int (pos n) ∷ Null ∷ Text t ∷ []

abbrev pub pair_of : ℕ × List ℕ → Row
pair_of e = pair_row e.0 e.1

base_row : (n : ℕ) (t : List ℕ) → cast_row base_table (pair_row n t) ≡ pair_row n t
base_row n t = λ i. cast_int (pos n) i ∷ cast_null i ∷ cast_text t i ∷ []

-- parts of the base, each in place of what its object had
abbrev pub ReplacesPart : ℕ × List ℕ → Trees → Trees → Type 0
ReplacesPart e db next = ReplacesRow base_table (pair_of e) (pair_of e) db next

pairs_read : (params : Row) (at : ℕ) (es : List (ℕ × List ℕ)) → drop at params ≡ cells es
    → value_rows params 3 (length es) (pair_terms (length es) at) ≡ map pair_of es
pairs_read params at [] h = refl
pairs_read params at (e ∷ es) h =
    let object = head_at params at (Int (pos e.0)) (Text e.1 ∷ cells es) h in
    let part = head_at params (suc at) (Text e.1) (cells es) object.1 in
    λ i. (object.0 i ∷ Null ∷ part.0 i ∷ []) ∷ pairs_read params (suc (suc at)) es part.1 i

pairs_width : (rows at : ℕ) → length (pair_terms rows at) ≡ rows * 3
pairs_width zero at = refl
pairs_width (suc rows) at = omega (arith, pairs_width rows (suc (suc at)))

pub puts_base : (limit : Option ℕ) (rows : ℕ) (es : List (ℕ × List ℕ)) (db : Database) (tally : Tally) (after : Database) (text : List ℕ)
    → length es ≡ rows → db.schema ≡ stable_schema → Does limit plain_mode (cells es) db text None (base_command rows) (Ok (tally, after))
    → (after.schema ≡ stable_schema) × InTurn ReplacesPart es db.trees after.trees
puts_base limit rows es db tally after text many has h =
    let params : Row = cells es in
    let done =
    went (subst (λ s. Does limit plain_mode params (record db { schema = s }) text None (base_command rows) (Ok (tally, after))) has h) in
    let now : after ≡ record { schema = stable_schema; trees = done.0.trees } =
    ap (λ (p : Tally × Database). p.1) (same_value (went (went done.2).2).2) in
    let count : length (pair_terms rows 0) / 3 ≡ length es = omega (arith, pairs_width rows 0, many) in
    let read : value_rows (params ++ []) 3 (length (pair_terms rows 0) / 3) (pair_terms rows 0) ≡ map pair_of es =
    subst₂ (λ k m. value_rows (params ++ []) 3 k (pair_terms m 0) ≡ map pair_of es) (sym count) many (pairs_read (params ++ []) 0 es (append-nil params)) in
    let made =
    replaced_each limit base_table params base_quiet (Values (pair_terms rows 0) 3) (map pair_of es) db.trees done.0 (λ found is. is.1 ∙ read) done.1 in
    let each = made_of (ReplacesNext base_table) pair_of es db.trees done.0.trees made in
    (ap (λ (d : Database). d.schema) now, subst (InTurn ReplacesPart es db.trees) (sym (ap (λ (d : Database). d.trees) now)) (turned (λ e. ReplacesNext base_table (pair_of e)) ReplacesPart as_it_is es db.trees done.0.trees each))
  where
    as_it_is : (e : ℕ × List ℕ) (was next : Trees) → ReplacesNext base_table (pair_of e) was next → ReplacesPart e was next
    as_it_is e was next put =
        let source = pair_of e in
        let new : with_rowid Chosen (was 2) (cast_row base_table source) ≡ source = ap (with_rowid Chosen (was 2)) (base_row e.0 e.1) in
        let row : cast_row base_table (with_rowid Chosen (was 2) (cast_row base_table source)) ≡ source =
        ap (cast_row base_table) new ∙ base_row e.0 e.1 in
        subst₂ (λ a b. ReplacesRow base_table a b was next) new row put

-- ---- a number of `meta`

-- the row of a number, which has its place
abbrev pub number_row : ℕ → List ℕ → ℤ → Row
number_row place name n = Int (pos place) ∷ Text name ∷ Int n ∷ []

meta_quiet : (olds : List Row) → works stable_schema Enforced 0 0 olds [] ≡ []
unfolding same_name joined
meta_quiet olds = refl

number_cast : (place : ℕ) (name : List ℕ) (n : ℤ) → cast_row meta (number_row place name n) ≡ number_row place name n
number_cast place name n = λ i. cast_int (pos place) i ∷ cast_text name i ∷ cast_int n i ∷ []

pub puts_number : (limit : Option ℕ) (place : ℕ) (name : List ℕ) (n : ℤ) (db : Database) (tally : Tally) (after : Database) (text : List ℕ)
    → db.schema ≡ stable_schema
    → Does limit plain_mode (Int n ∷ []) db text None (number_command place name) (Ok (tally, after))
    → (after.schema ≡ stable_schema) × ReplacesRow meta (number_row place name n) (number_row place name n) db.trees after.trees
puts_number limit place name n db tally after text has h =
    let params : Row = Int n ∷ [] in
    let source : Row = number_row place name n in
    let command = number_command place name in
    let done =
    went (subst (λ s. Does limit plain_mode params (record db { schema = s }) text None command (Ok (tally, after))) has h) in
    let now : after ≡ record { schema = stable_schema; trees = done.0.trees } =
    ap (λ (p : Tally × Database). p.1) (same_value (went (went done.2).2).2) in
    let made = replaced limit meta params meta_quiet (Values (number_terms place name) 3) source db.trees done.0 (λ rows is. is.1) done.1 in
    let new : with_rowid Chosen (db.trees 0) (cast_row meta source) ≡ source = ap (with_rowid Chosen (db.trees 0)) (number_cast place name n) in
    let row : cast_row meta (with_rowid Chosen (db.trees 0) (cast_row meta source)) ≡ source =
    ap (cast_row meta) new ∙ number_cast place name n in
    (ap (λ (d : Database). d.schema) now, subst (ReplacesRow meta source source db.trees) (sym (ap (λ (d : Database). d.trees) now)) (subst₂ (λ a b. ReplacesRow meta a b db.trees done.0.trees) new row made))

-- ---- the row of a record, and that of a value of it

abbrev pub prepared_table : Table
prepared_table = record prepared { tree = 3 }

abbrev pub values_table : Table
values_table = record prepared_val { tree = 4 }

abbrev pub home_row : ℕ → ℕ → Row
home_row n home = Int (pos n) ∷ Null ∷ Int (pos home) ∷ []

abbrev pub value_row : Value → ℕ → ℕ → List ℕ → Row
value_row id top object t = id ∷ Int (pos top) ∷ Int (pos object) ∷ Text t ∷ []

home_cast : (n home : ℕ) → cast_row prepared_table (home_row n home) ≡ home_row n home
home_cast n home = λ i. cast_int (pos n) i ∷ cast_null i ∷ cast_int (pos home) i ∷ []

value_cast : (n o : ℕ) (t : List ℕ) → cast_row values_table (value_row Null n o t) ≡ value_row Null n o t
value_cast n o t = λ i. cast_null i ∷ cast_int (pos n) i ∷ cast_int (pos o) i ∷ cast_text t i ∷ []

pub puts_home : (limit : Option ℕ) (n home : ℕ) (db : Database) (tally : Tally) (after : Database) (text : List ℕ)
    → db.schema ≡ stable_schema
    → Does limit plain_mode (Int (pos n) ∷ Int (pos home) ∷ []) db text None record_command (Ok (tally, after))
    → (after.schema ≡ stable_schema) × PutsRow 3 (home_row n home) [] db.trees after.trees
puts_home limit n home db tally after text has h =
    let params : Row = Int (pos n) ∷ Int (pos home) ∷ [] in
    let source : Row = home_row n home in
    let done =
    went (subst (λ s. Does limit plain_mode params (record db { schema = s }) text None record_command (Ok (tally, after))) has h) in
    let now : after ≡ record { schema = stable_schema; trees = done.0.trees } =
    ap (λ (p : Tally × Database). p.1) (same_value (went (went done.2).2).2) in
    let made = inserted limit prepared_table params (Values (pair_terms 1 0) 3) source db.trees done.0 (λ rows is. is.1) done.1 in
    let row : with_rowid Chosen (db.trees 3) (cast_row prepared_table source) ≡ source =
    ap (with_rowid Chosen (db.trees 3)) (home_cast n home) in
    (ap (λ (d : Database). d.schema) now, subst (PutsRow 3 source [] db.trees) (sym (ap (λ (d : Database). d.trees) now)) (subst (λ a. PutsRow 3 a [] db.trees done.0.trees) row made))

-- a value of a record
abbrev pub PutsValue : ℕ → ℕ × List ℕ → Trees → Trees → Type 0
PutsValue top e db next = PutsRow 4 (value_row (Int (next_rowid (db 4))) top e.0 e.1) [] db next

abbrev value_of : ℕ → ℕ × List ℕ → Row
value_of top e = value_row Null top e.0 e.1

values_read : (params : Row) (n at : ℕ) (es : List (ℕ × List ℕ)) → column params 0 ≡ Int (pos n) → drop at params ≡ cells es
    → value_rows params 4 (length es) (part_terms (length es) at) ≡ map (value_of n) es
values_read params n at [] top h = refl
values_read params n at (e ∷ es) top h =
    let object = head_at params at (Int (pos e.0)) (Text e.1 ∷ cells es) h in
    let part = head_at params (suc at) (Text e.1) (cells es) object.1 in
    λ i. (Null ∷ top i ∷ object.0 i ∷ part.0 i ∷ []) ∷ values_read params n (suc (suc at)) es top part.1 i

values_width : (rows at : ℕ) → length (part_terms rows at) ≡ rows * 4
values_width zero at = refl
values_width (suc rows) at = omega (arith, values_width rows (suc (suc at)))

pub puts_values : (limit : Option ℕ) (n rows : ℕ) (es : List (ℕ × List ℕ)) (db : Database) (tally : Tally) (after : Database) (text : List ℕ)
    → length es ≡ rows → 0 < rows → db.schema ≡ stable_schema
    → Does limit plain_mode (Int (pos n) ∷ cells es) db text None (value_command rows) (Ok (tally, after))
    → (after.schema ≡ stable_schema) × InTurn (PutsValue n) es db.trees after.trees
puts_values limit n rows [] db tally after text many some has h = absurd (omega (arith, many, some))
puts_values limit n rows (first ∷ more) db tally after text many some has h =
    let es = first ∷ more in
    let params : Row = Int (pos n) ∷ cells es in
    let done =
    went (subst (λ s. Does limit plain_mode params (record db { schema = s }) text None (value_command rows) (Ok (tally, after))) has h) in
    let now : after ≡ record { schema = stable_schema; trees = done.0.trees } =
    ap (λ (p : Tally × Database). p.1) (same_value (went (went done.2).2).2) in
    let count : length (part_terms rows 1) / 4 ≡ length es = omega (arith, values_width rows 1, many) in
    let read : value_rows (params ++ []) 4 (length (part_terms rows 1) / 4) (part_terms rows 1) ≡ map (value_of n) es =
    subst₂ (λ k m. value_rows (params ++ []) 4 k (part_terms m 1) ≡ map (value_of n) es) (sym count) many (values_read (params ++ []) n 1 es refl (append-nil (cells es))) in
    let made =
    inserted_each limit values_table params (Values (part_terms rows 1) 4) (value_of n first) (map (value_of n) more) db.trees done.0 (λ found is. is.1 ∙ read) done.1 in
    let each = made_of (PutsNext values_table) (value_of n) es db.trees done.0.trees made in
    (ap (λ (d : Database). d.schema) now, subst (InTurn (PutsValue n) es db.trees) (sym (ap (λ (d : Database). d.trees) now)) (turned (λ e. PutsNext values_table (value_of n e)) (PutsValue n) as_it_is es db.trees done.0.trees each))
  where
    as_it_is : (e : ℕ × List ℕ) (was next : Trees) → PutsNext values_table (value_of n e) was next → PutsValue n e was next
    as_it_is e was next put = subst (λ row. PutsRow 4 row [] was next) (ap (with_rowid Chosen (was 4)) (value_cast n e.0 e.1)) put

-- ---- the row of a delta of a record

abbrev pub deltas_table : Table
deltas_table = record prepared_delta { tree = 7 }

abbrev pub delta_row : Value → ℕ → ℕ → ℤ → Row
delta_row id top object by = id ∷ Int (pos top) ∷ Int (pos object) ∷ Int by ∷ []

delta_cast : (n o : ℕ) (by : ℤ) → cast_row deltas_table (delta_row Null n o by) ≡ delta_row Null n o by
delta_cast n o by = λ i. cast_null i ∷ cast_int (pos n) i ∷ cast_int (pos o) i ∷ cast_int by i ∷ []

pub puts_delta : (limit : Option ℕ) (n o : ℕ) (by : ℤ) (db : Database) (tally : Tally) (after : Database) (text : List ℕ)
    → db.schema ≡ stable_schema
    → Does limit plain_mode (Int (pos n) ∷ Int (pos o) ∷ Int by ∷ []) db text None delta_command (Ok (tally, after))
    → (after.schema ≡ stable_schema) × PutsRow 7 (delta_row (Int (next_rowid (db.trees 7))) n o by) [] db.trees after.trees
puts_delta limit n o by db tally after text has h =
    let params : Row = Int (pos n) ∷ Int (pos o) ∷ Int by ∷ [] in
    let source : Row = delta_row Null n o by in
    let goal : Row = delta_row (Int (next_rowid (db.trees 7))) n o by in
    let done =
    went (subst (λ s. Does limit plain_mode params (record db { schema = s }) text None delta_command (Ok (tally, after))) has h) in
    let now : after ≡ record { schema = stable_schema; trees = done.0.trees } =
    ap (λ (p : Tally × Database). p.1) (same_value (went (went done.2).2).2) in
    let made = inserted limit deltas_table params (Values (part_terms 1 1) 4) source db.trees done.0 (λ rows is. is.1) done.1 in
    let row : with_rowid Chosen (db.trees 7) (cast_row deltas_table source) ≡ goal =
    ap (with_rowid Chosen (db.trees 7)) (delta_cast n o by) in
    (ap (λ (d : Database). d.schema) now, subst (PutsRow 7 goal [] db.trees) (sym (ap (λ (d : Database). d.trees) now)) (subst (λ a. PutsRow 7 a [] db.trees done.0.trees) row made))
