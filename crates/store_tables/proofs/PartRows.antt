-- What rows that are written make of the trees, one after the other.
use Rattle.std.proofs.Common.{◌≡◌, ◌≢◌, ◌⊎◌, inl, inr, ℕ, ℤ, List, [], ◌∷◌, true, false, not, Option, Some, None, Ok, Err}
use Rattle.std.proofs.Common.{Result, refl, sym, ap, subst, ◌∙◌, map, eq-eqb, ne_eqb}
use Rattle.std.specs.List.{AllByRecursion}
use Rattle.std.proofs.lemmas.Bool.{and_parts, not-true}
use Rattle.sqlite.specs.Order.{Row}
use Rattle.sqlite.specs.Table.{Table}
use Rattle.sqlite.specs.Tree.{Trees}
use Rattle.sqlite_trees.specs.Tree.{rowid, put_row, with_tree}
use Rattle.sqlite.specs.Source.{Source}
use Rattle.sqlite_schema.specs.declared.command.Conflict.TheVariants.{Replace}
use Rattle.sqlite_schema.specs.declared.schema.Keys.TheVariants.{Enforced}
use Rattle.sqlite_schema.specs.declared.schema.Constraint.TheVariants.{Datatype, NotNull, Check, PrimaryKey, Unique, ForeignKey}
use Rattle.sqlite_rules.specs.declared.error.Refusal.{Refusal}
use Rattle.sqlite_rules.specs.declared.error.Refusal.TheVariants.{Violates, Mismatch, NoRowid, BadReference, TooDeep}
use Rattle.sqlite.specs.Rowids.TheVariants.{Chosen, Given}
use Rattle.sqlite.specs.Cast.{cast_row}
use Rattle.sqlite.specs.Edit.{Edit, edit_of, id_in, with_rowid, taken_by, Applies}
use Rattle.sqlite_rules.specs.Edit.{numbered, put_all, are_fresh}
use Rattle.sqlite_rules.proofs.ListLemmas.{all_has, all_from}
use Rattle.sqlite_rules.proofs.ActionLemmas.{no_works}
use Rattle.sqlite_rules.proofs.ProbeLemmas.{has_mapped, mapped_has}
use Rattle.sqlite_rules.specs.Edit.{without_all, is_taken}
use Rattle.sqlite_rules.specs.Action.{works, Writes}
use Rattle.sqlite_rules.specs.Calls.{ids_of}
use Rattle.sqlite_rules.specs.Keys.{AreConflicts, conflicts}
use Rattle.sqlite_rules.specs.Lists.{Has}
use Rattle.sqlite.specs.Effect.{IsSource}
use Rattle.sqlite.specs.Rows.{Written, Task, Tries, TriesEach, Puts, Clears, Judged, Inserts, InsertsOr, mended, stamped, nothing}
use Rattle.sqlite.specs.Rows.{count_of, higher, joined}
use Rattle.sqlite.proofs.Callers.{one_step}
use Rattle.store_tables.specs.Tables.{stable_schema}

-- a part that gave a value did not stop on the way
pub went : {B E R : Type 0} {b : B} {Stops : E → Type 0} → ((stop : E) × Stops stop × (Ok b ≡ Err stop)) ⊎ R → R
went (inl stopped) = absurd (let e = stopped.2 in cc)
went (inr on) = on

pub same_value : {B E : Type 0} {a b : B} → ◌≡◌ {A = Result B E} (Ok a) (Ok b) → a ≡ b
same_value e = cc

-- a row went into a table, after these rowids were taken out, and the other tables are as they were
pub record PutsRow (tree : ℕ) (row : Row) (gone : List ℤ) (db next : Trees) : Type 0 where
  pub rows : next tree ≡ put_row row (without_all (db tree) gone)
  pub free : is_taken (without_all (db tree) gone) row ≡ false
  pub others : AllByRecursion (λ t. t.tree ≢ tree → next t.tree ≡ db t.tree) stable_schema.tables

-- rows were taken out of a table
pub record TakesRows (tree : ℕ) (gone : List ℤ) (db next : Trees) : Type 0 where
  pub rows : next tree ≡ without_all (db tree) gone
  pub others : AllByRecursion (λ t. t.tree ≢ tree → next t.tree ≡ db t.tree) stable_schema.tables

-- the rowids of rows that stand in the way of this one, among them all that do
pub record AreInTheWay (table : Table) (rows : List Row) (new : Row) (gone : List ℤ) : Type 0 where
  pub sound : (id : ℤ) → Has gone id
      → (r : Row) × Has rows r × (conflicts None stable_schema.indexes table new r ≡ true) × (id ≡ id_in (rowid r))
  pub complete : (r : Row) → Has rows r → conflicts None stable_schema.indexes table new r ≡ true → Has gone (id_in (rowid r))

-- a row in place of those that stood in its way
pub record ReplacesRow (table : Table) (new row : Row) (db next : Trees) : Type 0 where
  pub gone : List ℤ
  pub way : AreInTheWay table (db table.tree) new gone
  pub puts : PutsRow table.tree row gone db next

-- ---- one after the other

-- what each thing of a list makes of the trees, over what the ones before it made of them
abbrev pub InTurn : {X : Type 0} → (X → Trees → Trees → Type 0) → List X → Trees → Trees → Type 0
InTurn Step [] db next = next ≡ db
InTurn Step (x ∷ more) db next = (mid : Trees) × Step x db mid × InTurn Step more mid next

pub alone : {X : Type 0} (Step : X → Trees → Trees → Type 0) (x : X) (db next : Trees) → InTurn Step (x ∷ []) db next → Step x db next
alone Step x db next h = subst (Step x db) (sym h.2) h.1

-- the same steps, in other words
pub turned : {X : Type 0} (Was Is : X → Trees → Trees → Type 0) → ((x : X) (db next : Trees) → Was x db next → Is x db next) → (xs : List X)
    → (db next : Trees) → InTurn Was xs db next → InTurn Is xs db next
turned Was Is leads [] db next h = h
turned Was Is leads (x ∷ more) db next h = (h.0, leads x db h.0 h.1, turned Was Is leads more h.0 next h.2)

-- steps of what the things of a list are made into
pub made_of : {X Y : Type 0} (Step : Y → Trees → Trees → Type 0) (f : X → Y) (xs : List X) (db next : Trees) → InTurn Step (map f xs) db next
    → InTurn (λ x. Step (f x)) xs db next
made_of Step f [] db next h = h
made_of Step f (x ∷ more) db next h = (h.0, h.1, made_of Step f more h.0 next h.2)

with_same : (db : Trees) (tree : ℕ) (rows : List Row) → with_tree db tree rows tree ≡ rows
with_same db tree rows = rw (eq-eqb tree tree refl) refl

with_other : (db : Trees) (tree u : ℕ) (rows : List Row) → u ≢ tree → with_tree db tree rows u ≡ db u
with_other db tree u rows other = rw (ne_eqb u tree other) refl

-- the first of new rows has a rowid that was free
fresh_parts : (rows : List Row) (row : Row) (more : List Row) → are_fresh rows (row ∷ more) ≡ true
    → (is_taken rows row ≡ false) × (are_fresh (put_row row rows) more ≡ true)
fresh_parts rows row more h =
    let both = and_parts (not (is_taken rows row)) (are_fresh (put_row row rows) more) h in (not-true _ both.0, both.1)

abbrev pub uncounted : Table → Table
uncounted t = record t { is_counted = false }

-- the row of these columns goes into the table
abbrev pub PutsNext : Table → Row → Trees → Trees → Type 0
PutsNext t columns db next = PutsRow t.tree (with_rowid Chosen (db t.tree) (cast_row (uncounted t) columns)) [] db next

abbrev pub new_row : Table → Row → Trees → Row
new_row t columns db = with_rowid Chosen (db t.tree) (cast_row (uncounted t) (mended Replace (uncounted t) columns))

-- and in place of those that stood in its way
abbrev pub ReplacesNext : Table → Row → Trees → Trees → Type 0
ReplacesNext t columns db next = ReplacesRow (uncounted t) (new_row t columns db) (cast_row (uncounted t) (new_row t columns db)) db next

module _ (limit : Option ℕ) (t : Table) (params : Row) where
  abbrev table : Table
  table = uncounted t

  abbrev pub task : Task
  task = record { limit = limit; keys = Enforced; schema = stable_schema; table = table; params = params }

  step : (db next : Trees) (edit : Edit) → works stable_schema Enforced 0 edit.table.tree (taken_by db edit) edit.news ≡ []
      → Writes stable_schema Enforced db edit (Ok next) → Applies stable_schema Enforced db edit next
  step db next edit quiet h = one_step stable_schema Enforced db next edit quiet h

  pub put_in : (db : Trees) (new : Row) (one : Written) → Puts task new db (Ok one) → PutsRow t.tree (cast_row table new) [] db one.trees
  put_in db new one h =
      let made = went h in
      let edit = edit_of db table [] Given 0 (new ∷ []) in
      let a = step db made.0 edit (no_works stable_schema Enforced 0 t.tree edit.news) made.1 in
      let trees : one.trees ≡ made.0 = ap (λ (it : Written). it.trees) (same_value made.2) in
      subst (PutsRow t.tree (cast_row table new) [] db) (sym trees) (record { rows = a.rows; free = (fresh_parts (db t.tree) (cast_row table new) [] a.fresh).0; others = a.tables })

  -- rows that one edit puts in go in one after the other
  in_turn : (first : Row) (more : List Row) (db next : Trees)
      → are_fresh (db t.tree) (numbered Chosen (db t.tree) (map (cast_row table) (first ∷ more))) ≡ true
      → next t.tree ≡ put_all (db t.tree) (numbered Chosen (db t.tree) (map (cast_row table) (first ∷ more)))
      → AllByRecursion (λ u. u.tree ≢ t.tree → next u.tree ≡ db u.tree) stable_schema.tables
      → InTurn (PutsNext t) (first ∷ more) db next
  in_turn first [] db next fresh rows others =
      let row = with_rowid Chosen (db t.tree) (cast_row table first) in
      (next, record { rows = rows; free = (fresh_parts (db t.tree) row [] fresh).0; others = others }, refl)
  in_turn first (second ∷ more) db next fresh rows others =
      let row = with_rowid Chosen (db t.tree) (cast_row table first) in
      let put = put_row row (db t.tree) in
      let mid = with_tree db t.tree put in
      let here : put ≡ mid t.tree = sym (with_same db t.tree put) in
      let rest = λ (at : List Row). numbered Chosen at (map (cast_row table) (second ∷ more)) in
      let parts = fresh_parts (db t.tree) row (rest put) fresh in
      let stays = λ (u : Table). λ (apart : u.tree ≢ t.tree). with_other db t.tree u.tree put apart in (
        mid,
        record { rows = sym here; free = parts.0; others = all_from (λ u. u.tree ≢ t.tree → mid u.tree ≡ db u.tree) stable_schema.tables (λ u _ apart. stays u apart) },
        in_turn second more mid next (subst (λ at. are_fresh at (rest at) ≡ true) here parts.1) (subst (λ at. next t.tree ≡ put_all at (rest at)) here rows)
            (all_from (λ u. u.tree ≢ t.tree → next u.tree ≡ mid u.tree) stable_schema.tables (λ u h apart.
            all_has (λ v. v.tree ≢ t.tree → next v.tree ≡ db v.tree) stable_schema.tables u others h apart ∙ sym (stays u apart))),
      )

  pub inserted_each : (from : Source) (first : Row) (more : List Row) (db : Trees) (done : Written)
      → ((rows : List Row) → IsSource (record { schema = stable_schema; trees = db }) (stamped table params) from rows → rows ≡ first ∷ more)
      → Inserts task from db (Ok done) → InTurn (PutsNext t) (first ∷ more) db done.trees
  inserted_each from first more db done are h =
      let given = went h in
      let written = went (went given.2).2 in
      let counted = went written.2 in
      let trees : done.trees ≡ written.0 = ap (λ (it : Written). it.trees) (same_value counted.2) ∙ same_value counted.1 in
      let edit = edit_of db table [] Chosen 0 (first ∷ more) in
      let put = subst (λ rows. Writes stable_schema Enforced db (edit_of db table [] Chosen 0 rows) (Ok written.0)) (are given.0 given.1) written.1 in
      let a = step db written.0 edit (no_works stable_schema Enforced 0 t.tree edit.news) put in
      subst (InTurn (PutsNext t) (first ∷ more) db) (sym trees) (in_turn first more db written.0 a.fresh a.rows a.tables)

  pub inserted : (from : Source) (source : Row) (db : Trees) (done : Written)
      → ((rows : List Row) → IsSource (record { schema = stable_schema; trees = db }) (stamped table params) from rows → rows ≡ source ∷ [])
      → Inserts task from db (Ok done) → PutsNext t source db done.trees
  inserted from source db done one h = alone (PutsNext t) source db done.trees (inserted_each from source [] db done one h)

  in_the_way : (db : Trees) (new : Row) (found : List Row) → AreConflicts None stable_schema.indexes table (db t.tree) new found
      → AreInTheWay table (db t.tree) new (ids_of found)
  in_the_way db new found a = record {
    sound = λ id h. let x = has_mapped (λ r. id_in (rowid r)) found id h in let r = a.sound x.0 x.1 in (r.0, r.1, r.2, x.2 ∙ ap (λ y. id_in (rowid y)) r.3);
    complete = λ r h is. mapped_has (λ x. id_in (rowid x)) found (rowid r ∷ []) (a.complete r h is);
  }

  then_others : (tree : ℕ) (row : Row) (gone : List ℤ) (db mid next : Trees) → TakesRows tree gone db mid → PutsRow tree row [] mid next
      → PutsRow tree row gone db next
  then_others tree row gone db mid next a b = record {
    rows = b.rows ∙ ap (put_row row) a.rows;
    free = ap (λ rows. is_taken rows row) (sym a.rows) ∙ b.free;
    others = all_from (λ u. u.tree ≢ tree → next u.tree ≡ db u.tree) stable_schema.tables (λ u h apart.
        all_has (λ v. v.tree ≢ tree → next v.tree ≡ mid v.tree) stable_schema.tables u b.others h apart
        ∙ all_has (λ v. v.tree ≢ tree → mid v.tree ≡ db v.tree) stable_schema.tables u a.others h apart);
  }

  module _ (quiet : (olds : List Row) → works stable_schema Enforced 0 t.tree olds [] ≡ []) where
    cleared : (db : Trees) (new : Row) (one : Written) (found : List Row)
        → AreConflicts None stable_schema.indexes table (db t.tree) new found → Clears task Replace new db found (Ok one)
        → ReplacesRow table new (cast_row table new) db one.trees
    cleared db new one [] a h = record { gone = []; way = in_the_way db new [] a; puts = put_in db new one h }
    cleared db new one (x ∷ more) a h =
        let out = went h in
        let edit = edit_of db table (ids_of (x ∷ more)) Given 0 [] in
        let took = step db out.0 edit (quiet (taken_by db edit)) out.1 in
        record {
          gone = ids_of (x ∷ more);
          way = in_the_way db new (x ∷ more) a;
          puts =
              then_others t.tree (cast_row table new) (ids_of (x ∷ more)) db out.0 one.trees (record { rows = took.rows; others = took.tables }) (put_in out.0 new one out.2);
        }

    judged : (db : Trees) (new : Row) (one : Written) (verdict : Option Refusal) → Judged task Replace [] new db verdict (Ok one)
        → ReplacesRow table new (cast_row table new) db one.trees
    judged db new one None h = cleared db new one h.0 h.1 h.2
    judged db new one (Some (Violates NotNull)) h = absurd (let e = h in cc)
    judged db new one (Some (Violates Check)) h = absurd (let e = h in cc)
    judged db new one (Some (Violates Datatype)) h = absurd (let e = h in cc)
    judged db new one (Some (Violates PrimaryKey)) h = absurd (let e = h in cc)
    judged db new one (Some (Violates Unique)) h = absurd (let e = h in cc)
    judged db new one (Some (Violates ForeignKey)) h = absurd (let e = h in cc)
    judged db new one (Some Mismatch) h = absurd (let e = h in cc)
    judged db new one (Some NoRowid) h = absurd (let e = h in cc)
    judged db new one (Some BadReference) h = absurd (let e = h in cc)
    judged db new one (Some TooDeep) h = absurd (let e = h in cc)

    tried : (db : Trees) (new : Row) (one : Written) → Tries task Replace [] new db (Ok one)
        → ReplacesRow table new (cast_row table new) db one.trees
    tried db new one (inl refused) = absurd (let e = refused.1 in cc)
    tried db new one (inr h) = judged db new one h.0 h.2

    each_tried : (rows : List Row) (top : ℤ) (done : Written) (all : Written × ℤ) → TriesEach task Replace [] rows top done (Ok all)
        → InTurn (ReplacesNext t) rows done.trees all.0.trees
    each_tried [] top done all h = ap (λ (p : Written × ℤ). p.0.trees) (same_value h)
    each_tried (row ∷ more) top done all h =
        let new = new_row t row done.trees in
        let one = went h in
        (one.0.trees, tried done.trees new one.0 one.1, each_tried more (higher top new) (joined done one.0) all one.2)

    pub replaced_each : (from : Source) (sources : List Row) (db : Trees) (done : Written)
        → ((rows : List Row) → IsSource (record { schema = stable_schema; trees = db }) (stamped table params) from rows → rows ≡ sources)
        → InsertsOr task Replace [] from db (Ok done) → InTurn (ReplacesNext t) sources db done.trees
    replaced_each from sources db done are h =
        let given = went h in
        let counter = went given.2 in
        let all = went counter.2 in
        let counted = went all.2 in
        let each = subst (λ rows. TriesEach task Replace [] rows (count_of counter.0) (nothing db) (Ok all.0)) (are given.0 given.1) all.1 in
        let trees : done.trees ≡ all.0.0.trees = ap (λ (it : Written). it.trees) (same_value counted.2) ∙ same_value counted.1 in
        subst (InTurn (ReplacesNext t) sources db) (sym trees) (each_tried sources (count_of counter.0) (nothing db) all.0 each)

    pub replaced : (from : Source) (source : Row) (db : Trees) (done : Written)
        → ((rows : List Row) → IsSource (record { schema = stable_schema; trees = db }) (stamped table params) from rows → rows ≡ source ∷ [])
        → InsertsOr task Replace [] from db (Ok done) → ReplacesNext t source db done.trees
    replaced from source db done one h = alone (ReplacesNext t) source db done.trees (replaced_each from (source ∷ []) db done one h)
