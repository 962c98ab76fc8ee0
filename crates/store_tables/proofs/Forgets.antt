-- What the deletion of all that is decided makes of the tables.
use Rattle.std.proofs.Common.{◌≡◌, ℕ, ℤ, List, [], ◌∷◌, Option, None, Ok}
use Rattle.std.proofs.Common.{refl, sym, ap, subst, ◌∙◌}
use Rattle.sqlite.specs.declared.types.Value.TheVariants.{Null}
use Rattle.sqlite.specs.Order.{Row}
use Rattle.sqlite.specs.Tree.{Trees}
use Rattle.sqlite.specs.Query.{IsAnswer}
use Rattle.sqlite.specs.Program.{overlay}
use Rattle.sqlite.specs.Rowids.TheVariants.{Given}
use Rattle.sqlite.specs.Edit.{Edit, edit_of, id_in, taken_by, Applies}
use Rattle.sqlite.specs.Effect.{Database}
use Rattle.sqlite.specs.Does.{Tally, Does}
use Rattle.sqlite.specs.Rows.{Written}
use Rattle.sqlite.proofs.Callers.{one_step}
use Rattle.sqlite_trees.specs.Tree.{rowid}
use Rattle.sqlite_schema.specs.declared.schema.Keys.TheVariants.{Enforced}
use Rattle.sqlite_rules.specs.Calls.{ids_of}
use Rattle.sqlite_rules.specs.Lists.{Has}
use Rattle.sqlite_rules.specs.Probe.{AreFound}
use Rattle.sqlite_rules.proofs.ProbeLemmas.{mapped_has, rowid_query, found_rowids}
use Rattle.store_tables.specs.Tables.{stable_schema}
use Rattle.store_tables.specs.Rows.{row_at}
use Rattle.store_tables.proofs.Texts.{forget_query, forget_command}
use Rattle.store_tables.proofs.Keys.{tied_id}
use Rattle.store_tables.proofs.Finds.{find_gone}
use Rattle.store_tables.proofs.PartRows.{went, same_value, TakesRows}
use Rattle.store_tables.proofs.Decides.{plain_mode, decided_table, decided_quiet}
use Rattle.store_tables.proofs.Placed.{Placed, ints}

-- the rows of `decided` went, each of them, and nothing else
pub record Forgets (db next : Trees) : Type 0 where
  pub gone : List ℤ
  pub each : (r : Row) → Has (db 6) r → Has gone (id_in (rowid r))
  pub takes : TakesRows 6 gone db next

answers : (db : Trees) (found : List Row) → IsAnswer forget_query (overlay db []) [] found → AreFound [] (db 6) [] found
answers db found a =
    let same : IsAnswer (rowid_query 6 []) (overlay db []) [] found = record {
      staged = a.staged;
      grouped = a.grouped;
      kept = a.kept;
      distinct = a.distinct;
      ordered = a.ordered;
      same = a.same;
      sorted = a.sorted;
      shown = a.shown;
    } in
    found_rowids 6 [] (overlay db []) [] found same

pub forgets : (limit : Option ℕ) (db : Database) (tally : Tally) (after : Database) (text : List ℕ) → db.schema ≡ stable_schema
    → Does limit plain_mode [] db text None forget_command (Ok (tally, after))
    → (after.schema ≡ stable_schema) × Forgets db.trees after.trees
forgets limit db tally after text has h =
    let done =
    went (subst (λ s. Does limit plain_mode [] (record db { schema = s }) text None forget_command (Ok (tally, after))) has h) in
    let now : after ≡ record { schema = stable_schema; trees = done.0.trees } =
    ap (λ (p : Tally × Database). p.1) (same_value (went (went done.2).2).2) in
    let queried = went done.1 in
    let out = went queried.2 in
    let trees : done.0.trees ≡ out.0 = ap (λ (it : Written). it.trees) (same_value out.2) in
    let found = answers db.trees queried.0 (queried.1.answer Null) in
    let edit : Edit = edit_of db.trees decided_table (ids_of queried.0) Given 0 [] in
    let took : Applies stable_schema Enforced db.trees edit out.0 =
    one_step stable_schema Enforced db.trees out.0 edit (decided_quiet (taken_by db.trees edit)) out.1 in
    let made : Forgets db.trees out.0 = record {
      gone = ids_of queried.0;
      each = λ r has. mapped_has (λ y. id_in (rowid y)) queried.0 (rowid r ∷ []) (found.complete r has refl);
      takes = record { rows = took.rows; others = took.tables };
    } in
    (ap (λ (d : Database). d.schema) now, subst (Forgets db.trees) (sym (ap (λ (d : Database). d.trees) now ∙ trees)) made)

-- no row of `decided` is left
pub none_left : (db next : Trees) → Placed (db 6) → Forgets db next → (top : ℕ) → row_at (next 6) top ≡ None
none_left db next placed made top =
    ap (λ rows. row_at rows top) made.takes.rows
    ∙ find_gone _ (db 6) made.gone (λ r h _. (id_in (rowid r), made.each r h, tied_id (rowid r) (ints (db 6) r placed h)))
