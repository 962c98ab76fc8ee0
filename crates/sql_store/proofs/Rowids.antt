-- Tables whose rows have rowids of their own, from answers that rise.
use Rattle.std.proofs.Common.{◌≡◌, inl, inr, ℕ, ◌≤◌, List, [], ◌∷◌, map, codes, Bool}
use Rattle.std.proofs.Common.{false, IsTrue, refl, sym, ap, ◌∙◌, arith, Ordering, Less}
use Rattle.std.specs.List.{count_by, AllByRecursion}
use Rattle.std.specs.Ordering.{is_eq, ordering_reverse}
use Rattle.std.proofs.lemmas.Bool.{cases_Bool}
use Rattle.std.proofs.lemmas.List.Concat.{flat_map_single}
use Rattle.sqlite.specs.declared.types.Value.{Value}
use Rattle.sqlite.specs.Order.{Row}
use Rattle.sqlite_value.specs.Order.{value_cmp}
use Rattle.sqlite_value.proofs.OrderLemmas.{value_cmp_total}
use Rattle.sqlite_trees.specs.Tree.{Trees, rowid, IsTable}
use Rattle.sqlite_trees.specs.View.{is_int, IsShaped}
use Rattle.sqlite_trees.specs.declared.store.Shape.TheVariants.{Table}
use Rattle.sqlite_rules.proofs.ListLemmas.{all_has}
use Rattle.sqlite.specs.Term.{Term, col}
use Rattle.sqlite.specs.Query.{Query, IsAnswer, output, Output}
use Rattle.sqlite.specs.Collation.TheVariants.{Binary}
use Rattle.sqlite.specs.Effect.{Database}
use Rattle.sqlite.specs.Listing.{understood}
use Rattle.sqlite.specs.Program.{overlay}
use Rattle.sqlite_value.specs.Keys.{ascending}
use Rattle.sqlite_value.specs.declared.keys.Key.{Key}
use Rattle.sqlite_sql.specs.Term.{eval_all}
use Rattle.sqlite_tied.specs.Compute.{everything}
use Rattle.store_tables.specs.Rows.{HasRowids, HaveRowids}
use Rattle.store_tables.proofs.Counts.{counts_here, counts_past, counts_none, counts_mapped, counts_permuted}
use Rattle.store_tables.proofs.Keys.{equal_is}
use Rattle.store_tables.proofs.Queries.{IsQuery}
use Rattle.sql_store.specs.Reading.{IsAnswered, AreQueryTexts, AreAnswered}
use Rattle.sql_store.specs.Failing.{rowid_queries}
use Rattle.sql_store.proofs.Queries.{ordered_query, viewed, answer_of, text_of}

-- ---- how often a rowid comes

-- in rows that rise a value comes once at most
rises_once : (v : Value) (rows : List Row) → IsTable rows → count_by (λ r. is_eq (value_cmp (rowid r) v)) rows ≤ 1
rises_once v [] up = omega arith
rises_once v (r ∷ rows) up = elim (cases_Bool (is_eq (value_cmp (rowid r) v))) [
  | inl here ↦
      let none = counts_none (λ x. is_eq (value_cmp (rowid x) v)) rows (λ x h.
      let less : value_cmp (rowid r) (rowid x) ≡ Less = all_has (λ y. value_cmp (rowid r) (rowid y) ≡ Less) rows x up.0 h in
      let above : value_cmp v (rowid x) ≡ Less = sym (value_cmp_total.congr (rowid r) v (rowid x) (equal_is _ here)) ∙ less in
      apart_back (value_cmp v (rowid x)) (value_cmp (rowid x) v) (value_cmp_total.antisymm (rowid x) v) above) in
      omega (arith, counts_here (λ x. is_eq (value_cmp (rowid x) v)) r rows here, none)
  | inr past ↦ omega (arith, counts_past (λ x. is_eq (value_cmp (rowid x) v)) r rows past, rises_once v rows up.1)
]
  where
    apart_back : (o q : Ordering) → q ≡ ordering_reverse o → o ≡ Less → is_eq q ≡ false
    apart_back o q back is = ap is_eq (back ∙ ap ordering_reverse is)

-- ---- the query of the rowids of a table, by their order

abbrev pub rowids_query : ℕ → Query
rowids_query tree = ordered_query ((col 1 0, ascending Binary) ∷ []) tree (col 1 0 ∷ [])

pub meta_rowids : IsQuery (codes "SELECT rowid FROM meta ORDER BY rowid") (rowids_query 0)
unfolding understood everything
meta_rowids = record { names = codes "rowid" ∷ []; is = refl; plain = (refl, refl); unlisted = refl }

pub base_rowids : IsQuery (codes "SELECT rowid FROM base ORDER BY rowid") (rowids_query 2)
unfolding understood everything
base_rowids = record { names = codes "obj" ∷ []; is = refl; plain = (refl, refl); unlisted = refl }

pub homes_rowids : IsQuery (codes "SELECT rowid FROM prepared ORDER BY rowid") (rowids_query 3)
unfolding understood everything
homes_rowids = record { names = codes "top" ∷ []; is = refl; plain = (refl, refl); unlisted = refl }

pub values_rowids : IsQuery (codes "SELECT rowid FROM prepared_val ORDER BY rowid") (rowids_query 4)
unfolding understood everything
values_rowids = record { names = codes "rowid" ∷ []; is = refl; plain = (refl, refl); unlisted = refl }

pub decided_rowids : IsQuery (codes "SELECT rowid FROM decided ORDER BY rowid") (rowids_query 6)
unfolding understood everything
decided_rowids = record { names = codes "top" ∷ []; is = refl; plain = (refl, refl); unlisted = refl }

pub deltas_rowids : IsQuery (codes "SELECT rowid FROM prepared_delta ORDER BY rowid") (rowids_query 7)
unfolding understood everything
deltas_rowids = record { names = codes "rowid" ∷ []; is = refl; plain = (refl, refl); unlisted = refl }

-- the queries of the rowids of each table

pub are_rowids_queries : AreQueryTexts rowid_queries
are_rowids_queries = (
  text_of _ _ meta_rowids,
  (text_of _ _ base_rowids, (text_of _ _ homes_rowids, (text_of _ _ values_rowids, (text_of _ _ decided_rowids, (text_of _ _ deltas_rowids, tt))))),
)

-- as many rows of an answer pass a test as rows of the table
pub as_many : (p : Row → Bool) (order : List (Term × Key)) (tree : ℕ) (project : List Term) (db : Trees) (found : List Row)
    → IsAnswer (ordered_query order tree project) db [] found → count_by p found ≡ count_by (λ r. p (eval_all project ([] ∷ r ∷ []))) (db tree)
as_many p order tree project db found answer =
    let q = ordered_query order tree project in
    let shown = λ (o : Output). p o.1 in
    let env = λ (r : Row). [] ∷ r ∷ [] in
    let kept : answer.kept ≡ map (output q) (map env (db tree)) =
    answer.distinct ∙ ap (map (output q)) (answer.grouped ∙ flat_map_single env (db tree)) in
    ap (count_by p) answer.shown ∙ (counts_mapped p (λ (o : Output). o.1) answer.ordered
    ∙ (counts_permuted shown answer.kept answer.ordered answer.same ∙ (ap (count_by shown) kept ∙ (counts_mapped shown (output q) (map env (db tree)) ∙ counts_mapped (λ e. shown (output q e)) env (db tree)))))

-- an answer that rises shows the rowid of each row once
module _ (tree : ℕ) (db : Trees) (found : List Row) (answer : IsAnswer (rowids_query tree) db [] found) (up : IsShaped Table found) where
  pub keyed : HasRowids (db tree)
  keyed = record {
    ints = λ r h. all_has (λ a. IsTrue (is_int (rowid a))) found (rowid r ∷ []) up.1
        ((viewed ((col 1 0, ascending Binary) ∷ []) tree (col 1 0 ∷ []) db found answer).each r h);
    once = λ v.
        omega (arith, sym (as_many (λ r. is_eq (value_cmp (rowid r) v)) ((col 1 0, ascending Binary) ∷ []) tree (col 1 0 ∷ []) db found answer), rises_once v found up.0);
  }

keyed_by : (sql : List ℕ) (tree : ℕ) → IsQuery sql (rowids_query tree) → (d : Database) (rows : List Row) → IsAnswered d sql rows → IsShaped Table rows
    → HasRowids (overlay d.trees [] tree)
keyed_by sql tree it d rows h up = keyed tree (overlay d.trees []) rows (answer_of sql (rowids_query tree) it d rows h) up

-- six answers that rise show that each table has rowids
pub all_keyed : (d : Database) (answers : List (List Row)) → AreAnswered d rowid_queries answers → AllByRecursion (IsShaped Table) answers → HaveRowids d.trees
all_keyed d [] h up = absurd h
all_keyed d (a ∷ []) h up = absurd h.1
all_keyed d (a ∷ b ∷ []) h up = absurd h.1.1
all_keyed d (a ∷ b ∷ c ∷ []) h up = absurd h.1.1.1
all_keyed d (a ∷ b ∷ c ∷ e ∷ []) h up = absurd h.1.1.1.1
all_keyed d (a ∷ b ∷ c ∷ e ∷ f ∷ []) h up = absurd h.1.1.1.1.1
all_keyed d (a ∷ b ∷ c ∷ e ∷ f ∷ k ∷ []) h up = (
  keyed_by _ 0 meta_rowids d a h.0 up.0,
  (
    keyed_by _ 2 base_rowids d b h.1.0 up.1.0,
    (
      keyed_by _ 3 homes_rowids d c h.1.1.0 up.1.1.0,
      (
        keyed_by _ 4 values_rowids d e h.1.1.1.0 up.1.1.1.0,
        (keyed_by _ 6 decided_rowids d f h.1.1.1.1.0 up.1.1.1.1.0, (keyed_by _ 7 deltas_rowids d k h.1.1.1.1.1.0 up.1.1.1.1.1.0, tt)),
      ),
    ),
  ),
)
all_keyed d (a ∷ b ∷ c ∷ e ∷ f ∷ k ∷ l ∷ more) h up = absurd h.1.1.1.1.1.1
