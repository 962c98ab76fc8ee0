-- The answers of tables that hold a content: they show it, and no key twice.
use Rattle.std.proofs.Common.{◌≡◌, inl, inr, ℕ, zero, suc, ◌+◌, ◌≤◌, ℤ, pos, List, [], ◌∷◌, map, length, Bool, true, false, not, ◌&&◌}
use Rattle.std.proofs.Common.{Vec, Global, Ok, get_or, refl, sym, ap, ap₂, subst, ◌∙◌, arith, true≢false, Ordering, Less, Equal, Greater, Some, IsTrue}
use Rattle.std.specs.List.{count_by, AllByRecursion}
use Rattle.std.specs.List.Sorted.{IsSorted}
use Rattle.std.specs.Ordering.{is_eq, is_lt, is_ne, ordering_reverse, ordering_then}
use Rattle.std.proofs.lemmas.Bool.{and_parts, and_from, false_from_ne_true}
use Rattle.std.proofs.lemmas.Cmp.{tied_itself}
use Rattle.std.proofs.lemmas.List.{length-map}
use Rattle.sqlite.specs.declared.types.Value.{Value}
use Rattle.sqlite.specs.declared.types.Value.TheVariants.{Int}
use Rattle.sqlite.specs.Order.{Row, column}
use Rattle.sqlite.specs.Tree.{Trees}
use Rattle.sqlite.specs.Schema.{Schema}
use Rattle.sqlite.specs.Term.{Term, col}
use Rattle.sqlite.specs.Query.{Query, IsAnswer, output, Output}
use Rattle.sqlite_sql.specs.Query.{output_cmp}
use Rattle.sqlite.specs.Program.{overlay}
use Rattle.sqlite.specs.Ops.{binary, is_true, from_truth}
use Rattle.sqlite.specs.Edit.{id_in}
use Rattle.sqlite.specs.Effect.{Database}
use Rattle.sqlite.specs.State.{State, HasCleanDisk}
use Rattle.sqlite.specs.Collation.TheVariants.{Binary}
use Rattle.sqlite_value.specs.Order.{value_cmp}
use Rattle.sqlite_value.specs.Keys.{ascending, plain, first_key}
use Rattle.sqlite_value.proofs.OrderLemmas.{value_cmp_total}
use Rattle.sqlite_trees.specs.Tree.{rowid, has_rowid, IsTable}
use Rattle.sqlite_trees.specs.View.{is_int, IsShaped}
use Rattle.sqlite_trees.specs.declared.store.Shape.TheVariants.{Table}
use Rattle.sqlite_rules.specs.Lists.{Has}
use Rattle.sqlite_rules.proofs.ListLemmas.{all_has, all_from, some_from}
use Rattle.sqlite_rules.proofs.ProbeLemmas.{has_mapped}
use Rattle.sqlite_schema.specs.declared.schema.Constraint.TheVariants.{Unique}
use Rattle.sqlite_schema.specs.Rules.{equal, differ, agree, clashes, passes}
use Rattle.atomic_types.specs.declared.part.Part.{Part}
use Rattle.stable_store.specs.Stored.{Stored}
use Rattle.store_tables.specs.Tables.{stable_schema, prepared_val, prepared_delta}
use Rattle.store_tables.specs.Rows.{HasRowids, is_part_of}
use Rattle.store_tables.specs.Listed.{Lists}
use Rattle.store_tables.specs.Shown.{ShowsRecord, IsValueText, IsAddedBy}
use Rattle.store_tables.specs.Holds.{Holds, IsStore}
use Rattle.store_tables.specs.Answered.{queries, answered, rows_of}
use Rattle.store_tables.specs.Keyed.{AreKeyed, is_part_shown}
use Rattle.store_tables.proofs.Counts.{counts, counts_here, counts_some, counts_none, counts_under}
use Rattle.store_tables.proofs.Finds.{find_cases, none_found}
use Rattle.store_tables.proofs.Keys.{equal_number}
use Rattle.store_tables.proofs.Placed.{ints}
use Rattle.store_tables.proofs.Records.{ties_number}
use Rattle.store_tables.proofs.Queries.{base_query, homes_query, values_query, deltas_query}
use Rattle.store_tables.proofs.Viewed.{stands_for}
use Rattle.store_writing.specs.Steps.{Stands}
use Rattle.sql_store.specs.Reading.{AreAnswersOf, AreAnswered, LooksUp}
use Rattle.sql_store.specs.Failing.{rowid_queries}
use Rattle.sql_store.proofs.Queries.{ordered_query, viewed, answer_of, has_permuted, numbers_query, views}
use Rattle.sql_store.proofs.Rowids.{rowids_query, as_many, meta_rowids, base_rowids, homes_rowids, values_rowids, decided_rowids, deltas_rowids}

pub not_true : (b : Bool) → not b ≡ true → b ≡ false
not_true true h = absurd (true≢false (sym h))
not_true false h = refl

-- ---- rows in the order of their rowids

-- what is sorted is so without its first
later : {X : Type 0} (cmp : X → X → Ordering) (x : X) (xs : List X) → IsSorted cmp (x ∷ xs) → IsSorted cmp xs
later cmp x xs sorted k d low high =
    let next : suc k + 1 ≡ suc (k + 1) = omega arith in
    subst (λ n. is_lt (cmp (get_or (x ∷ xs) n d) (get_or xs k d)) ≡ false) next (sorted (suc k) d (omega arith) (omega (arith, high)))

-- of two that come one after the other the second is above, where no rowid comes twice
step_up : (x y : Row) (rows : List Row) → is_lt (value_cmp (rowid y) (rowid x)) ≡ false
    → count_by (λ r. is_eq (value_cmp (rowid r) (rowid y))) (x ∷ y ∷ rows) ≤ 1 → value_cmp (rowid x) (rowid y) ≡ Less
step_up x y rows not_below once = go (value_cmp (rowid x) (rowid y)) refl
  where
    go : (o : Ordering) → value_cmp (rowid x) (rowid y) ≡ o → value_cmp (rowid x) (rowid y) ≡ Less
    go Less is = is
    go Equal is =
        let p = λ (r : Row). is_eq (value_cmp (rowid r) (rowid y)) in
        let here : p x ≡ true = ap is_eq is in
        let also : p y ≡ true = ap is_eq (tied_itself value_cmp_total (rowid y)) in
        absurd (omega (arith, once, counts_here p x (y ∷ rows) here, counts_some p (y ∷ rows) y (inl refl) also))
    go Greater is = absurd (true≢false (sym (ap is_lt (value_cmp_total.antisymm (rowid y) (rowid x) ∙ ap ordering_reverse is)) ∙ not_below))

pub rise : (rows : List Row) → IsSorted (λ a b. value_cmp (rowid a) (rowid b)) rows
    → ((v : Value) → count_by (λ r. is_eq (value_cmp (rowid r) v)) rows ≤ 1) → IsTable rows
rise [] sorted once = tt
rise (x ∷ []) sorted once = (tt, tt)
rise (x ∷ y ∷ rows) sorted once =
    let fewer : (v : Value) → count_by (λ r. is_eq (value_cmp (rowid r) v)) (y ∷ rows) ≤ 1 = λ v. fewer_of (λ r. is_eq (value_cmp (rowid r) v)) (once v) in
    let rest = rise (y ∷ rows) (later (λ a b. value_cmp (rowid a) (rowid b)) x (y ∷ rows) sorted) fewer in
    let up = step_up x y rows (sorted 0 x (omega arith) (omega arith)) (once (rowid y)) in
    ((up, above rows up rest.0), rest)
  where
    fewer_of : (p : Row → Bool) → count_by p (x ∷ y ∷ rows) ≤ 1 → count_by p (y ∷ rows) ≤ 1
    fewer_of p once = omega (arith, once, counts p x (y ∷ rows))

    above : (zs : List Row) → value_cmp (rowid x) (rowid y) ≡ Less → AllByRecursion (λ z. value_cmp (rowid y) (rowid z) ≡ Less) zs
        → AllByRecursion (λ z. value_cmp (rowid x) (rowid z) ≡ Less) zs
    above [] up all = tt
    above (z ∷ zs) up all = (value_cmp_total.trans (rowid x) (rowid y) (rowid z) up all.0, above zs up all.1)

-- the rows of an answer that is ordered by the rowid, which each row shows first
module _ (tree : ℕ) (more : List Term) (db : Trees) (found : List Row)
    (answer : IsAnswer (ordered_query ((col 1 0, ascending Binary) ∷ []) tree (col 1 0 ∷ more)) db [] found) (placed : HasRowids (db tree)) where
  abbrev q : Query
  q = ordered_query ((col 1 0, ascending Binary) ∷ []) tree (col 1 0 ∷ more)

  -- what a row is sorted by is what it shows
  abbrev SortsByRowid : Output → Type 0
  SortsByRowid o = column o.0 0 ≡ rowid o.1

  sorts : (o : Output) → Has answer.ordered o → SortsByRowid o
  sorts o h =
      let kept : answer.kept ≡ map (output q) answer.staged = answer.distinct in
      let e = has_mapped (output q) answer.staged o (subst (λ l. Has l o) kept (has_permuted answer.kept answer.ordered o answer.same h)) in
      subst SortsByRowid (sym e.2) refl

  in_order : (os : List Output) → ((o : Output) → Has os o → SortsByRowid o) → IsSorted (output_cmp q) os
      → IsSorted (λ a b. value_cmp (rowid a) (rowid b)) (map (λ (o : Output). o.1) os)
  unfolding value_cmp
  in_order [] all sorted k d low high = absurd (omega (arith, high))
  in_order (o ∷ []) all sorted k d low high = absurd (omega (arith, high))
  in_order (o ∷ p ∷ os) all sorted zero d low high =
      ap (λ (r : Ordering). is_lt r) (ap₂ value_cmp (sym (all p (inr (inl refl)))) (sym (all o (inl refl))))
      ∙ (plain_lt (value_cmp (column p.0 0) (column o.0 0)) ∙ sorted 0 o (omega arith) (omega arith))
    where
      plain_lt : (r : Ordering) → is_lt r ≡ is_lt (ordering_then r Equal)
      plain_lt Less = refl
      plain_lt Equal = refl
      plain_lt Greater = refl
  in_order (o ∷ p ∷ os) all sorted (suc k) d low high =
      let next : suc (k + 1) ≡ suc k + 1 = omega arith in
      let rows = map (λ (o : Output). o.1) (p ∷ os) in
      subst (λ n. is_lt (value_cmp (rowid (get_or (o.1 ∷ rows) n d)) (rowid (get_or rows k d))) ≡ false) next
      (in_order (p ∷ os) (λ x h. all x (inr h)) (later (output_cmp q) o (p ∷ os) sorted) k d (omega arith) (omega (arith, high)))

  pub rises_by_rowid : IsTable found
  rises_by_rowid = rise found
      (subst (IsSorted (λ a b. value_cmp (rowid a) (rowid b))) (sym answer.shown) (in_order answer.ordered sorts answer.sorted))
      (λ v. omega (arith, as_many (λ r. is_eq (value_cmp (rowid r) v)) ((col 1 0, ascending Binary) ∷ []) tree (col 1 0 ∷ more) db found answer, placed.once v))

  shows_rowid : (a : Row) → Has found a → IsTrue (is_int (rowid a))
  shows_rowid a h =
      let r = (viewed ((col 1 0, ascending Binary) ∷ []) tree (col 1 0 ∷ more) db found answer).from a h in
      ap (λ x. is_int (rowid x)) r.2 ∙ placed.ints r.0 r.1

  pub shaped_by_rowid : IsShaped Table found
  shaped_by_rowid = (rises_by_rowid, all_from (λ r. IsTrue (is_int (rowid r))) found shows_rowid)

-- ---- rows whose parts differ

-- integers that are not different are one
differ_by : (m n : ℤ) → differ (Int m) (Int n) ≡ is_true (from_truth (Some (is_ne (value_cmp (Int m) (Int n)))))
unfolding binary
differ_by m n = refl

not_different : (m n : ℤ) → differ (Int m) (Int n) ≡ false → value_cmp (Int m) (Int n) ≡ Equal
not_different m n h = go (value_cmp (Int m) (Int n)) (sym (differ_by m n) ∙ h)
  where
    go : (o : Ordering) → is_true (from_truth (Some (is_ne o))) ≡ false → o ≡ Equal
    go Less other = absurd (true≢false other)
    go Equal other = refl
    go Greater other = absurd (true≢false other)

-- no part comes twice in a table that keeps its key
module _ (rows : List Row) (placed : HasRowids rows) (top object : ℕ)
    (numbers : (r : Row) → Has rows r → is_part_of top object r ≡ true → (column r 1 ≡ Int (pos top)) × (column r 2 ≡ Int (pos object)))
    (unique : (r : Row) → Has rows r → clashes plain (1 ∷ 2 ∷ []) rows r ≡ false) where
  agreed : (r s : Row) → Has rows s → is_part_of top object r ≡ true → is_part_of top object s ≡ true → agree plain (1 ∷ 2 ∷ []) r (1 ∷ 2 ∷ []) s ≡ true
  unfolding first_key
  agreed r s h mine theirs =
      let n = numbers s h theirs in
      let p = and_parts _ _ mine in
      and_from _ _ (ap (equal Binary (column r 1)) n.0 ∙ (equal_number (column r 1) (pos top) ∙ p.0))
      (and_from _ _ (ap (equal Binary (column r 2)) n.1 ∙ (equal_number (column r 2) (pos object) ∙ p.1)) refl)

  one_row : (r s : Row) → Has rows r → Has rows s → is_part_of top object r ≡ true → is_part_of top object s ≡ true
      → is_eq (value_cmp (rowid r) (rowid s)) ≡ true
  one_row r s h k mine theirs =
      let a = ints rows r placed h in
      let b = ints rows s placed k in
      let same : differ (rowid r) (rowid s) ≡ false = false_from_ne_true (differ (rowid r) (rowid s)) (λ other.
      true≢false (sym (some_from (λ x. agree plain (1 ∷ 2 ∷ []) x (1 ∷ 2 ∷ []) s && differ (rowid x) (rowid s)) rows r h (and_from _ _ (agreed r s k mine theirs) other)) ∙ unique s k)) in
      ap is_eq (ap₂ value_cmp a b ∙ not_different (id_in (rowid r)) (id_in (rowid s)) (sym (ap₂ differ a b) ∙ same))

  pub comes_once : count_by (is_part_of top object) rows ≤ 1
  comes_once = elim (find_cases (is_part_of top object) rows) [
    | inl none ↦ omega (arith, counts_none (is_part_of top object) rows (none_found (is_part_of top object) rows none))
    | inr some ↦ omega (
      arith,
      counts_under (is_part_of top object) (λ r. is_eq (value_cmp (rowid r) (rowid some.0))) rows (λ r h mine. one_row r some.0 h some.1 mine some.2),
      placed.once (rowid some.0),
    )
  ]

-- the numbers of a row that is a part of this record
pub numbers_in : (Spells : Value → Part → Type 0) (rows : List Row) (Is : ℕ × (ℕ × Part) → Type 0) → Lists (ShowsRecord Spells 1) rows Is
    → (top object : ℕ) (r : Row) → Has rows r → is_part_of top object r ≡ true → (column r 1 ≡ Int (pos top)) × (column r 2 ≡ Int (pos object))
numbers_in Spells rows Is listed top object r h mine =
    let e = listed.each r h in
    let p = and_parts _ _ mine in (
      e.1.top.is ∙ ap (λ n. Int (pos n)) (ties_number (column r 1) e.0.0 top e.1.top.is p.0),
      e.1.object.is ∙ ap (λ n. Int (pos n)) (ties_number (column r 2) e.0.1.0 object e.1.object.is p.1),
    )

-- ---- the answers to the queries of a content

module _ (d : Database) (c : Stored) (store : IsStore d.trees c) where
  -- no two rows of this table have the same key
  values_differ : (r : Row) → Has (d.trees 4) r → clashes plain (1 ∷ 2 ∷ []) (d.trees 4) r ≡ false
  values_differ r h = not_true _ (and_parts _ _ (all_has (λ row. passes Unique stable_schema d.trees (record prepared_val { tree = 4 }) row ≡ true) (d.trees 4) r (store.sound.obeys.rules Unique).1.1.1.0 h)).0

  deltas_differ : (r : Row) → Has (d.trees 7) r → clashes plain (1 ∷ 2 ∷ []) (d.trees 7) r ≡ false
  deltas_differ r h = not_true _ (and_parts _ _ (all_has (λ row. passes Unique stable_schema d.trees (record prepared_delta { tree = 7 }) row ≡ true) (d.trees 7) r (store.sound.obeys.rules Unique).1.1.1.1.1.0 h)).0

  pub answers_keyed : (answers : List (List Row)) → AreAnswered d queries answers → AreKeyed (answered answers)
  answers_keyed [] h = absurd h
  answers_keyed (a ∷ []) h = absurd h.1
  answers_keyed (a ∷ b ∷ []) h = absurd h.1.1
  answers_keyed (a ∷ b ∷ k ∷ []) h = absurd h.1.1.1
  answers_keyed (a ∷ b ∷ k ∷ e ∷ []) h = absurd h.1.1.1.1
  answers_keyed (a ∷ b ∷ k ∷ e ∷ f ∷ []) h = absurd h.1.1.1.1.1
  answers_keyed (a ∷ b ∷ k ∷ e ∷ f ∷ g ∷ []) h = record {
    numbers = rises_by_rowid 0 (col 1 1 ∷ col 1 2 ∷ []) (overlay d.trees []) a (answer_of _ _ numbers_query d a h.0) store.placed.0;
    base = λ n. omega (arith, as_many (has_rowid (pos n)) [] 2 (col 1 0 ∷ col 1 2 ∷ []) (overlay d.trees []) b (answer_of _ _ base_query d b h.1.0), store.placed.1.0.once (Int (pos n)));
    homes = λ n. omega (arith, as_many (has_rowid (pos n)) [] 3 (col 1 0 ∷ col 1 2 ∷ []) (overlay d.trees []) k (answer_of _ _ homes_query d k h.1.1.0), store.placed.1.1.0.once (Int (pos n)));
    values = λ top object. omega (
      arith,
      as_many (is_part_shown top object) [] 4 (col 1 1 ∷ col 1 2 ∷ col 1 3 ∷ []) (overlay d.trees []) e (answer_of _ _ values_query d e h.1.1.1.0),
      comes_once (d.trees 4) store.placed.1.1.1.0 top object (numbers_in IsValueText (d.trees 4) _ store.holds.values top object) values_differ,
    );
    deltas = λ top object. omega (
      arith,
      as_many (is_part_shown top object) [] 7 (col 1 1 ∷ col 1 2 ∷ col 1 3 ∷ []) (overlay d.trees []) f (answer_of _ _ deltas_query d f h.1.1.1.1.0),
      comes_once (d.trees 7) store.placed.1.1.1.1.1.0 top object (numbers_in IsAddedBy (d.trees 7) _ store.holds.deltas top object) deltas_differ,
    );
  }
  answers_keyed (a ∷ b ∷ k ∷ e ∷ f ∷ g ∷ l ∷ more) h = absurd h.1.1.1.1.1.1

  -- each answer of rowids rises
  pub rowids_rise : (answers : List (List Row)) → AreAnswered d rowid_queries answers → AllByRecursion (IsShaped Table) answers
  rowids_rise [] h = absurd h
  rowids_rise (a ∷ []) h = absurd h.1
  rowids_rise (a ∷ b ∷ []) h = absurd h.1.1
  rowids_rise (a ∷ b ∷ k ∷ []) h = absurd h.1.1.1
  rowids_rise (a ∷ b ∷ k ∷ e ∷ []) h = absurd h.1.1.1.1
  rowids_rise (a ∷ b ∷ k ∷ e ∷ f ∷ []) h = absurd h.1.1.1.1.1
  rowids_rise (a ∷ b ∷ k ∷ e ∷ f ∷ g ∷ []) h = (
    shaped 0 a (answer_of _ _ meta_rowids d a h.0) store.placed.0,
    (
      shaped 2 b (answer_of _ _ base_rowids d b h.1.0) store.placed.1.0,
      (
        shaped 3 k (answer_of _ _ homes_rowids d k h.1.1.0) store.placed.1.1.0,
        (
          shaped 4 e (answer_of _ _ values_rowids d e h.1.1.1.0) store.placed.1.1.1.0,
          (
            shaped 6 f (answer_of _ _ decided_rowids d f h.1.1.1.1.0) store.placed.1.1.1.1.0,
            (shaped 7 g (answer_of _ _ deltas_rowids d g h.1.1.1.1.1.0) store.placed.1.1.1.1.1.0, tt),
          ),
        ),
      ),
    ),
  )
    where
      shaped : (tree : ℕ) (rows : List Row) → IsAnswer (rowids_query tree) (overlay d.trees []) [] rows → HasRowids (overlay d.trees [] tree) → IsShaped Table rows
      shaped tree rows answer placed = shaped_by_rowid tree [] (overlay d.trees []) rows answer placed
  rowids_rise (a ∷ b ∷ k ∷ e ∷ f ∷ g ∷ l ∷ more) h = absurd h.1.1.1.1.1.1

-- so many queries have so many answers
pub as_many_answers : (tables : Schema) (d : Database) (qs : List (List ℕ)) (answers : List (List Row)) → AreAnswersOf tables d qs answers → length answers ≡ length qs
as_many_answers tables d [] [] h = refl
as_many_answers tables d [] (a ∷ answers) h = absurd h
as_many_answers tables d (q ∷ qs) [] h = absurd h
as_many_answers tables d (q ∷ qs) (a ∷ answers) h = ap suc (as_many_answers tables d qs answers h.1)

-- ---- a store is recognized

module _ (old new : State) (c : Stored) (all : Vec (Vec Row Global) Global) (xs : List (Vec Row Global)) (same : xs ≡ all.items) (clean : HasCleanDisk new) (stands : Stands old c) where
  abbrev Shows : List (List ℕ) → Type 0
  Shows texts = LooksUp {T = Vec (Vec Row Global) Global} old new (λ d (a : Vec (Vec Row Global) Global). AreAnswered d texts (rows_of a.items)) (Ok all)

  store_of : (texts : List (List ℕ)) → Shows texts → IsStore old.now.trees c
  store_of texts looked = (stands (looked.clean clean) (looked.ok clean).0.was_open).store

  pub content_told : Shows queries → (length xs ≡ 6 → AreKeyed (answered (rows_of xs)) → Holds 0 (answered (rows_of xs)) c → ⊥) → ⊥
  content_told looked never =
      let shown = (looked.ok clean).1 in
      let store = store_of queries looked in
      subst (λ l. (length l ≡ 6 → AreKeyed (answered (rows_of l)) → Holds 0 (answered (rows_of l)) c → ⊥) → ⊥) (sym same)
      (λ no. no (sym (length-map all.items (λ (a : Vec Row Global). a.items)) ∙ as_many_answers stable_schema old.now queries (rows_of all.items) shown)
      (answers_keyed old.now c store (rows_of all.items) shown)
      (stands_for (answered (rows_of all.items)) old.now.trees c (views old.now (rows_of all.items) shown) store.holds)) never

  pub rowids_told : Shows rowid_queries → AllByRecursion (IsShaped Table) (rows_of xs)
  rowids_told looked =
      subst (λ l. AllByRecursion (IsShaped Table) (rows_of l)) (sym same)
      (rowids_rise old.now c (store_of rowid_queries looked) (rows_of all.items) (looked.ok clean).1)
