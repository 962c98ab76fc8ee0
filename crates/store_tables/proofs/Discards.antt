-- What the deletion of a record makes of the trees.
use Rattle.std.proofs.Common.{unwrap_or, ◌≡◌, ◌≢◌, ◌⊎◌, inl, inr, ℕ, ℤ, pos, List, [], ◌∷◌, Bool, true, false, cond, not, ◌&&◌, ◌++◌}
use Rattle.std.proofs.Common.{Option, Some, None, Ok, refl, sym, ap, subst, ◌∙◌, true≢false, arith}
use Rattle.std.specs.Ordering.{is_eq}
use Rattle.std.specs.List.{list_any, cons_option, AllByRecursion}
use Rattle.sqlite.specs.Table.{Table}
use Rattle.std.proofs.lemmas.Bool.{and_parts, and_from}
use Rattle.std.proofs.lemmas.Cmp.{tied_itself, tied_back}
use Rattle.sqlite.specs.declared.types.Value.TheVariants.{Null, Int}
use Rattle.sqlite.specs.Order.{Row, column, value_cmp}
use Rattle.sqlite.specs.Collation.TheVariants.{Binary}
use Rattle.sqlite.specs.Ops.{binary}
use Rattle.sqlite.specs.Tree.{Trees}
use Rattle.sqlite.specs.Query.{IsAnswer}
use Rattle.sqlite.specs.Program.{overlay}
use Rattle.sqlite_value.proofs.OrderLemmas.{value_cmp_total}
use Rattle.sqlite_value.specs.Keys.{first_key, plain}
use Rattle.sqlite_trees.specs.Tree.{rowid, has_rowid}
use Rattle.sqlite_schema.specs.Rules.{equal}
use Rattle.sqlite_schema.specs.declared.schema.Keys.TheVariants.{Enforced}
use Rattle.sqlite.specs.Rowids.TheVariants.{Given}
use Rattle.sqlite.specs.Edit.{Edit, edit_of, id_in, taken_by, Applies}
use Rattle.sqlite_rules.specs.Edit.{without_all, row_at as row_by}
use Rattle.sqlite_rules.specs.Action.{Leads, Writes, pairs, loses, is_child_of}
use Rattle.sqlite_rules.specs.Calls.{ids_of}
use Rattle.sqlite_rules.specs.Lists.{Has}
use Rattle.sqlite_rules.specs.Probe.{AreFound}
use Rattle.sqlite_rules.proofs.ListLemmas.{some_has, some_from, all_from}
use Rattle.sqlite_rules.proofs.ProbeLemmas.{has_mapped, mapped_has, rowid_query, found_rowids}
use Rattle.sqlite.specs.Effect.{Database}
use Rattle.sqlite.specs.Does.{Tally, Does}
use Rattle.sqlite.specs.Rows.{Written}
use Rattle.store_tables.specs.Tables.{stable_schema}
use Rattle.store_tables.proofs.Texts.{discard_query, discard_command}
use Rattle.store_tables.proofs.Keys.{equal_number, int_key, equal_is}
use Rattle.store_tables.proofs.Finds.{none_found}
use Rattle.store_tables.proofs.Finds.{find_cases}
use Rattle.store_tables.proofs.PartRows.{went, same_value}
use Rattle.store_tables.proofs.Decides.{plain_mode, prepared_table}
use Rattle.store_tables.proofs.Placed.{Placed, ints, same_row}
use Rattle.store_tables.proofs.Cascade.{work, works_are, ended, Cascades, CascadesTwice, cascades, values_table, deltas_table}

-- The parts of a record in this table are gone, and nothing else. They are gone only where the record was there.
pub record LosesParts (n tree : ℕ) (db next : Trees) : Type 0 where
  pub ids : List ℤ
  pub rows : next tree ≡ without_all (db tree) ids
  pub mine : (id : ℤ) → Has ids id
      → (r : Row) × Has (db tree) r × (is_eq (value_cmp (column r 1) (Int (pos n))) ≡ true) × (rowid r ≡ Int id)
  pub theirs : (old : Row) → Has (db 3) old → has_rowid (pos n) old ≡ true → (r : Row) (id : ℤ) → Has (db tree) r
      → is_eq (value_cmp (column r 1) (Int (pos n))) ≡ true → rowid r ≡ Int id → Has ids id

-- the record of a number is gone, with its values and its deltas, and nothing else
pub record Discards (n : ℕ) (db next : Trees) : Type 0 where
  pub gone : List ℤ
  pub all : (id : ℤ) → Has gone id → id ≡ pos n
  pub each : (r : Row) → Has (db 3) r → has_rowid (pos n) r ≡ true → Has gone (pos n)
  pub rows : next 3 ≡ without_all (db 3) gone
  pub values : LosesParts n 4 db next
  pub deltas : LosesParts n 7 db next
  pub others : (next 0 ≡ db 0) × (next 2 ≡ db 2) × (next 6 ≡ db 6)

-- each row that goes, beside no row that replaces it
paired : (olds : List Row) (m : Row × Row) → Has (pairs olds []) m → Has olds m.0
paired [] m h = absurd h
paired (o ∷ olds) m (inl same) = inl (ap (λ (p : Row × Row). p.0) same)
paired (o ∷ olds) m (inr later) = inr (paired olds m later)

in_pairs : (olds : List Row) (o : Row) → Has olds o → Has (pairs olds []) (o, [])
in_pairs [] o h = absurd h
in_pairs (x ∷ olds) o (inl same) = inl (ap (λ y. (y, [])) same)
in_pairs (x ∷ olds) o (inr later) = inr (in_pairs olds o later)

equal_itself : (n : ℕ) → equal Binary (Int (pos n)) (Int (pos n)) ≡ true
equal_itself n = equal_number (Int (pos n)) (pos n) ∙ ap is_eq (tied_itself value_cmp_total (Int (pos n)))

never_null : (n : ℕ) → equal Binary (Int (pos n)) Null ≡ false
unfolding binary
never_null n = refl

loses_key : (n : ℕ) (old : Row) → rowid old ≡ Int (pos n) → loses plain (0 ∷ []) (old, []) ≡ true
unfolding first_key
loses_key n old is = and_from _ _
    (and_from _ _ (ap (λ v. equal Binary v v) is ∙ equal_itself n) refl)
    (ap (λ b. not (b && true)) (ap (λ v. equal Binary v Null) is ∙ never_null n))

and_true : (b : Bool) → (b && true) ≡ b
and_true true = refl
and_true false = refl

child_of : (child : Table) (moves : List (Row × Row)) (n : ℕ) (r old : Row) → rowid old ≡ Int (pos n)
    → is_child_of (work child moves) r (old, []) ≡ is_eq (value_cmp (column r 1) (Int (pos n)))
unfolding first_key
child_of child moves n r old is =
    ap (λ b. b && (equal Binary (column r 1) (rowid old) && true)) (loses_key n old is)
    ∙ (and_true _ ∙ (ap (λ v. equal Binary (column r 1) v) is ∙ equal_number (column r 1) (pos n)))

-- a row is the row at its rowid
row_by_is : (rows : List Row) (id : ℤ) (x : Row) → Placed rows → Has rows x → has_rowid id x ≡ true → row_by rows id ≡ x
row_by_is rows id x p h is = elim (find_cases (has_rowid id) rows) [
  | inl none ↦ absurd (true≢false (sym is ∙ none_found (has_rowid id) rows none x h))
  | inr some ↦ ap (λ o. unwrap_or o []) some.3 ∙ same_row rows p some.0 x some.1 h
      (value_cmp_total.congr (rowid some.0) (Int id) (rowid x) (equal_is _ some.2) ∙ tied_back value_cmp_total (rowid x) (Int id) (equal_is _ is))
]

-- what a cascade left of its table, and of the others
lost_rows : (child : Table) (mid next : Trees) (moves : List (Row × Row)) (c : Cascades mid next child moves)
    → next child.tree ≡ without_all (mid child.tree) c.ids
lost_rows child mid next moves c = go c.ids c.ends
  where
    go : (ids : List ℤ) → ((ids ≡ []) × (next ≡ mid)) ⊎ Applies stable_schema Enforced mid (edit_of mid child ids Given 0 []) next
        → next child.tree ≡ without_all (mid child.tree) ids
    go ids (inl h) = ap (λ (t : Trees). t child.tree) h.1 ∙ ap (without_all (mid child.tree)) (sym h.0)
    go ids (inr a) = a.rows

lost_others : (child : Table) (mid next : Trees) (moves : List (Row × Row)) → Cascades mid next child moves
    → AllByRecursion (λ t. t.tree ≢ child.tree → next t.tree ≡ mid t.tree) stable_schema.tables
lost_others child mid next moves c = elim c.ends [
  | inl h ↦ all_from (λ t. t.tree ≢ child.tree → next t.tree ≡ mid t.tree) stable_schema.tables (λ t i apart. ap (λ (s : Trees). s t.tree) h.1)
  | inr a ↦ a.tables
]

module _ (n : ℕ) (db next : Trees) (placed : Placed (db 3)) (found : List Row) (answer : AreFound discard_query.filter (db 3) (Int (pos n) ∷ []) found) where
  abbrev gone : List ℤ
  gone = ids_of found

  had : (id : ℤ) → Has gone id → (r : Row) × Has (db 3) r × (has_rowid (pos n) r ≡ true) × (id ≡ id_in (rowid r))
  had id h =
      let x = has_mapped (λ y. id_in (rowid y)) found id h in
      let r = answer.sound x.0 x.1 in
      (r.0, r.1, sym (equal_number (rowid r.0) (pos n)) ∙ (and_parts _ _ r.2).0, x.2 ∙ ap (λ y. id_in (rowid y)) r.3)

  all : (id : ℤ) → Has gone id → id ≡ pos n
  all id h = let r = had id h in r.3 ∙ int_key (rowid r.0) n (ints (db 3) r.0 placed r.1) r.2

  key_of : (r : Row) → Has (db 3) r → has_rowid (pos n) r ≡ true → rowid r ≡ Int (pos n)
  key_of r h at = let is = ints (db 3) r placed h in is ∙ ap Int (int_key (rowid r) n is at)

  each : (r : Row) → Has (db 3) r → has_rowid (pos n) r ≡ true → Has gone (pos n)
  each r h at =
      let passes = and_from _ _ (equal_number (rowid r) (pos n) ∙ at) refl in
      subst (Has gone) (ap id_in (key_of r h at)) (mapped_has (λ y. id_in (rowid y)) found (rowid r ∷ []) (answer.complete r h passes))

  abbrev edit : Edit
  edit = edit_of db prepared_table gone Given 0 []

  abbrev olds : List Row
  olds = taken_by db edit

  old_key : (o : Row) → Has olds o → rowid o ≡ Int (pos n)
  old_key o h =
      let id = has_mapped (row_by (db 3)) gone o h in
      let r = had id.0 id.1 in
      let same : row_by (db 3) id.0 ≡ r.0 = row_by_is (db 3) id.0 r.0 placed r.1 (ap (λ k. has_rowid k r.0) (all id.0 id.1) ∙ r.2) in
      ap rowid (id.2 ∙ same) ∙ key_of r.0 r.1 r.2

  old_is : (r : Row) → Has (db 3) r → has_rowid (pos n) r ≡ true → Has olds r
  old_is r h at = subst (Has olds) (row_by_is (db 3) (pos n) r placed h at) (mapped_has (row_by (db 3)) gone (pos n) (each r h at))

  some_loses : (r : Row) → Has (db 3) r → has_rowid (pos n) r ≡ true → list_any (loses plain (0 ∷ [])) (pairs olds []) ≡ true
  some_loses r h at =
      some_from (loses plain (0 ∷ [])) (pairs olds []) (r, []) (in_pairs olds r (old_is r h at)) (loses_key n r (key_of r h at))

  module _ (mid : Trees) (took : Applies stable_schema Enforced db edit mid) where
    kept : (mid 0 ≡ db 0) × (mid 2 ≡ db 2) × (mid 4 ≡ db 4) × (mid 6 ≡ db 6) × (mid 7 ≡ db 7)
    kept = (
      took.tables.0 (λ e. omega (arith, e)),
      took.tables.1.0 (λ e. omega (arith, e)),
      took.tables.1.1.1.0 (λ e. omega (arith, e)),
      took.tables.1.1.1.1.0 (λ e. omega (arith, e)),
      took.tables.1.1.1.1.1.0 (λ e. omega (arith, e)),
    )

    none_lost : (tree : ℕ) → list_any (loses plain (0 ∷ [])) (pairs olds []) ≡ false → next tree ≡ db tree → LosesParts n tree db next
    none_lost tree none same = record {
      ids = [];
      rows = same;
      mine = λ id h. absurd h;
      theirs = λ old h at r id _ _ _. absurd (true≢false (sym (some_loses old h at) ∙ none));
    }

    -- no record was there
    unled : list_any (loses plain (0 ∷ [])) (pairs olds []) ≡ false → next ≡ mid → Discards n db next
    unled none same = record {
      gone = gone;
      all = all;
      each = each;
      rows = ap (λ (t : Trees). t 3) same ∙ took.rows;
      values = none_lost 4 none (ap (λ (t : Trees). t 4) same ∙ kept.2);
      deltas = none_lost 7 none (ap (λ (t : Trees). t 7) same ∙ kept.4);
      others = (ap (λ (t : Trees). t 0) same ∙ kept.0, ap (λ (t : Trees). t 2) same ∙ kept.1, ap (λ (t : Trees). t 6) same ∙ kept.3);
    }

    child_key : (child : Table) (r : Row) → list_any (is_child_of (work child (pairs olds [])) r) (pairs olds []) ≡ true
        → is_eq (value_cmp (column r 1) (Int (pos n))) ≡ true
    unfolding first_key
    child_key child r h =
        let m = some_has (is_child_of (work child (pairs olds [])) r) (pairs olds []) h in
        let is = old_key m.0.0 (paired olds m.0 m.1) in
        let both : (equal Binary (column r 1) (rowid m.0.0) && true) ≡ true = (and_parts _ _ m.2).1 in
        sym (equal_number (column r 1) (pos n)) ∙ (ap (λ v. equal Binary (column r 1) v) (sym is) ∙ (and_parts _ _ both).0)

    -- what a cascade took from a table whose rows were those of the database
    lost : (child : Table) (before after : Trees) (c : Cascades before after child (pairs olds [])) → before child.tree ≡ db child.tree
        → next child.tree ≡ after child.tree → LosesParts n child.tree db next
    lost child before after c was is = record {
      ids = c.ids;
      rows = is ∙ (lost_rows child before after (pairs olds []) c ∙ ap (λ rows. without_all rows c.ids) was);
      mine = λ id h. let r = c.children.sound id h in (r.0, subst (λ rows. Has rows r.0) was r.1, child_key child r.0 r.2, r.3);
      theirs = λ old h at r id k key is. c.children.complete r id (subst (λ rows. Has rows r) (sym was) k)
          (some_from (is_child_of (work child (pairs olds [])) r) (pairs olds []) (old, []) (in_pairs olds old (old_is old h at)) (child_of child (pairs olds []) n r old (key_of old h at) ∙ key)) is;
    }

    led : CascadesTwice mid next (pairs olds []) → Discards n db next
    led c =
        let first = lost_others deltas_table mid c.between (pairs olds []) c.deltas in
        let last = lost_others values_table c.between next (pairs olds []) c.values in
        record {
          gone = gone;
          all = all;
          each = each;
          rows = last.1.1.0 (λ e. omega (arith, e)) ∙ (first.1.1.0 (λ e. omega (arith, e)) ∙ took.rows);
          values = lost values_table c.between next c.values (first.1.1.1.0 (λ e. omega (arith, e)) ∙ kept.2) refl;
          deltas = lost deltas_table mid c.between c.deltas kept.4 (last.1.1.1.1.1.0 (λ e. omega (arith, e)));
          others = (
            last.0 (λ e. omega (arith, e)) ∙ (first.0 (λ e. omega (arith, e)) ∙ kept.0),
            last.1.0 (λ e. omega (arith, e)) ∙ (first.1.0 (λ e. omega (arith, e)) ∙ kept.1),
            last.1.1.1.1.0 (λ e. omega (arith, e)) ∙ (first.1.1.1.1.0 (λ e. omega (arith, e)) ∙ kept.3),
          );
        }

    settled : (count : ℕ) (b : Bool) → list_any (loses plain (0 ∷ [])) (pairs olds []) ≡ b
        → Leads stable_schema Enforced count mid
        (cons_option (cond b (Some (work values_table (pairs olds []))) None) [] ++ (cons_option (cond b (Some (work deltas_table (pairs olds []))) None) [] ++ []))
        (Ok next)
        → Discards n db next
    settled count true e h = led (cascades count mid next (pairs olds []) h)
    settled count false e h = unled e (ended count mid next h)

  pub written_out : Writes stable_schema Enforced db edit (Ok next) → Discards n db next
  written_out (inl refused) = absurd (let e = refused.2 in cc)
  written_out (inr (inl big)) = absurd (let e = big.3 in cc)
  written_out (inr (inr went)) =
      settled went.0 went.1 went.2.0 (list_any (loses plain (0 ∷ [])) (pairs olds [])) refl
      (subst (λ stack. Leads stable_schema Enforced went.2.0 went.0 stack (Ok next)) (works_are olds) went.2.1)

answers : (n : ℕ) (db : Trees) (found : List Row) → IsAnswer discard_query (overlay db []) (Int (pos n) ∷ []) found
    → AreFound discard_query.filter (db 3) (Int (pos n) ∷ []) found
answers n db found a =
    let same : IsAnswer (rowid_query 3 discard_query.filter) (overlay db []) (Int (pos n) ∷ []) found = record {
      staged = a.staged;
      grouped = a.grouped;
      kept = a.kept;
      distinct = a.distinct;
      ordered = a.ordered;
      same = a.same;
      sorted = a.sorted;
      shown = a.shown;
    } in
    found_rowids 3 discard_query.filter (overlay db []) (Int (pos n) ∷ []) found same

pub discards : (limit : Option ℕ) (n : ℕ) (db : Database) (tally : Tally) (after : Database) (text : List ℕ) → db.schema ≡ stable_schema
    → Placed (db.trees 3)
    → Does limit plain_mode (Int (pos n) ∷ []) db text None discard_command (Ok (tally, after))
    → (after.schema ≡ stable_schema) × Discards n db.trees after.trees
discards limit n db tally after text has placed h =
    let params : Row = Int (pos n) ∷ [] in
    let done =
    went (subst (λ s. Does limit plain_mode params (record db { schema = s }) text None discard_command (Ok (tally, after))) has h) in
    let now : after ≡ record { schema = stable_schema; trees = done.0.trees } =
    ap (λ (p : Tally × Database). p.1) (same_value (went (went done.2).2).2) in
    let queried = went done.1 in
    let out = went queried.2 in
    let trees : done.0.trees ≡ out.0 = ap (λ (it : Written). it.trees) (same_value out.2) in
    let found = answers n db.trees queried.0 (queried.1.answer Null) in
    let made = written_out n db.trees out.0 placed queried.0 found out.1 in
    (ap (λ (d : Database). d.schema) now, subst (Discards n db.trees) (sym (ap (λ (d : Database). d.trees) now ∙ trees)) made)
