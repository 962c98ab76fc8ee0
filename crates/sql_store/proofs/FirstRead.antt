-- A database of version 1, as it is read.
use Rattle.std.proofs.Common.{◌≡◌, ℕ, pos, List, [], ◌∷◌, length, codes, true, false, Vec, Global, Result, Ok, Err, IfOk, IsTrue, sym, ap, subst, ◌∙◌, arith}
use Rattle.std.proofs.lemmas.Bool.{and_parts}
use Rattle.std.proofs.lemmas.List.{length-map}
use Rattle.sqlite.specs.declared.types.Value.TheVariants.{Int}
use Rattle.sqlite.specs.Order.{Row}
use Rattle.sqlite.specs.Term.{col}
use Rattle.sqlite.specs.Program.{overlay}
use Rattle.sqlite.specs.Effect.{Database}
use Rattle.sqlite.specs.State.{State, HasCleanDisk}
use Rattle.sqlite_value.specs.Keys.{plain}
use Rattle.sqlite_trees.specs.Tree.{has_rowid}
use Rattle.sqlite_rules.specs.Lists.{Has}
use Rattle.sqlite_rules.proofs.ListLemmas.{all_has}
use Rattle.sqlite_schema.specs.declared.schema.Constraint.TheVariants.{Unique}
use Rattle.sqlite_schema.specs.Rules.{clashes, passes}
use Rattle.stable_store.specs.Stored.{Stored}
use Rattle.stable_store.specs.Held.{held}
use Rattle.stable_store.specs.declared.kept.Kept.{Kept}
use Rattle.stable_store.specs.declared.fault.StoreFault.{StoreFault}
use Rattle.store_tables.specs.Tables.{first_schema, prepared_val}
use Rattle.store_tables.specs.Shown.{IsText}
use Rattle.store_tables.specs.Answered.{rows_of}
use Rattle.store_tables.specs.Keyed.{AreKeyedFirst, is_part_shown}
use Rattle.store_tables.specs.First.{first_answered, first_tables_of, HoldsFirst}
use Rattle.sql_store.specs.declared.layout.Layout.{Layout}
use Rattle.sql_store.specs.declared.layout.Layout.TheVariants.{First}
use Rattle.sql_store.specs.Layouts.{IsLayout}
use Rattle.sql_store.specs.Reading.{QuietsWith, ShowsTheSame, LooksUp, AreAnswersOf, IsNumberOf}
use Rattle.sql_store.specs.First.{IsFirstStore, IsFirst}
use Rattle.sql_store.specs.Failing.{count_query, first_queries}
use Rattle.sql_store.proofs.Sequences.{ok_leads, and_reads}
use Rattle.sql_store.proofs.Found.{same_still}
use Rattle.sql_store.proofs.Numbers.{version_text}
use Rattle.sql_store.proofs.Rowids.{as_many}
use Rattle.sql_store.proofs.Recognized.{not_true, numbers_in, comes_once, as_many_answers}
use Rattle.sql_store.proofs.FirstContent.{OneSpelling, one_first}
use Rattle.sql_store.proofs.FirstQueries.{first_answer, first_base, first_homes, first_parts, first_views, first_held_by, first_stands_for}
use Rattle.sql_store.proofs.FirstQueries.{first_version, first_count, number_query, number_shown, one_number}

-- ---- what stays over a look

pub first_quiets : (s : State) (c : Stored) → IsFirst s c → QuietsWith first_schema s
first_quiets s c first clean up = let r = first clean up in record { schema = r.schema; mode = r.mode; settled = r.settled }

pub first_still : {T : Type 0} (a b : State) (c : Stored) (P : Database → T → Type 0) (r : Result T StoreFault) → IsFirst a c → LooksUp a b P r → IsFirst b c
first_still a b c P r first h clean up =
    let same = same_still a b P r h clean up in
    let rest = first (h.clean clean) same.was_open in
    record {
      schema = ap (λ (d : Database). d.schema) same.now ∙ rest.schema;
      store = subst (λ (d : Database). IsFirstStore d.trees c) (sym same.now) rest.store;
      mode = same.mode ∙ rest.mode;
      settled = same.now ∙ (rest.settled ∙ sym same.committed);
    }

pub is_first : (a b : State) (layout : Layout) → LooksUp a b (λ d l. IsLayout d.schema l) (Ok layout) → HasCleanDisk b → (c : Stored) → IsFirst a c
    → layout ≡ First
is_first a b layout looked clean c first = let ok = looked.ok clean in ok.1.first (first (looked.clean clean) ok.0.was_open).schema

-- what was read was understood, or not, in a database that was open
pub then_seen : {T U : Type 0} (old new : State) (P : Database → T → Type 0) (Q : Database → U → Type 0) (x : T) (r : Result U StoreFault)
    → LooksUp old new P (Ok x) → (HasCleanDisk old → IsTrue old.is_open → P old.now x → IfOk r (Q old.now)) → LooksUp old new Q r
then_seen old new P Q x (Ok y) first leads = record {
  clean = first.clean;
  ok = λ clean. let h = first.ok clean in (h.0, leads (first.clean clean) h.0.was_open h.1);
  err = λ _. tt;
  leaves = first.leaves;
}
then_seen old new P Q x (Err e) first leads = record { clean = first.clean; ok = λ _. tt; err = λ clean up. (first.ok clean).0; leaves = first.leaves }

-- ---- its numbers

pub version_is : (d : Database) (c : Stored) (n : ℕ) → IsFirstStore d.trees c → IsNumberOf first_schema version_text d n → n ≡ 1
version_is d c n store seen =
    one_number seen.0 n 1 seen.2
    (number_shown (codes "version") (overlay d.trees []) seen.0 1 (first_answer version_text (number_query (codes "version")) first_version d seen.0 seen.1) store.version)

pub count_is : (d : Database) (c : Stored) (n : ℕ) → IsFirstStore d.trees c → IsNumberOf first_schema count_query d n → n ≡ c.count
count_is d c n store seen =
    one_number seen.0 n c.count seen.2
    (number_shown (codes "count") (overlay d.trees []) seen.0 c.count (first_answer count_query (number_query (codes "count")) first_count d seen.0 seen.1) store.count)

-- ---- its answers have no key twice

module _ (d : Database) (c : Stored) (store : IsFirstStore d.trees c) where
  parts_differ : (r : Row) → Has (d.trees 4) r → clashes plain (1 ∷ 2 ∷ []) (d.trees 4) r ≡ false
  parts_differ r h = not_true _ (and_parts _ _ (all_has (λ row. passes Unique first_schema d.trees (record prepared_val { tree = 4 }) row ≡ true) (d.trees 4) r (store.sound.obeys.rules Unique).1.1.1.0 h)).0

  pub first_keyed : (answers : List (List Row)) → AreAnswersOf first_schema d first_queries answers → AreKeyedFirst (first_answered answers)
  first_keyed [] h = absurd h
  first_keyed (a ∷ []) h = absurd h.1
  first_keyed (a ∷ b ∷ []) h = absurd h.1.1
  first_keyed (a ∷ b ∷ e ∷ []) h = absurd h.1.1.1
  first_keyed (a ∷ b ∷ e ∷ k ∷ []) h = record {
    base = λ n. omega (arith, as_many (has_rowid (pos n)) [] 2 (col 1 0 ∷ col 1 2 ∷ []) (overlay d.trees []) a (first_answer _ _ first_base d a h.0), store.placed.1.0.once (Int (pos n)));
    homes = λ n. omega (arith, as_many (has_rowid (pos n)) [] 3 (col 1 0 ∷ col 1 2 ∷ []) (overlay d.trees []) b (first_answer _ _ first_homes d b h.1.0), store.placed.1.1.0.once (Int (pos n)));
    parts = λ top object. omega (
      arith,
      as_many (is_part_shown top object) [] 4 (col 1 1 ∷ col 1 2 ∷ col 1 3 ∷ []) (overlay d.trees []) e (first_answer _ _ first_parts d e h.1.1.0),
      comes_once (d.trees 4) store.placed.1.1.1.0 top object (numbers_in IsText (d.trees 4) _ store.holds.parts top object) parts_differ,
    );
  }
  first_keyed (a ∷ b ∷ e ∷ k ∷ l ∷ more) h = absurd h.1.1.1.1

-- ---- its content, by its count and its answers

module _ (a b d : State) (c : Stored) (first : IsFirst a c) (n : ℕ) (number : LooksUp a b (IsNumberOf first_schema count_query) (Ok n)) (all : Vec (Vec Row Global) Global) where
  abbrev Shown : Database → Vec (Vec Row Global) Global → Type 0
  Shown x v = AreAnswersOf first_schema x first_queries (rows_of v.items)

  pub content_read : OneSpelling → (r : Result Kept StoreFault) → LooksUp b d Shown (Ok all)
      → IfOk r (λ kept. HoldsFirst 0 (first_answered (rows_of all.items)) n (held kept)) → LooksUp a d (λ _ kept. held kept ≡ c) r
  content_read spelling r answers found =
      then_seen a d (λ x v. ShowsTheSame a b × (IsNumberOf first_schema count_query x n × Shown x v)) (λ _ kept. held kept ≡ c) all r
      (and_reads a b d (IsNumberOf first_schema count_query) Shown n (Ok all) number answers)
      (λ clean up seen.
      let rest = first clean up in
      let views = first_views a.now (rows_of all.items) seen.1.1 in
      ok_leads r (λ kept. HoldsFirst 0 (first_answered (rows_of all.items)) n (held kept)) (λ kept. held kept ≡ c)
      (λ kept h. one_first spelling 1 (first_tables_of a.now.trees) n c.count (count_is a.now c n rest.store seen.1.0) (held kept) c
      (first_held_by (first_answered (rows_of all.items)) a.now.trees n (held kept) views h) rest.store.holds) found)

  pub first_told : (xs : List (Vec Row Global)) → xs ≡ all.items → HasCleanDisk d → LooksUp b d Shown (Ok all)
      → (length xs ≡ 4 → AreKeyedFirst (first_answered (rows_of xs)) → HoldsFirst 0 (first_answered (rows_of xs)) n c → ⊥) → ⊥
  first_told xs same clean answers never =
      let looked = answers.ok clean in
      let before = answers.clean clean in
      let rest = first_still a b c (IsNumberOf first_schema count_query) (Ok n) first number before looked.0.was_open in
      let counted = number.ok before in
      let began = first (number.clean before) counted.0.was_open in
      let count : c.count ≡ n = sym (count_is a.now c n began.store counted.1) in
      let holds = first_stands_for (first_answered (rows_of all.items)) b.now.trees c.count c (first_views b.now (rows_of all.items) looked.1) rest.store.holds in
      subst (λ l. (length l ≡ 4 → AreKeyedFirst (first_answered (rows_of l)) → HoldsFirst 0 (first_answered (rows_of l)) n c → ⊥) → ⊥) (sym same)
      (λ no. no (sym (length-map all.items (λ (v : Vec Row Global). v.items)) ∙ as_many_answers first_schema b.now first_queries (rows_of all.items) looked.1)
      (first_keyed b.now c rest.store (rows_of all.items) looked.1)
      (subst (λ k. HoldsFirst 0 (first_answered (rows_of all.items)) k c) count holds)) never
