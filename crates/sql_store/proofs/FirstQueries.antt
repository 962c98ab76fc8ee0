-- What queries show of the tables of version 1.
use Rattle.std.proofs.Common.{◌≡◌, ℕ, pos, negsuc, List, [], ◌∷◌, ◌++◌, map, codes, length, Bool, true, false, ◌&&◌, cond, filter, flat_map, None}
use Rattle.std.proofs.Common.{inl, inr, refl, sym, ap, subst, ◌∙◌, arith}
use Rattle.std.proofs.lemmas.List.Sorted.{IsPermutation-sym, length_permutation}
use Rattle.sqlite_rules.specs.Lists.{Has}
use Rattle.sqlite.specs.declared.types.Value.TheVariants.{Null, Int, Text}
use Rattle.sqlite.specs.Order.{Row, column}
use Rattle.sqlite.specs.Tree.{Trees}
use Rattle.sqlite.specs.Term.{Term, lit, col, op2}
use Rattle.sqlite.specs.Query.{Query, inner, end, IsAnswer, output, Output}
use Rattle.sqlite.specs.Program.{overlay}
use Rattle.sqlite.specs.Collation.TheVariants.{Binary}
use Rattle.sqlite.specs.Command.TheVariants.{Select}
use Rattle.sqlite_sql.specs.declared.ops.BinaryOp.TheVariants.{Compare}
use Rattle.sqlite_sql.specs.declared.ops.CompareOp.TheVariants.{Eq}
use Rattle.sqlite_sql.specs.Term.{eval_all}
use Rattle.sqlite_schema.specs.Rules.{equal}
use Rattle.sqlite_tied.specs.Compute.{everything}
use Rattle.sqlite.specs.Effect.{Database, Reads, Answers}
use Rattle.sqlite.specs.Listing.{understood, reads_listing}
use Rattle.sqlite.proofs.Callers.{IsPlain, command_of}
use Rattle.stable_store.specs.Stored.{Stored}
use Rattle.store_tables.specs.Tables.{first_schema}
use Rattle.store_tables.specs.Rows.{is_named}
use Rattle.store_tables.specs.Listed.{Lists}
use Rattle.store_tables.specs.Shown.{ShowsPart, ShowsHome, ShowsRecord, ShowsTop, IsText}
use Rattle.store_tables.specs.Holds.{IsViewOf, pair_shown, part_shown, key_shown}
use Rattle.store_tables.specs.First.{FirstTables, first_answered, first_tables_of, HoldsFirst}
use Rattle.store_tables.proofs.Keys.{equal_word}
use Rattle.store_tables.proofs.Listed.{looked}
use Rattle.sql_store.specs.Reading.{IsQueryOf, IsAnswerOf, AreQueriesOf, AreAnswersOf, IsOnlyNumber, IsCounted}
use Rattle.sql_store.specs.First.{Names}
use Rattle.sql_store.specs.Failing.{count_query, first_queries}
use Rattle.sql_store.proofs.Queries.{ordered_query, viewed, has_permuted}
use Rattle.sql_store.proofs.Numbers.{version_text}

-- what is known of a text that is such a query of version 1
pub record IsFirstQuery (sql : List ℕ) (q : Query) : Type 0 where
  pub names : List (List ℕ)
  pub is : command_of (understood first_schema sql) ≡ Select (record { lets = []; body = q }) names
  pub plain : IsPlain (understood first_schema sql)
  pub unlisted : reads_listing first_schema sql ≡ false

pub first_text : (sql : List ℕ) (q : Query) → IsFirstQuery sql q → IsQueryOf first_schema sql
first_text sql q it = record { plain = it.plain; unlisted = it.unlisted }

pub first_answer : (sql : List ℕ) (q : Query) → IsFirstQuery sql q → (d : Database) (rows : List Row) → IsAnswerOf first_schema d sql rows
    → IsAnswer q (overlay d.trees []) [] rows
first_answer sql q it d rows h =
    let read : Answers d (record { lets = []; body = q }) [] rows = subst (λ k. Reads k d [] rows) it.is h in
    read.answer Null

-- ---- the queries of a content

pub first_base : IsFirstQuery (codes "SELECT obj, val FROM base") (ordered_query [] 2 (col 1 0 ∷ col 1 2 ∷ []))
unfolding understood everything
first_base = record { names = codes "obj" ∷ codes "val" ∷ []; is = refl; plain = (refl, refl); unlisted = refl }

pub first_homes : IsFirstQuery (codes "SELECT top, home FROM prepared") (ordered_query [] 3 (col 1 0 ∷ col 1 2 ∷ []))
unfolding understood everything
first_homes = record { names = codes "top" ∷ codes "home" ∷ []; is = refl; plain = (refl, refl); unlisted = refl }

pub first_parts : IsFirstQuery (codes "SELECT top, obj, val FROM prepared_val") (ordered_query [] 4 (col 1 1 ∷ col 1 2 ∷ col 1 3 ∷ []))
unfolding understood everything
first_parts = record { names = codes "top" ∷ codes "obj" ∷ codes "val" ∷ []; is = refl; plain = (refl, refl); unlisted = refl }

pub first_decided : IsFirstQuery (codes "SELECT top FROM decided") (ordered_query [] 6 (col 1 0 ∷ []))
unfolding understood everything
first_decided = record { names = codes "top" ∷ []; is = refl; plain = (refl, refl); unlisted = refl }

pub are_first_queries : AreQueriesOf first_schema first_queries
are_first_queries = (first_text _ _ first_base, (first_text _ _ first_homes, (first_text _ _ first_parts, (first_text _ _ first_decided, tt))))

-- ---- four answers show the tables

pub record AreFirstViews (t : FirstTables) (db : Trees) : Type 0 where
  pub base : IsViewOf pair_shown t.base (db 2)
  pub homes : IsViewOf pair_shown t.homes (db 3)
  pub parts : IsViewOf part_shown t.parts (db 4)
  pub decided : IsViewOf key_shown t.decided (db 6)

shows_first : (sql : List ℕ) (tree : ℕ) (project : List Term) → IsFirstQuery sql (ordered_query [] tree project)
    → (d : Database) (rows : List Row) → IsAnswerOf first_schema d sql rows → IsViewOf (λ r. eval_all project ([] ∷ r ∷ [])) rows (overlay d.trees [] tree)
shows_first sql tree project it d rows h = viewed [] tree project (overlay d.trees []) rows (first_answer sql (ordered_query [] tree project) it d rows h)

pub first_views : (d : Database) (answers : List (List Row)) → AreAnswersOf first_schema d first_queries answers → AreFirstViews (first_answered answers) d.trees
first_views d [] h = absurd h
first_views d (a ∷ []) h = absurd h.1
first_views d (a ∷ b ∷ []) h = absurd h.1.1
first_views d (a ∷ b ∷ e ∷ []) h = absurd h.1.1.1
first_views d (a ∷ b ∷ e ∷ k ∷ []) h = record {
  base = shows_first _ 2 (col 1 0 ∷ col 1 2 ∷ []) first_base d a h.0;
  homes = shows_first _ 3 (col 1 0 ∷ col 1 2 ∷ []) first_homes d b h.1.0;
  parts = shows_first _ 4 (col 1 1 ∷ col 1 2 ∷ col 1 3 ∷ []) first_parts d e h.1.1.0;
  decided = shows_first _ 6 (col 1 0 ∷ []) first_decided d k h.1.1.1.0;
}
first_views d (a ∷ b ∷ e ∷ k ∷ l ∷ more) h = absurd h.1.1.1.1

-- what the answers stand for, the tables hold
pub first_held_by : (t : FirstTables) (db : Trees) (n : ℕ) (c : Stored) → AreFirstViews t db → HoldsFirst 0 t n c → HoldsFirst 1 (first_tables_of db) n c
first_held_by t db n c v h = record {
  base = looked (ShowsPart 1) (ShowsPart 0) pair_shown t.base (db 2) _ v.base.each v.base.from
      (λ r x s. record { object = s.object; part = s.part }) h.base;
  homes = looked (ShowsHome 1) (ShowsHome 0) pair_shown t.homes (db 3) _ v.homes.each v.homes.from
      (λ r x s. record { top = s.top; home = s.home }) h.homes;
  parts = looked (ShowsRecord IsText 1) (ShowsRecord IsText 0) part_shown t.parts (db 4) _ v.parts.each v.parts.from
      (λ r x s. record { top = s.top; object = s.object; part = s.part }) h.parts;
  rising = h.rising;
  decided = looked ShowsTop ShowsTop key_shown t.decided (db 6) _ v.decided.each v.decided.from (λ r x s. s) h.decided;
  counted = h.counted;
  last = h.last;
  greatest = h.greatest;
  next = h.next;
}

-- what a table lists, an answer that shows it lists
listed_by : {X : Type 0} (Shows Shown : Row → X → Type 0) (project : Row → Row) (answer table : List Row) (Is : X → Type 0) → IsViewOf project answer table
    → ((r : Row) (x : X) → Shows r x → Shown (project r) x) → Lists Shows table Is → Lists Shown answer Is
listed_by Shows Shown project answer table Is view reads h = record {
  each = λ a there.
      let r = view.from a there in
      let e = h.each r.0 r.1 in
      (e.0, subst (λ x. Shown x e.0) (sym r.2) (reads r.0 e.0 e.1), e.2);
  from = λ x is. let f = h.from x is in (project f.0, view.each f.0 f.1, reads f.0 x f.2);
}

-- what the tables hold, the answers stand for
pub first_stands_for : (t : FirstTables) (db : Trees) (n : ℕ) (c : Stored) → AreFirstViews t db → HoldsFirst 1 (first_tables_of db) n c → HoldsFirst 0 t n c
first_stands_for t db n c v h = record {
  base = listed_by (ShowsPart 1) (ShowsPart 0) pair_shown t.base (db 2) _ v.base (λ r x s. record { object = s.object; part = s.part }) h.base;
  homes = listed_by (ShowsHome 1) (ShowsHome 0) pair_shown t.homes (db 3) _ v.homes (λ r x s. record { top = s.top; home = s.home }) h.homes;
  parts = listed_by (ShowsRecord IsText 1) (ShowsRecord IsText 0) part_shown t.parts (db 4) _ v.parts
      (λ r x s. record { top = s.top; object = s.object; part = s.part }) h.parts;
  rising = h.rising;
  decided = listed_by ShowsTop ShowsTop key_shown t.decided (db 6) _ v.decided (λ r x s. s) h.decided;
  counted = h.counted;
  last = h.last;
  greatest = h.greatest;
  next = h.next;
}

-- ---- the queries of the numbers

abbrev pub number_query : List ℕ → Query
number_query name = record {
  from = inner 0 end;
  filter = op2 (Compare Eq Binary) (col 1 1) (lit (Text name)) ∷ [];
  group = None;
  project = col 1 2 ∷ [];
  distinct = false;
  collations = [];
  order = [];
  limit = lit (Int (negsuc 0));
  offset = lit (Int (pos 0));
}

pub first_version : IsFirstQuery version_text (number_query (codes "version"))
unfolding understood everything
first_version = record { names = codes "v" ∷ []; is = refl; plain = (refl, refl); unlisted = refl }

pub first_count : IsFirstQuery count_query (number_query (codes "count"))
unfolding understood everything
first_count = record { names = codes "v" ∷ []; is = refl; plain = (refl, refl); unlisted = refl }

-- what passes a test, one by one, is the filtered list
kept_by : {X Y : Type 0} (p q : X → Bool) → ((x : X) → q x ≡ p x) → (f : X → Y) (xs : List X)
    → flat_map (λ x. cond (q x) (f x ∷ []) []) xs ≡ map f (filter p xs)
kept_by p q same f [] = refl
kept_by p q same f (x ∷ xs) =
    ap (λ b. cond b (f x ∷ []) [] ++ flat_map (λ z. cond (q z) (f z ∷ []) []) xs) (same x)
    ∙ (ap (λ l. cond (p x) (f x ∷ []) [] ++ l) (kept_by p q same f xs) ∙ either (p x))
  where
    either : (b : Bool) → cond b (f x ∷ []) [] ++ map f (filter p xs) ≡ map f (cond b (x ∷ filter p xs) (filter p xs))
    either true = refl
    either false = refl

-- a list of one
only_one : {X : Type 0} (xs : List X) (x : X) → length xs ≡ 1 → Has xs x → xs ≡ x ∷ []
only_one [] x one h = absurd h
only_one (y ∷ []) x one (inl same) = ap (λ z. z ∷ []) (sym same)
only_one (y ∷ []) x one (inr none) = absurd none
only_one (y ∷ z ∷ xs) x one h = absurd (omega (arith, one))

and_true : (b : Bool) → (b && true) ≡ b
and_true true = refl
and_true false = refl

-- the answer to the query of a number of which there is one row
pub number_shown : (name : List ℕ) (db : Trees) (rows : List Row) (n : ℕ) → IsAnswer (number_query name) db [] rows → Names (db 0) name n
    → IsOnlyNumber rows n
number_shown name db rows n answer named =
    let q = number_query name in
    let env = λ (r : Row). [] ∷ r ∷ [] in
    let o = output q (env named.row) in
    let staged : answer.staged ≡ env named.row ∷ [] =
    answer.grouped
    ∙ (kept_by (is_named name) (λ r. equal Binary (column r 1) (Text name) && true) (λ r. and_true _ ∙ equal_word (column r 1) name) env (db 0)
    ∙ ap (map env) named.only) in
    let kept : answer.kept ≡ o ∷ [] = answer.distinct ∙ ap (map (output q)) staged in
    let there = has_permuted answer.ordered answer.kept o (IsPermutation-sym _ _ answer.same) (subst (λ l. Has l o) (sym kept) (inl refl)) in
    let ordered : answer.ordered ≡ o ∷ [] = only_one answer.ordered o (length_permutation answer.kept answer.ordered answer.same ∙ ap length kept) there in
    record { row = o.1; only = answer.shown ∙ ap (map (λ (k : Output). k.1)) ordered; number = named.number }

-- so each answer is this number
pub number_there : (sql name : List ℕ) → IsFirstQuery sql (number_query name) → (d : Database) (n : ℕ) → Names (d.trees 0) name n
    → IsCounted first_schema sql d
number_there sql name it d n named rows h = (n, number_shown name (overlay d.trees []) rows n (first_answer sql (number_query name) it d rows h) named)

ints_same : (m n : ℕ) → Int (pos m) ≡ Int (pos n) → m ≡ n
ints_same m n e = cc

heads : {X : Type 0} (x y : X) → x ∷ [] ≡ y ∷ [] → x ≡ y
heads x y e = cc

pub one_number : (rows : List Row) (m n : ℕ) → IsOnlyNumber rows m → IsOnlyNumber rows n → m ≡ n
one_number rows m n a b = ints_same m n (sym a.number ∙ (ap (λ r. column r 0) (heads a.row b.row (sym a.only ∙ b.only)) ∙ b.number))
