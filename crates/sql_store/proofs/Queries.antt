-- What queries show of the tables of a store.
use Rattle.std.proofs.Common.{◌≡◌, ◌⊎◌, inl, inr, ℕ, pos, negsuc, List, [], ◌∷◌, ◌++◌, map, codes, Bool, true, false, cond, flat_map, None}
use Rattle.std.proofs.Common.{Some, Option, Ok, Err, IsPermutation, IsTrue, refl, sym, ap, subst, ◌∙◌, arith}
use Rattle.std.proofs.lemmas.List.Sorted.{IsPermutation-sym}
use Rattle.sqlite_trees.proofs.ListLemmas.{all-permutation}
use Rattle.sqlite_rules.specs.Lists.{Has}
use Rattle.sqlite_rules.proofs.ListLemmas.{all_has, all_from, has_right}
use Rattle.sqlite_rules.proofs.ProbeLemmas.{has_mapped, mapped_has}
use Rattle.sqlite.specs.declared.types.Value.TheVariants.{Null, Int}
use Rattle.sqlite.specs.Order.{Row}
use Rattle.sqlite.specs.Tree.{Trees}
use Rattle.sqlite.specs.Schema.{Schema}
use Rattle.sqlite.specs.Term.{Term, lit, col}
use Rattle.sqlite.specs.Query.{Query, inner, end, IsAnswer, output, Output}
use Rattle.sqlite.specs.Program.{overlay}
use Rattle.sqlite.specs.Collation.TheVariants.{Binary}
use Rattle.sqlite_value.specs.Keys.{ascending}
use Rattle.sqlite_value.specs.declared.keys.Key.{Key}
use Rattle.sqlite_sql.specs.Term.{eval_all}
use Rattle.sqlite_sql.specs.Query.{matches}
use Rattle.sqlite_tied.specs.Compute.{everything}
use Rattle.sqlite.specs.Effect.{Database, Reads, Answers}
use Rattle.sqlite.specs.Listing.{understood}
use Rattle.sqlite.specs.State.{State, Shown, FailsToQuery, CommitsShowing, Survives, IsUnchanged, IsRolledBack, HasCleanDisk, ShowsRows}
use Rattle.sqlite.specs.State.{IsNotRun, FailsToShow}
use Rattle.sqlite.specs.Clock.{timed}
use Rattle.sqlite_schema.specs.declared.command.Returning.{Returning}
use Rattle.sqlite_resolve.specs.declared.compiled.Compiled.{Compiled}
use Rattle.sqlite.specs.declared.error.Error.{Error}
use Rattle.sqlite.proofs.Callers.{IsPlain, command_of, reads_as, never_commits}
use Rattle.stable_store.specs.declared.fault.StoreFault.{StoreFault}
use Rattle.store_tables.proofs.Queries.{IsQuery, base_query, homes_query, values_query, deltas_query, decided_query}
use Rattle.store_tables.specs.Holds.{IsViewOf, AreViews}
use Rattle.store_tables.specs.Answered.{queries, answered}
use Rattle.sql_store.specs.Reading.{IsQuietWith, QuietsWith, ShowsTheSame, LooksUp, IsQueryOf, IsAnswerOf, IsQueryText, IsAnswered, AreQueryTexts, AreAnswered}

-- these columns of the rows of a table, in some order
abbrev pub ordered_query : List (Term × Key) → ℕ → List Term → Query
ordered_query order tree project = record {
  from = inner tree end;
  filter = [];
  group = None;
  project = project;
  distinct = false;
  collations = [];
  order = order;
  limit = lit (Int (negsuc 0));
  offset = lit (Int (pos 0));
}

pub numbers_query : IsQuery (codes "SELECT rowid, k, v FROM meta ORDER BY rowid") (ordered_query ((col 1 0, ascending Binary) ∷ []) 0 (col 1 0 ∷ col 1 1 ∷ col 1 2 ∷ []))
unfolding understood everything
numbers_query = record { names = codes "rowid" ∷ codes "k" ∷ codes "v" ∷ []; is = refl; plain = (refl, refl); unlisted = refl }

has_matched : {X Y : Type 0} (p : X → Bool) (f : X → Y) (xs : List X) (y : Y) → Has (flat_map (λ x. cond (p x) (f x ∷ []) []) xs) y
    → (x : X) × Has xs x × (p x ≡ true) × (y ≡ f x)
has_matched p f [] y h = absurd h
has_matched {X} {Y} p f (x ∷ xs) y h = go (p x) refl h (has_matched p f xs y)
  where
    go : (b : Bool) → p x ≡ b → Has (cond b (f x ∷ []) [] ++ flat_map (λ z. cond (p z) (f z ∷ []) []) xs) y
        → (Has (flat_map (λ z. cond (p z) (f z ∷ []) []) xs) y → (z : X) × Has xs z × (p z ≡ true) × (y ≡ f z))
        → (z : X) × Has (x ∷ xs) z × (p z ≡ true) × (y ≡ f z)
    go true is (inl same) later = (x, inl refl, is, same)
    go true is (inr there) later = let r = later there in (r.0, inr r.1, r.2, r.3)
    go false is there later = let r = later there in (r.0, inr r.1, r.2, r.3)

matched_has : {X Y : Type 0} (p : X → Bool) (f : X → Y) (xs : List X) (x : X) → Has xs x → p x ≡ true
    → Has (flat_map (λ z. cond (p z) (f z ∷ []) []) xs) (f x)
matched_has p f [] x h passes = absurd h
matched_has p f (z ∷ xs) x (inl same) passes = rw (← same, passes) (inl refl)
matched_has p f (z ∷ xs) x (inr later) passes =
    has_right (cond (p z) (f z ∷ []) []) (flat_map (λ w. cond (p w) (f w ∷ []) []) xs) (f x) (matched_has p f xs x later passes)

pub has_permuted : {X : Type 0} (xs ys : List X) (x : X) → IsPermutation xs ys → Has ys x → Has xs x
has_permuted xs ys x same = all_has (Has xs) ys x (all-permutation (Has xs) xs ys same (all_from (Has xs) xs (λ e h. h)))

pub viewed : (order : List (Term × Key)) (tree : ℕ) (project : List Term) (db : Trees) (found : List Row)
    → IsAnswer (ordered_query order tree project) db [] found
    → IsViewOf (λ r. eval_all project ([] ∷ r ∷ [])) found (db tree)
viewed order tree project db found answer =
    let q = ordered_query order tree project in
    let test = λ (r : Row). true in
    let env = λ (r : Row). [] ∷ r ∷ [] in
    let all = matches db [] (inner tree end) ([] ∷ []) in
    let kept : answer.kept ≡ map (output q) all = answer.distinct ∙ ap (map (output q)) answer.grouped in
    record {
      each = λ r h.
          let o = output q (env r) in
          let there = subst (λ l. Has l o) (sym kept) (mapped_has (output q) all (env r) (matched_has test env (db tree) r h refl)) in
          subst (λ l. Has l (eval_all project (env r))) (sym answer.shown) (mapped_has (λ (k : Output). k.1) answer.ordered o (has_permuted answer.ordered answer.kept o (IsPermutation-sym _ _ answer.same) there));
      from = λ x h.
          let o = has_mapped (λ (k : Output). k.1) answer.ordered x (subst (λ l. Has l x) answer.shown h) in
          let e =
          has_mapped (output q) all o.0 (subst (λ l. Has l o.0) kept (has_permuted answer.kept answer.ordered o.0 answer.same o.1)) in
          let r = has_matched test env (db tree) e.0 e.1 in
          (r.0, r.1, o.2 ∙ ap (λ (k : Output). k.1) (e.2 ∙ ap (output q) r.3));
    }

-- ---- the answers to the queries of a content

-- the answer to a query of a known text
pub answer_of : (sql : List ℕ) (q : Query) → IsQuery sql q → (d : Database) (rows : List Row) → IsAnswered d sql rows → IsAnswer q (overlay d.trees []) [] rows
answer_of sql q it d rows h =
    let read : Answers d (record { lets = []; body = q }) [] rows = subst (λ k. Reads k d [] rows) it.is h in
    read.answer Null

pub shows : (sql : List ℕ) (order : List (Term × Key)) (tree : ℕ) (project : List Term) → IsQuery sql (ordered_query order tree project)
    → (d : Database) (rows : List Row) → IsAnswered d sql rows → IsViewOf (λ r. eval_all project ([] ∷ r ∷ [])) rows (overlay d.trees [] tree)
shows sql order tree project it d rows h = viewed order tree project (overlay d.trees []) rows (answer_of sql (ordered_query order tree project) it d rows h)

pub text_of : (sql : List ℕ) (q : Query) → IsQuery sql q → IsQueryText sql
text_of sql q it = record { plain = it.plain; unlisted = it.unlisted }

pub are_queries : AreQueryTexts queries
are_queries = (
  text_of _ _ numbers_query,
  (text_of _ _ base_query, (text_of _ _ homes_query, (text_of _ _ values_query, (text_of _ _ deltas_query, (text_of _ _ decided_query, tt))))),
)

-- six answers show the tables
pub views : (d : Database) (answers : List (List Row)) → AreAnswered d queries answers → AreViews (answered answers) d.trees
views d [] h = absurd h
views d (a ∷ []) h = absurd h.1
views d (a ∷ b ∷ []) h = absurd h.1.1
views d (a ∷ b ∷ c ∷ []) h = absurd h.1.1.1
views d (a ∷ b ∷ c ∷ e ∷ []) h = absurd h.1.1.1.1
views d (a ∷ b ∷ c ∷ e ∷ f ∷ []) h = absurd h.1.1.1.1.1
views d (a ∷ b ∷ c ∷ e ∷ f ∷ k ∷ []) h = record {
  numbers = shows _ ((col 1 0, ascending Binary) ∷ []) 0 (col 1 0 ∷ col 1 1 ∷ col 1 2 ∷ []) numbers_query d a h.0;
  base = shows _ [] 2 (col 1 0 ∷ col 1 2 ∷ []) base_query d b h.1.0;
  homes = shows _ [] 3 (col 1 0 ∷ col 1 2 ∷ []) homes_query d c h.1.1.0;
  values = shows _ [] 4 (col 1 1 ∷ col 1 2 ∷ col 1 3 ∷ []) values_query d e h.1.1.1.0;
  deltas = shows _ [] 7 (col 1 1 ∷ col 1 2 ∷ col 1 3 ∷ []) deltas_query d f h.1.1.1.1.0;
  decided = shows _ [] 6 (col 1 0 ∷ []) decided_query d k h.1.1.1.1.1.0;
}
views d (a ∷ b ∷ c ∷ e ∷ f ∷ k ∷ l ∷ more) h = absurd h.1.1.1.1.1.1

-- ---- what a call of a query leaves

opened_by : (sql : List ℕ) (old new : State) (c : Compiled) (full : Row) (rows : List Row) (what : Option Returning)
    → ShowsRows old new sql c full rows what → IsTrue old.is_open
opened_by sql old new c full rows None h = h.3.0.was_open
opened_by sql old new c full rows (Some what) h = h.1.shown.was_open

was_open : (sql : List ℕ) (old new : State) (rows : List Row) → Shown sql [] old new rows → IsTrue old.is_open
unfolding Shown
was_open sql old new rows h = opened_by sql old new h.0 (timed [] h.0.formats h.1.now) rows h.0.returning h.2

pub shown_same : (sql : List ℕ) (old new : State) (rows : List Row) → IsPlain (understood old.now.schema sql) → Shown sql [] old new rows
    → IsUnchanged old new
unfolding Shown
shown_same sql old new rows plain h =
    let none = (subst IsPlain h.1.is plain).0 in
    (subst (ShowsRows old new sql h.0 (timed [] h.0.formats h.1.now) rows) none h.2).3

pub the_same : (old new : State) → IsUnchanged old new → ShowsTheSame old new
the_same old new h =
    record { was_open = h.0.was_open; is_open = h.0.is_open; now = h.0.now_is; committed = h.0.committed_is; mode = h.0.mode }

showing_failed : (sql : List ℕ) (old new : State) (c : Compiled) (full : Row) (e : Error) (what : Option Returning)
    → FailsToShow old new sql c full e what → IsUnchanged old new ⊎ IsRolledBack old new
showing_failed sql old new c full e None h = inl h.3
showing_failed sql old new c full e (Some what) (inl refused) = inl refused.1
showing_failed sql old new c full e (Some what) (inr failed) = inr failed.3

pub failed_leaves : (sql : List ℕ) (old new : State) (e : Error) → FailsToQuery sql [] old new e
    → IsUnchanged old new ⊎ IsRolledBack old new
unfolding FailsToQuery IsNotRun
failed_leaves sql old new e (inl (inl same)) = inl same.1
failed_leaves sql old new e (inl (inr failed)) = inr failed.3
failed_leaves sql old new e (inr h) = showing_failed sql old new h.0 (timed [] h.0.formats h.1.now) e h.0.returning h.2

pub same_after : {tables : Schema} (old new : State) → IsUnchanged old new ⊎ IsRolledBack old new → (IsTrue old.is_open → IsQuietWith tables old) → IsTrue new.is_open
    → ShowsTheSame old new
same_after old new (inl same) quiet up = the_same old new same
same_after old new (inr back) quiet up =
    let opened = back.was_open up in
    let q = quiet opened in
    record { was_open = opened; is_open = up; now = (back.undone up).0 ∙ sym q.settled; committed = (back.undone up).1; mode = back.autocommit ∙ sym q.mode }

-- one query
module _ (tables : Schema) (sql : List ℕ) (old new : State) (text : IsQueryOf tables sql) (quiet : QuietsWith tables old) (survives : Survives old new (CommitsShowing sql [] old)) where
  was_clean : HasCleanDisk new → HasCleanDisk old
  was_clean clean = omega (arith, survives.clean)

  plainly : HasCleanDisk new → IsTrue old.is_open → IsPlain (understood old.now.schema sql)
  plainly clean up = subst (λ s. IsPlain (understood s sql)) (sym (quiet (was_clean clean) up).schema) text.plain

  left : HasCleanDisk new → IsTrue old.is_open → (db : Trees) → new.may_leave db → old.may_leave db
  left clean up db may =
      elim (survives.crash clean db may) [ inl before ↦ before | inr made ↦ absurd (never_commits sql [] old db (plainly clean up) made) ]

  pub looked_up : {T : Type 0} (rows : List Row) (Shows : Database → T → Type 0) (x : T) → (HasCleanDisk new → Shown sql [] old new rows)
      → (IsAnswerOf tables old.now sql rows → Shows old.now x) → LooksUp old new Shows (Ok x)
  looked_up rows Shows x shown so = record {
    clean = was_clean;
    ok = λ clean.
        let up = was_open sql old new rows (shown clean) in
        let schema = (quiet (was_clean clean) up).schema in (
          the_same old new (shown_same sql old new rows (plainly clean up) (shown clean)),
          so (reads_as sql [] old new tables schema (command_of (understood tables sql)) refl text.plain text.unlisted rows (shown clean)),
        );
    err = λ clean. tt;
    leaves = left;
  }

  pub not_looked_up : {T : Type 0} (e : Error) (Shows : Database → T → Type 0) (fault : StoreFault)
      → (HasCleanDisk new → FailsToQuery sql [] old new e) → LooksUp old new Shows (Err fault)
  not_looked_up e Shows fault fails = record {
    clean = was_clean;
    ok = λ clean. tt;
    err = λ clean up. same_after old new (failed_leaves sql old new e (fails clean)) (quiet (was_clean clean)) up;
    leaves = left;
  }
