-- Queries within a transaction.
use Rattle.std.proofs.Common.{◌≡◌, ◌⊎◌, inl, inr, ℕ, List, [], true, Option, None, Some, slice_get}
use Rattle.std.proofs.Common.{cond, Result, Ok, Err, refl, sym, ap, subst, ◌∙◌, arith}
use Rattle.sqlite.specs.Order.{Row}
use Rattle.sqlite.specs.Tree.{Trees}
use Rattle.sqlite.specs.Table.{Table}
use Rattle.sqlite.specs.Command.{Command}
use Rattle.sqlite.specs.Command.TheVariants.{Insert, InsertOr, Update, Delete}
use Rattle.sqlite.specs.Effect.{Database}
use Rattle.sqlite.specs.Does.{Tally, Does, AtPlace, OnRows}
use Rattle.sqlite.specs.Rows.{Part, Task}
use Rattle.sqlite.specs.declared.run.Mode.{Mode}
use Rattle.sqlite.specs.declared.error.Error.{Error}
use Rattle.sqlite.specs.Listing.{understood}
use Rattle.sqlite.specs.Clock.{timed}
use Rattle.sqlite.specs.Given.{IsPlain}
use Rattle.sqlite.specs.State.{State, HasCleanDisk, Survives, KeepsCommit, Shown, ShowsRows, FailsToQuery, IsTooLate, mode_of}
use Rattle.sqlite.specs.State.{text_of}
use Rattle.sqlite.proofs.Callers.{command_of, reads_as}
use Rattle.sqlite_schema.specs.declared.command.Returning.{Returning}
use Rattle.sqlite_resolve.specs.declared.compiled.Compiled.{Compiled}
use Rattle.store_tables.specs.Tables.{stable_schema}
use Rattle.store_tables.proofs.PartRows.{went, same_value}
use Rattle.sql_store.specs.Reading.{Looks, RunsInside, IsQueryText, IsAnswered}
use Rattle.sql_store.proofs.Queries.{shown_same, failed_leaves}
use Rattle.store_writing.proofs.Inside.{keeps_then}
use Rattle.sql_store.proofs.Ends.{unchanged, undone}

-- ---- a write that shows its rows leaves the schema

at_table : {X A : Type 0} (o : Option X) (P : X → Part A) (a : A) (Q : Type 0) → ((x : X) → P x (Ok a) → Q) → AtPlace P o (Ok a) → Q
at_table None P a Q leads h = absurd (let e = h in cc)
at_table (Some x) P a Q leads h = leads x h

concluded : (task : Task) (mode : Mode) (what : Option Returning) (command : Command) (db : Trees) (tally : Tally) (after : Database)
    → OnRows task mode what command db (Ok (tally, after)) → after.schema ≡ task.schema
concluded task mode what command db tally after h = ap (λ (p : Tally × Database). p.1.schema) (same_value (went (went (went h).2).2).2)

module _ (limit : Option ℕ) (mode : Mode) (params : Row) (db : Database) (what : Option Returning) (tally : Tally) (after : Database) where
  abbrev task_on : Table → Task
  task_on t = record { limit = limit; keys = mode.keys; schema = db.schema; table = t; params = params }

  pub on_table : (at : ℕ) (command : Command)
      → AtPlace (λ t. OnRows (task_on t) mode what command db.trees) (slice_get db.schema.tables at) (Ok (tally, after))
      → after.schema ≡ db.schema
  on_table at command h =
      at_table (slice_get db.schema.tables at) (λ t. OnRows (task_on t) mode what command db.trees) (tally, after) (after.schema ≡ db.schema)
      (λ t k. concluded (task_on t) mode what command db.trees tally after k) h

module _ (limit : Option ℕ) (mode : Mode) (params : Row) (db : Database) (text : List ℕ) (what : Returning) (tally : Tally) (after : Database) where
  does_schema : (command : Command) → Does limit mode params db text (Some what) command (Ok (tally, after)) → after.schema ≡ db.schema
  does_schema (Insert at from) h = on_table limit mode params db (Some what) tally after at (Insert at from) h
  does_schema (InsertOr at way from clauses) h = on_table limit mode params db (Some what) tally after at (InsertOr at way from clauses) h
  does_schema (Update at q) h = on_table limit mode params db (Some what) tally after at (Update at q) h
  does_schema (Delete at q) h = on_table limit mode params db (Some what) tally after at (Delete at q) h
  does_schema _ h = absurd (let e = h in cc)

module _ (sql : List ℕ) (old new : State) where
  rows_schema : (c : Compiled) (full : Row) (rows : List Row) (what : Option Returning) → ShowsRows old new sql c full rows what
      → new.now.schema ≡ old.now.schema
  rows_schema c full rows None h = ap (λ (d : Database). d.schema) h.3.0.now_is
  rows_schema c full rows (Some what) h =
      does_schema old.step_limit (mode_of old) full old.now (text_of sql c) what h.1.tally new.now c.command h.1.changed

  pub shown_schema : (rows : List Row) → Shown sql [] old new rows → new.now.schema ≡ old.now.schema
  unfolding Shown
  shown_schema rows h = rows_schema h.0 (timed [] h.0.formats h.1.now) rows h.0.returning h.2

  -- nothing was committed, and the transaction goes on
  abbrev GoesOn : Type 0
  GoesOn = KeepsCommit old new × (new.in_transaction ≡ true)

  rows_within : (c : Compiled) (full : Row) (rows : List Row) (what : Option Returning) → old.in_transaction ≡ true
      → ShowsRows old new sql c full rows what → GoesOn
  rows_within c full rows None within h = (unchanged old new h.3, h.3.0.mode ∙ within)
  rows_within c full rows (Some what) within h = let s = h.1.shown in (
    record { was_open = λ _. s.was_open; committed = λ _. s.committed_is ∙ ap (λ b. cond b old.committed new.now) within },
    s.mode ∙ within,
  )

  shown_within : (rows : List Row) → old.in_transaction ≡ true → Shown sql [] old new rows → GoesOn
  unfolding Shown
  shown_within rows within h = rows_within h.0 (timed [] h.0.formats h.1.now) rows h.0.returning within h.2
      -- ---- one query

  pub looked : {T E : Type 0} (rows : List Row) (Sees : T → Type 0) (x : T) → old.in_transaction ≡ true → IsQueryText sql
      → Shown sql [] old new rows → (IsAnswered old.now sql rows → Sees x) → Looks {T = T} {E = E} old new Sees (Ok x)
  looked rows Sees x within text shown sees = record {
    inside = let on = shown_within rows within shown in record { kept = on.0; within = λ _. on.1 };
    seen = λ schema.
        let known : old.now.schema ≡ stable_schema = sym (shown_schema rows shown) ∙ schema in (
          (shown_same sql old new rows (subst (λ s. IsPlain (understood s sql)) (sym known) text.plain) shown).0.now_is,
          sees (reads_as sql [] old new stable_schema known (command_of (understood stable_schema sql)) refl text.plain text.unlisted rows shown),
        );
  }

  pub unlooked : {T E : Type 0} (e : Error) (d : E) (Sees : T → Type 0) → FailsToQuery sql [] old new e ⊎ IsTooLate sql [] old new e
      → Looks {T = T} {E = E} old new Sees (Err d)
  unlooked e d Sees fails = record {
    inside = record {
      kept = elim fails [
        | inl failed ↦ elim (failed_leaves sql old new e failed) [ inl same ↦ unchanged old new same | inr back ↦ undone old new back ]
        | inr late ↦ unchanged old new late.5
      ];
      within = λ _. tt;
    };
    seen = tt;
  }

-- ---- what follows from a look

pub clean_before : (a b : State) (P : Trees → Type 0) → Survives a b P → HasCleanDisk b → HasCleanDisk a
clean_before a b P s clean = omega (arith, s.clean)

-- the same, of another answer
pub looks_ok : {T U E F : Type 0} (old new : State) (P : T → Type 0) (Q : U → Type 0) (x : T) (y : U) → Looks {T = T} {E = E} old new P (Ok x)
    → (new.now.schema ≡ stable_schema → new.now ≡ old.now → P x → Q y) → Looks {T = U} {E = F} old new Q (Ok y)
looks_ok old new P Q x y h leads = record {
  inside = record { kept = h.inside.kept; within = h.inside.within };
  seen = λ schema. let s = h.seen schema in (s.0, leads schema s.0 s.1);
}

pub looks_err : {T U E F : Type 0} (old new : State) (P : T → Type 0) (Q : U → Type 0) (r : Result T E) (e : F) → Looks old new P r
    → Looks {T = U} {E = F} old new Q (Err e)
looks_err old new P Q r e h = record { inside = record { kept = h.inside.kept; within = λ _. tt }; seen = tt }

-- nothing was looked at
pub looks_none : {T E : Type 0} (s : State) (P : T → Type 0) (x : T) → s.in_transaction ≡ true → KeepsCommit s s → P x → Looks {T = T} {E = E} s s P (Ok x)
looks_none s P x within kept p = record { inside = record { kept = kept; within = λ _. within }; seen = λ schema. (refl, p) }

-- one look after another: what the first saw is seen still
pub then_looks : {T U E F : Type 0} (a b c : State) (P : T → Type 0) (Q : U → Type 0) (x : T) (r : Result U F) → a.in_transaction ≡ true → Looks {T = T} {E = E} a b P (Ok x)
    → (b.in_transaction ≡ true → Looks b c (λ y. b.now ≡ a.now → P x → Q y) r) → Looks a c Q r
then_looks a b c P Q x (Ok y) within first next =
    let second = next (first.inside.within within) in
    record {
      inside = record { kept = keeps_then a b c first.inside.kept second.inside.kept; within = λ w. second.inside.within (first.inside.within w) };
      seen = λ schema.
          let s = second.seen schema in
          let f = first.seen (ap (λ (d : Database). d.schema) (sym s.0) ∙ schema) in
          (s.0 ∙ f.0, s.1 f.0 f.1);
    }
then_looks a b c P Q x (Err e) within first next =
    let second = next (first.inside.within within) in
    record { inside = record { kept = keeps_then a b c first.inside.kept second.inside.kept; within = λ _. tt }; seen = tt }

-- a write, and then a look
pub then_inside : {T U E F : Type 0} (a b c : State) (Sees : U → Type 0) (x : T) (r : Result U F) → RunsInside {T = T} {E = E} a b (Ok x)
    → Looks b c Sees r → RunsInside a c r
then_inside a b c Sees x r first next = record { kept = keeps_then a b c first.kept next.inside.kept; within = λ w. next.inside.within (first.within w) }
