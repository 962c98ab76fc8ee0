-- What a statement of known text leaves.
use Rattle.std.proofs.Common.{◌≡◌, ◌⊎◌, inl, inr, ℕ, ◌≤◌, ℤ, pos, List, [], ◌∷◌, codes, Bool, true, false, not, cond, None, Option, Ok, Err, Result, refl, sym, ap, nat_cmp}
use Rattle.std.proofs.Common.{subst, subst₂, ◌∙◌, ◌++◌, append-nil, IsTrue, OnOk, OnErr, arith, ◌<◌, suc, length, map as each}
use Rattle.std.specs.List.{AllByRecursion}
use Rattle.std.proofs.lemmas.Bool.{cases_Bool}
use Rattle.std.specs.FinMap as map
use Rattle.sqlite.specs.declared.types.Value.TheVariants.{Int}
use Rattle.sqlite.specs.Order.{Row}
use Rattle.sqlite.specs.Tree.{Trees}
use Rattle.sqlite.specs.Schema.{Schema}
use Rattle.sqlite.specs.Command.{Command}
use Rattle.sqlite.specs.Command.TheVariants.{InsertOr, Insert, Update, Delete, Commit, Release, Select, Rows, CreateTable, CreateIndex}
use Rattle.sqlite.specs.Command.TheVariants.{CreateView, DropTable, DropIndex, DropView, Begin, Rollback, Savepoint, RollbackTo, Nothing}
use Rattle.sqlite_schema.specs.declared.command.Returning.{Returning}
use Rattle.sqlite.specs.Does.{Tally, Does}
use Rattle.sqlite.specs.Effect.{Database, IsDatabase}
use Rattle.sqlite.specs.Listing.{understood}
use Rattle.sqlite.specs.Clock.{timed}
use Rattle.sqlite.specs.declared.error.Error.{Error}
use Rattle.sqlite.specs.State.{State, HasCleanDisk, mode_of, Executes, ExecutesIn, CommitsBy, MayCommit, text_of, IsUnchanged, IsRolledBack, shows_rows}
use Rattle.sqlite.specs.State.{IsNotRun, Survives, RunsCommand, Runs, Writes}
use Rattle.sqlite.proofs.Callers.{IsPlain, command_of, statement_of, runs_as}
use Rattle.sqlite_catalog.specs.Listing.{IsSound}
use Rattle.values.specs.Totals.{IsCounter}
use Rattle.atomic_types.specs.declared.part.Part.{Part}
use Rattle.atomic_types.specs.declared.part.Part.TheVariants.{Delta}
use Rattle.stable_store.specs.Stored.{Stored, after_decide, after_discard}
use Rattle.store_tables.specs.Tables.{stable_schema}
use Rattle.store_tables.specs.Texts.{decide_text, count_text, next_text, discard_text, record_text, delta_text, forget_text}
use Rattle.store_tables.proofs.Texts.{decide_command, decide_is, decide_plain, number_command, count_is, count_plain, next_is, next_plain, base_command}
use Rattle.store_tables.proofs.Texts.{discard_command, discard_is, discard_plain, record_command, record_is, record_plain, value_command, delta_command, delta_is, delta_plain, forget_command, forget_is, forget_plain}
use Rattle.store_tables.proofs.Decides.{plain_mode, cells, decides, puts_number, puts_base, puts_home, puts_values, puts_delta}
use Rattle.store_tables.proofs.Discards.{discards}
use Rattle.store_tables.proofs.Forgets.{forgets}
use Rattle.store_tables.specs.Holds.{IsStore, greatest_next}
use Rattle.store_tables.specs.Changes.{with_count, with_next, with_base, all_put, with_record, with_none_decided}
use Rattle.store_tables.proofs.Tables.{InRange}
use Rattle.store_tables.proofs.Statements.{more, spelled, FitsBase, FitsRecord, after_decides, after_counts, after_raises, after_puts_base, after_puts_home}
use Rattle.store_tables.proofs.Statements.{after_puts_values, after_puts_delta, after_discards, after_forgets}
use Rattle.store_writing.specs.Steps.{IsAtRest, Stands, Carries}

abbrev pub writes_rows : Command → Type 0
writes_rows (InsertOr at way from clauses) = Unit {0}
writes_rows (Insert at from) = Unit {0}
writes_rows (Update at q) = Unit {0}
writes_rows (Delete at q) = Unit {0}
writes_rows _ = ⊥

never_commit : (command : Command) → writes_rows command → command ≡ Commit → ⊥
never_commit command w e = subst writes_rows e w

never_release : (command : Command) (name : List ℕ) → writes_rows command → command ≡ Release name → ⊥
never_release command name w e = subst writes_rows e w

module _ (sql : List ℕ) (params : Row) (old : State) (schema : Schema) (has : old.now.schema ≡ schema) (command : Command) (is : command_of (understood schema sql) ≡ command)
    (plain : IsPlain (understood schema sql)) (rows : writes_rows command) where
  pub commits_as : (db : Trees) → CommitsBy sql params old db
      → (tally : Tally) × (after : Database) × Does old.step_limit (mode_of old) params old.now (statement_of sql (understood schema sql)) None command (Ok (tally, after)) × IsDatabase after × (db ≡ after.trees)
  unfolding CommitsBy
  commits_as db h =
      let known = sym h.1.is ∙ ap (λ s. understood s sql) has in
      let bare = subst IsPlain (sym known) plain in
      let may : MayCommit old None command (statement_of sql (understood schema sql)) params db =
      subst₂ (λ k t. MayCommit old None k t params db) (ap command_of known ∙ is) (ap (statement_of sql) known) (rw (bare.0, bare.1, append-nil params) at h.2) in
      elim may [
        | inl (inl commit, same) ↦ absurd (never_commit command rows commit)
        | inl (inr release, same) ↦ absurd (never_release command release.0 rows release.2)
        | inr wrote ↦ (wrote.1, wrote.2, wrote.3, wrote.4, wrote.5)
      ]

-- an error leaves the database, or rolls it back
pub err_leaves : (sql : List ℕ) (params : Row) (old new : State) (e : Error) → Executes sql params old new (Err e)
    → IsUnchanged old new ⊎ IsRolledBack old new
unfolding ExecutesIn IsNotRun
err_leaves sql params old new e (inl (inl same)) = inl same.1
err_leaves sql params old new e (inl (inr failed)) = inr failed.3
err_leaves sql params old new e (inr h) = elim (cases_Bool (shows_rows false h.0)) [
  | inl shows ↦ inl (rw shows at h.2).1
  | inr runs ↦ ran (rw runs at h.2)
]
  where
    ran : RunsCommand old new sql h.0 (timed params h.0.formats h.1.now) (Err e) → IsUnchanged old new ⊎ IsRolledBack old new
    ran (inl (why, same)) = inl same
    ran (inr failed) = inr failed.3

-- outside a transaction, an error leaves the database
pub err_keeps : (sql : List ℕ) (params : Row) (old new : State) (r : Result ℕ Error) → (IsTrue old.is_open → old.now ≡ old.committed)
    → Executes sql params old new r → IsTrue new.is_open → OnErr r (new.now ≡ old.now)
err_keeps sql params old new (Ok n) settled h up = tt
err_keeps sql params old new (Err e) settled h up = elim (err_leaves sql params old new e h) [
  | inl same ↦ same.0.now_is
  | inr undone ↦ (undone.undone up).0 ∙ sym (settled (undone.was_open up))
]

pub err_mode : (sql : List ℕ) (params : Row) (old new : State) (e : Error) → old.in_transaction ≡ false
    → Executes sql params old new (Err e) → new.in_transaction ≡ false
err_mode sql params old new e alone h =
    elim (err_leaves sql params old new e h) [ inl same ↦ same.0.mode ∙ alone | inr undone ↦ undone.autocommit ]

pub err_settled : (sql : List ℕ) (params : Row) (old new : State) (e : Error) → Executes sql params old new (Err e) → IsTrue new.is_open
    → old.now ≡ old.committed → new.now ≡ new.committed
err_settled sql params old new e h up settled = elim (err_leaves sql params old new e h) [
  | inl same ↦ same.0.now_is ∙ (settled ∙ sym same.0.committed_is)
  | inr undone ↦ (undone.undone up).0 ∙ sym (undone.undone up).1
]

pub err_opens : (sql : List ℕ) (params : Row) (old new : State) (e : Error) → Executes sql params old new (Err e) → IsTrue new.is_open
    → IsTrue old.is_open
err_opens sql params old new e h up =
    elim (err_leaves sql params old new e h) [ inl same ↦ same.0.was_open | inr undone ↦ undone.was_open up ]

runs_opens : (old new : State) (returning : Option Returning) (command : Command) (text : List ℕ) (params : Row) (count : ℕ)
    → old.in_transaction ≡ false → Runs old new returning command text params count → IsTrue old.is_open
runs_opens old new r (Select q names) text params count alone h = absurd h
runs_opens old new r (Rows values width names) text params count alone h = h.0.0.was_open
runs_opens old new r (Insert at from) text params count alone h = h.shown.was_open
runs_opens old new r (InsertOr at way from clauses) text params count alone h = h.shown.was_open
runs_opens old new r (Update at q) text params count alone h = h.shown.was_open
runs_opens old new r (Delete at q) text params count alone h = h.shown.was_open
runs_opens old new r CreateTable text params count alone h = h.shown.was_open
runs_opens old new r (CreateIndex at) text params count alone h = h.shown.was_open
runs_opens old new r CreateView text params count alone h = h.shown.was_open
runs_opens old new r (DropTable at) text params count alone h = h.shown.was_open
runs_opens old new r (DropIndex at) text params count alone h = h.shown.was_open
runs_opens old new r (DropView at) text params count alone h = h.shown.was_open
runs_opens old new r Begin text params count alone h = h.1.was_open
runs_opens old new r Commit text params count alone h = h.1.was_open
runs_opens old new r Rollback text params count alone h = absurd (let e = h.0 in let a = alone in cc)
runs_opens old new r (Savepoint name) text params count alone h = h.0.0.was_open
runs_opens old new r (Release name) text params count alone h = elim h.2 [ inl done ↦ done.1.0.was_open | inr done ↦ done.1.0.was_open ]
runs_opens old new r (RollbackTo name) text params count alone h = h.2.2.was_open
runs_opens old new r Nothing text params count alone h = h.0.0.was_open

-- what ran outside a transaction ran on an open connection
pub ok_opens : (sql : List ℕ) (params : Row) (old new : State) (count : ℕ) → old.in_transaction ≡ false
    → Executes sql params old new (Ok count) → IsTrue old.is_open
unfolding ExecutesIn
ok_opens sql params old new count alone h = elim (cases_Bool (shows_rows false h.0)) [
  | inl shows ↦ absurd (let e = (rw shows at h.2).0 in cc)
  | inr runs ↦ runs_opens old new h.0.returning h.0.command (text_of sql h.0) (timed params h.0.formats h.1.now) count alone (rw runs at h.2)
]

-- a promise over a crash, from one that says more
pub survives_as : (old new : State) (P Q : Trees → Type 0) → ((db : Trees) → P db → Q db) → Survives old new P → Survives old new Q
survives_as old new P Q leads s = record {
  clean = s.clean;
  shield = s.shield;
  counts = s.counts;
  limit = s.limit;
  closes = s.closes;
  crash = λ clean db may. elim (s.crash clean db may) [ inl before ↦ inl before | inr made ↦ inr (leads db made) ];
}

pub not_true : (b : Bool) → true ≡ not b → b ≡ false
not_true true h = h
not_true false h = refl

pub not_busy : (b : Bool) → true ≡ not b → IsTrue b → ⊥
not_busy true h busy = cc
not_busy false h busy = cc

-- a database with the tables of a store, which holds this content
abbrev pub IsStored : Database → Stored → Type 0
IsStored d c = (d.schema ≡ stable_schema) × IsStore d.trees c

sound_in : (d : Database) → d.schema ≡ stable_schema → IsDatabase d → IsSound stable_schema d.trees
sound_in d is sound = subst (λ s. IsSound s d.trees) is sound

-- What a statement makes of a store, wherever it runs.
pub record Means (text : List ℕ) (command : Command) (params : Row) (f : Stored → Stored) (Needs : Stored → Type 0) : Type 0 where
  pub is : command_of (understood stable_schema text) ≡ command
  pub plain : IsPlain (understood stable_schema text)
  pub rows : writes_rows command
  pub does : (limit : Option ℕ) (db after : Database) (tally : Tally) (c : Stored) → IsStored db c → Needs c → IsDatabase after
      → Does limit plain_mode params db (statement_of text (understood stable_schema text)) None command (Ok (tally, after))
      → IsStored after (f c)

module _ (text : List ℕ) (command : Command) (params : Row) (f : Stored → Stored) (Needs : Stored → Type 0) (m : Means text command params f Needs) where
  -- what was written
  pub runs_to : (old new : State) (count : ℕ) → old.now.schema ≡ stable_schema → Executes text params old new (Ok count)
      → Writes old new None command (statement_of text (understood stable_schema text)) params count
  runs_to old new count schema h =
      wrote command m.rows (runs_as text params old new stable_schema schema command m.is m.plain count h)
    where
      wrote : (k : Command) → writes_rows k → Runs old new None k (statement_of text (understood stable_schema text)) params count
          → Writes old new None k (statement_of text (understood stable_schema text)) params count
      wrote (InsertOr at way from clauses) w h = h
      wrote (Insert at from) w h = h
      wrote (Update at q) w h = h
      wrote (Delete at q) w h = h
      wrote _ w h = absurd w

  -- outside a transaction
  pub carries : (old new : State) (c : Stored) (r : Result ℕ Error) → (IsTrue old.is_open → IsAtRest old c) → Needs c
      → old.in_transaction ≡ false → Executes text params old new r
      → OnOk r (IsTrue old.is_open × IsTrue new.is_open × IsAtRest new (f c)) × OnErr r (IsTrue new.is_open → IsAtRest new c)
  carries old new c (Ok count) was needs mode h =
      let opened = ok_opens text params old new count mode h in
      let rest = was opened in
      let w = runs_to old new count rest.schema h in
      let committed : new.committed ≡ new.now = w.shown.committed_is ∙ ap (λ b. cond b old.committed new.now) mode in
      let now = m.does old.step_limit old.now new.now w.tally c (rest.schema, rest.store) needs w.sound w.changed in
      ((opened, w.shown.is_open, record { schema = now.0; store = now.1; mode = w.shown.mode ∙ mode; settled = sym committed }), tt)
  carries old new c (Err e) was needs mode h = (
    tt,
    λ up.
        let opened = err_opens text params old new e h up in
        let rest = was opened in
        let same : new.now ≡ old.now = err_keeps text params old new (Err e) (λ on. (was on).settled) h up in
        record {
          schema = ap (λ (d : Database). d.schema) same ∙ rest.schema;
          store = subst (λ (d : Database). IsStore d.trees c) (sym same) rest.store;
          mode = err_mode text params old new e mode h;
          settled = err_settled text params old new e h up rest.settled;
        },
  )

  -- what a stop leaves
  pub stops : (old : State) (c : Stored) (db : Trees) → IsStored old.now c → Needs c → CommitsBy text params old db → IsStore db (f c)
  stops old c db store needs h =
      let made = commits_as text params old stable_schema store.0 command m.is m.plain m.rows db h in
      let after = m.does old.step_limit old.now made.1 made.0 c store needs made.3 made.2 in
      subst (λ t. IsStore t (f c)) (sym made.4) after.1

  module _ (old new : State) (c : Stored) (stands : Stands old c) (needs : Needs c) (mode : old.in_transaction ≡ false)
      (law : IsTrue old.is_open → (db : Trees) → old.may_leave db → db ≡ old.committed.trees) (survives : Survives old new (CommitsBy text params old)) where
    was_clean : HasCleanDisk new → HasCleanDisk old
    was_clean clean = omega (arith, survives.clean)

    leaves : HasCleanDisk new → IsTrue old.is_open → (db : Trees) → new.may_leave db → IsStore db c ⊎ IsStore db (f c)
    leaves clean up db may =
        let rest = stands (was_clean clean) up in
        elim (survives.crash clean db may) [
          | inl before ↦ inl (subst (λ t. IsStore t c) (ap (λ (d : Database). d.trees) rest.settled ∙ sym (law up db before)) rest.store)
          | inr made ↦ inr (stops old c db (rest.schema, rest.store) needs made)
        ]

    pub carried : {T : Type 0} (x : T) (count : ℕ) → (HasCleanDisk new → Executes text params old new (Ok count)) → Carries {T = T} {E = Error} old new c (f c) (Ok x)
    carried x count runs = record {
      clean = was_clean;
      ok = λ clean. (carries old new c (Ok count) (stands (was_clean clean)) needs mode (runs clean)).0;
      err = tt;
      stop = leaves;
    }

    pub refused : {T : Type 0} (e : Error) → (HasCleanDisk new → Executes text params old new (Err e)) → Carries {T = T} {E = Error} old new c (f c) (Err e)
    refused e runs = record {
      clean = was_clean;
      ok = λ _. tt;
      err = λ clean up. (carries old new c (Err e) (stands (was_clean clean)) needs mode (runs clean)).1 up;
      stop = leaves;
    }

-- nothing was run
pub unmoved : {T E : Type 0} (s : State) (c after : Stored) (e : E) → Stands s c → (IsTrue s.is_open → (db : Trees) → s.may_leave db → db ≡ s.committed.trees) → Carries {T = T} s s c after (Err e)
unmoved s c after e stands law = record {
  clean = λ h. h;
  ok = λ _. tt;
  err = stands;
  stop = λ clean up db may. let rest = stands clean up in inl (subst (λ t. IsStore t c) (ap (λ (d : Database). d.trees) rest.settled ∙ sym (law up db may)) rest.store);
}

-- `decide`
pub decide_means : (n : ℕ) → InRange n → Means decide_text decide_command (Int (pos n) ∷ []) (after_decide n) (λ _. Unit {0})
decide_means n fits = record {
  is = decide_is;
  plain = decide_plain;
  rows = tt;
  does = λ limit db after tally c store needs sound h.
      let made = decides limit n db tally after (statement_of decide_text (understood stable_schema decide_text)) store.0 h in
      (made.0, after_decides n db.trees after.trees c fits store.1 (sound_in after made.0 sound) made.1);
}

-- the count
pub count_means : (n : ℕ) → Means count_text (number_command 2 (codes "count")) (Int (pos n) ∷ []) (with_count n) (λ _. Unit {0})
count_means n = record {
  is = count_is;
  plain = count_plain;
  rows = tt;
  does = λ limit db after tally c store needs sound h.
      let made = puts_number limit 2 (codes "count") (pos n) db tally after (statement_of count_text (understood stable_schema count_text)) store.0 h in
      (made.0, after_counts n db.trees after.trees c store.1 (sound_in after made.0 sound) made.1);
}

-- the number of the next top action
pub next_means : (n : ℕ) → 1 ≤ n → n ≤ greatest_next → Means next_text (number_command 3 (codes "next_top")) (Int (pos n) ∷ []) (with_next n) (λ _. Unit {0})
next_means n low high = record {
  is = next_is;
  plain = next_plain;
  rows = tt;
  does = λ limit db after tally c store needs sound h.
      let made = puts_number limit 3 (codes "next_top") (pos n) db tally after (statement_of next_text (understood stable_schema next_text)) store.0 h in
      (made.0, after_raises n db.trees after.trees c low high store.1 (sound_in after made.0 sound) made.1);
}

each_length : (es : List (ℕ × Part)) → length (each spelled es) ≡ length es
each_length [] = refl
each_length (e ∷ es) = ap suc (each_length es)

-- parts of the base
pub base_means : (text : List ℕ) (count : ℕ) (es : List (ℕ × Part)) → command_of (understood stable_schema text) ≡ base_command count
    → IsPlain (understood stable_schema text) → length es ≡ count
    → Means text (base_command count) (cells (each spelled es)) (λ c. with_base (all_put es c.base) c) (λ _. AllByRecursion FitsBase es)
base_means text count es is plain many = record {
  is = is;
  plain = plain;
  rows = tt;
  does = λ limit db after tally c store needs sound h.
      let made = puts_base limit count (each spelled es) db tally after (statement_of text (understood stable_schema text)) (each_length es ∙ many) store.0 h in
      (made.0, after_puts_base es db.trees after.trees c needs store.1 (sound_in after made.0 sound) made.1);
}

-- a record that goes
pub discard_means : (n : ℕ) → Means discard_text discard_command (Int (pos n) ∷ []) (after_discard n) (λ _. Unit {0})
discard_means n = record {
  is = discard_is;
  plain = discard_plain;
  rows = tt;
  does = λ limit db after tally c store needs sound h.
      let made = discards limit n db tally after (statement_of discard_text (understood stable_schema discard_text)) store.0 store.1.placed.1.1.0 h in
      (made.0, after_discards n db.trees after.trees c store.1 (sound_in after made.0 sound) made.1);
}

-- a record with no parts yet
pub record_means : (n home : ℕ) → InRange n → InRange home → Means record_text record_command (Int (pos n) ∷ Int (pos home) ∷ []) (with_record n home []) (λ c. map.get c.prepared n ≡ None)
record_means n home fits home_fits = record {
  is = record_is;
  plain = record_plain;
  rows = tt;
  does = λ limit db after tally c store needs sound h.
      let made = puts_home limit n home db tally after (statement_of record_text (understood stable_schema record_text)) store.0 h in
      (made.0, after_puts_home n home db.trees after.trees c fits home_fits needs store.1 (sound_in after made.0 sound) made.1);
}

-- values more of a record
pub value_means : (text : List ℕ) (count n home : ℕ) (before es : List (ℕ × Part)) (c : Stored)
    → command_of (understood stable_schema text) ≡ value_command count → IsPlain (understood stable_schema text) → length es ≡ count → 0 < count → InRange n
    → AllByRecursion FitsRecord es → map.is_sorted nat_cmp (before ++ es) ≡ true
    → Means text (value_command count) (Int (pos n) ∷ cells (each spelled es)) (λ _. with_record n home (before ++ es) c) (λ d. d ≡ with_record n home before c)
value_means text count n home before es c is plain many some fits fit sorted = record {
  is = is;
  plain = plain;
  rows = tt;
  does = λ limit db after tally d store same sound h.
      let made =
      puts_values limit n count (each spelled es) db tally after (statement_of text (understood stable_schema text)) (each_length es ∙ many) some store.0 h in
      (made.0, after_puts_values n home c fits es before db.trees after.trees fit sorted (subst (IsStore db.trees) same store.1) (sound_in after made.0 sound) made.1);
}

-- one delta more of a record
pub delta_means : (n home o : ℕ) (z : ℤ) (before : List (ℕ × Part)) (c : Stored) → InRange n → InRange o → map.is_sorted nat_cmp (more before o (Delta z)) ≡ true
    → IsCounter z
    → Means delta_text delta_command (Int (pos n) ∷ Int (pos o) ∷ Int z ∷ []) (λ _. with_record n home (more before o (Delta z)) c) (λ d. d ≡ with_record n home before c)
delta_means n home o z before c fits object_fits sorted stored = record {
  is = delta_is;
  plain = delta_plain;
  rows = tt;
  does = λ limit db after tally d store same sound h.
      let made = puts_delta limit n o z db tally after (statement_of delta_text (understood stable_schema delta_text)) store.0 h in
      (made.0, after_puts_delta n home o (Delta z) before c fits object_fits sorted db.trees after.trees (subst (IsStore db.trees) same store.1) (sound_in after made.0 sound) z refl stored made.1);
}

-- nothing is decided any more
pub forget_means : Means forget_text forget_command ([]) (with_none_decided) (λ _. Unit {0})
forget_means = record {
  is = forget_is;
  plain = forget_plain;
  rows = tt;
  does = λ limit db after tally c store needs sound h.
      let made = forgets limit db tally after (statement_of forget_text (understood stable_schema forget_text)) store.0 h in
      (made.0, after_forgets db.trees after.trees c store.1 (sound_in after made.0 sound) made.1);
}
