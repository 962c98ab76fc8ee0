-- What parts of a transaction make of a store, and its end.
use Rattle.std.proofs.Common.{◌≡◌, inl, inr, ℕ, List, [], true, false, Ok, Err, Result, IsTrue}
use Rattle.std.proofs.Common.{OnOk, OnErr, IfErr, refl, sym, ap, subst, ◌∙◌, true≢false, arith}
use Rattle.std.proofs.lemmas.Bool.{cases_Bool}
use Rattle.sqlite.specs.Order.{Row}
use Rattle.sqlite.specs.Tree.{Trees}
use Rattle.sqlite.specs.Command.{Command}
use Rattle.sqlite.specs.Effect.{Database}
use Rattle.sqlite.specs.declared.error.Error.{Error}
use Rattle.sqlite.specs.declared.error.Error.TheVariants.{SqliteFailure}
use Rattle.sqlite.specs.declared.error.ErrorCode.TheVariants.{TransactionState}
use Rattle.sqlite.specs.State.{State, HasCleanDisk, KeepsCommit, KeepsCounts, Survives, Shows, IsUnchanged, IsRolledBack}
use Rattle.sqlite.specs.State.{ExecutesInside}
use Rattle.sqlite.specs.Steps.{FailsToCommit}
use Rattle.sqlite_trees.specs.declared.store.Store.{Ghosts}
use Rattle.sqlite.specs.Held.{Held, state}
use Rattle.stable_store.specs.Stored.{Stored}
use Rattle.store_tables.specs.Holds.{IsStore}
use Rattle.store_writing.specs.Steps.{While, IsAtRest, Stands, Carries, Sees, Stays, Steps}
use Rattle.store_writing.proofs.Runs.{Means, runs_to}

unchanged_keeps : (old new : State) → IsUnchanged old new → KeepsCommit old new
unchanged_keeps old new h = record { was_open = λ _. h.0.was_open; committed = λ _. h.0.committed_is }

undone_keeps : (old new : State) → IsRolledBack old new → KeepsCommit old new
undone_keeps old new h = record { was_open = h.was_open; committed = λ up. (h.undone up).1 }

pub keeps_same : (s : State) → KeepsCommit s s
keeps_same s = record { was_open = λ up. up; committed = λ _. refl }

pub keeps_then : (a b c : State) → KeepsCommit a b → KeepsCommit b c → KeepsCommit a c
keeps_then a b c h k =
    record { was_open = λ up. h.was_open (k.was_open up); committed = λ up. k.committed up ∙ h.committed (k.was_open up) }

module _ {S : Type 0} (g : Ghosts S) (text : List ℕ) (command : Command) (params : Row) (f : Stored → Stored) (Needs : Stored → Type 0) (m : Means text command params f Needs)
    (s t : Held S) (c : Stored) (needs : While (state g s) (Needs c)) (sees : Sees (state g s) c) (clean : HasCleanDisk (state g t) → HasCleanDisk (state g s)) where
  -- a statement within a transaction
  pub steps : (r : Result ℕ Error) → ((state g s).in_transaction ≡ false → (r ≡ Err (SqliteFailure TransactionState)) × (t ≡ s))
      → (HasCleanDisk (state g t) → IsTrue (state g s).in_transaction → ExecutesInside 0 text params (state g s) (state g t) r)
      → Steps (state g s) (state g t) (f c) r
  steps (Ok count) ended runs = record {
    ok = λ h. let it = inside h in
        let was = sees (clean h) it.1.was_open in
        let w = runs_to text command params f Needs m (state g s) (state g t) count was.schema it.0 in
        let now = m.does (state g s).step_limit (state g s).now (state g t).now w.tally c (was.schema, was.store) (needs (clean h) it.1.was_open) w.sound w.changed in
        (it.1.was_open, it.1.is_open, record { schema = now.0; store = now.1; mode = it.1.mode });
    kept = λ h. let it = inside h in record { was_open = λ _. it.1.was_open; committed = λ _. it.1.committed_is };
  }
    where
      inside : HasCleanDisk (state g t) → ExecutesInside 0 text params (state g s) (state g t) (Ok count)
      inside h = elim (cases_Bool (state g s).in_transaction) [
        | inl within ↦ runs h within
        | inr none ↦ absurd (let e = (ended none).0 in cc)
      ]
  steps (Err e) ended runs = record {
    ok = λ _. tt;
    kept = λ h. elim (cases_Bool (state g s).in_transaction) [
      | inl within ↦ elim (runs h within) [
        | inl ran ↦ elim ran.1 [ inl same ↦ unchanged_keeps _ _ same | inr undone ↦ undone_keeps _ _ undone ]
        | inr late ↦ unchanged_keeps _ _ late.2
      ]
      | inr none ↦ subst (λ x. KeepsCommit (state g s) (state g x)) (sym (ended none).1) (keeps_same (state g s))
    ];
  }

-- two parts in turn
pub steps_then : {T U E F : Type 0} (a b d : State) (x y : Stored) (v : U) (r : Result T E) → (HasCleanDisk d → HasCleanDisk b) → Steps {T = U} {E = F} a b x (Ok v) → (Stays b x → Steps b d y r) → Steps a d y r
steps_then a b d x y v (Ok w) clean one two =
    let next = two (λ h. ((one.ok h).1, (one.ok h).2)) in
    record { ok = λ h. ((one.ok (clean h)).0, (next.ok h).1, (next.ok h).2); kept = λ h. keeps_then a b d (one.kept (clean h)) (next.kept h) }
steps_then a b d x y v (Err e) clean one two =
    record { ok = λ _. tt; kept = λ h. keeps_then a b d (one.kept (clean h)) ((two (λ k. ((one.ok k).1, (one.ok k).2))).kept h) }

pub steps_as : {T E : Type 0} (a b : State) (x y : Stored) (r : Result T E) → x ≡ y → Steps a b x r → Steps a b y r
steps_as a b x y r is h = subst (λ z. Steps a b z r) is h

-- how a part ended, in other words
pub step_ok : {T U E F : Type 0} {a b : State} {x : Stored} {v : T} {w : U} → Steps {T = T} {E = E} a b x (Ok v) → Steps {T = U} {E = F} a b x (Ok w)
step_ok h = record { ok = h.ok; kept = h.kept }

pub step_err : {T U E F : Type 0} {a b : State} {x y : Stored} {e : E} {f : F} → Steps {T = T} {E = E} a b x (Err e) → Steps {T = U} {E = F} a b y (Err f)
step_err h = record { ok = λ _. tt; kept = h.kept }

-- nothing was run
pub step_none : {T E : Type 0} (s : State) (x : Stored) (e : E) → Steps {T = T} {E = E} s s x (Err e)
step_none s x e = record { ok = λ _. tt; kept = λ _. keeps_same s }

pub step_same : {E : Type 0} (s : State) (x : Stored) → Stays s x → Steps {T = Unit {0}} {E = E} s s x (Ok tt)
step_same s x stays = record { ok = λ h. let it = stays h in (it.0, it.0, it.1); kept = λ _. keeps_same s }

pub sees_of : (s : State) (x : Stored) → Stays s x → Sees s x
sees_of s x stays h up = (stays h).1

-- ---- the end of a transaction, which began at `a`, ran up to `b` and left `d`

module _ (a b d : State) (c after : Stored) (stands : Stands a c) (law : IsTrue a.is_open → (db : Trees) → a.may_leave db → db ≡ a.committed.trees)
    (ran : Survives a b (λ _. ⊥)) where
  abbrev was : HasCleanDisk b → HasCleanDisk a
  was h = omega (arith, ran.clean)

  before : HasCleanDisk b → IsTrue a.is_open → (db : Trees) → b.may_leave db → IsStore db c
  before h up db may = elim (ran.crash h db may) [
    | inl first ↦ let rest = stands (was h) up in subst (λ t. IsStore t c) (ap (λ (x : Database). x.trees) rest.settled ∙ sym (law up db first)) rest.store
    | inr none ↦ absurd none
  ]

  -- at rest again, with what was committed
  back : KeepsCommit a b → HasCleanDisk b → IsTrue b.is_open → d.now ≡ b.committed → d.committed ≡ b.committed → d.in_transaction ≡ false
      → IsAtRest d c
  back kept h up now committed mode =
      let open_ = kept.was_open up in
      let rest = stands (was h) open_ in
      let same : d.now ≡ a.now = now ∙ (kept.committed up ∙ sym rest.settled) in
      record { schema = ap (λ (x : Database). x.schema) same ∙ rest.schema; store = subst (λ (x : Database). IsStore x.trees c) (sym same) rest.store; mode = mode; settled = now ∙ sym committed }

  pub rolled : {T E F : Type 0} (e : E) (f : F) → Steps {T = T} {E = E} a b after (Err e) → d.in_transaction ≡ false → (HasCleanDisk d → IsRolledBack b d) → Survives b d (λ _. ⊥)
      → Carries {T = Unit {0}} {E = F} a d c after (Err f)
  rolled e f part mode undone ended = record {
    clean = λ h. was (late h);
    ok = λ _. tt;
    err = λ h up. let u = undone h in back (part.kept (late h)) (late h) (u.was_open up) (u.undone up).0 (u.undone up).1 mode;
    stop = λ h up db may. elim (ended.crash h db may) [ inl earlier ↦ inl (before (late h) up db earlier) | inr none ↦ absurd none ];
  }
    where
      late : HasCleanDisk d → HasCleanDisk b
      late h = omega (arith, ended.clean)

  pub committed : {T E : Type 0} (v : T) (r : Result (Unit {0}) Error) → Steps {T = T} {E = E} a b after (Ok v) → d.in_transaction ≡ false
      → (HasCleanDisk d → OnOk r (IsTrue b.in_transaction × Shows b d b.now b.now false × KeepsCounts b d × (d.marks ≡ [])))
      → (HasCleanDisk d → IfErr r (FailsToCommit b d)) → Survives b d (λ db. db ≡ b.now.trees)
      → Carries {T = Unit {0}} {E = Error} a d c after r
  committed v r part mode ok err ended = record {
    clean = λ h. was (late h);
    ok = done r ok;
    err = failed r err;
    stop = λ h up db may. elim (ended.crash h db may) [
      | inl earlier ↦ inl (before (late h) up db earlier)
      | inr made ↦ inr (subst (λ t. IsStore t after) (sym made) (part.ok (late h)).2.store)
    ];
  }
    where
      late : HasCleanDisk d → HasCleanDisk b
      late h = omega (arith, ended.clean)

      done : (q : Result (Unit {0}) Error)
          → (HasCleanDisk d → OnOk q (IsTrue b.in_transaction × Shows b d b.now b.now false × KeepsCounts b d × (d.marks ≡ [])))
          → HasCleanDisk d → OnOk q (IsTrue a.is_open × IsTrue d.is_open × IsAtRest d after)
      done (Err e) k h = tt
      done (Ok u) k h =
          let shown = (k h).1 in
          let it = part.ok (late h) in
          (it.0, shown.is_open, record { schema = ap (λ (x : Database). x.schema) shown.now_is ∙ it.2.schema; store = subst (λ (x : Database). IsStore x.trees after) (sym shown.now_is) it.2.store; mode = mode; settled = shown.now_is ∙ sym shown.committed_is })

      failed : (q : Result (Unit {0}) Error) → (HasCleanDisk d → IfErr q (FailsToCommit b d)) → OnErr q (Stands d c)
      failed (Ok u) k = tt
      failed (Err e) k = λ h up. elim (k h) [
        | inl fails ↦ let u = fails.3 in back (part.kept (late h)) (late h) (u.was_open up) (u.undone up).0 (u.undone up).1 mode
        | inr late_ ↦ absurd (true≢false (sym (part.ok (late h)).2.mode ∙ late_.1))
      ]

-- as it began
pub begin_sees : {S : Type 0} (g : Ghosts S) (h : Held S) (c : Stored) → Stands (state g h) c → Sees (state g (record h { in_transaction = true })) c
begin_sees g h c stands clean up = let rest = stands clean up in record { schema = rest.schema; store = rest.store; mode = refl }

pub begin_steps : {S T E : Type 0} (g : Ghosts S) (h : Held S) (b : State) (x : Stored) (r : Result T E) → Steps (state g (record h { in_transaction = true })) b x r → Steps (state g h) b x r
begin_steps g h b x (Ok v) it =
    record { ok = it.ok; kept = λ k. let m = it.kept k in record { was_open = m.was_open; committed = m.committed } }
begin_steps g h b x (Err e) it =
    record { ok = λ _. tt; kept = λ k. let m = it.kept k in record { was_open = m.was_open; committed = m.committed } }

pub survives_self : (s : State) → Survives s s (λ _. ⊥)
survives_self s =
    record { clean = omega arith; shield = λ h. h; counts = omega arith; limit = refl; closes = λ _ up. inl up; crash = λ _ db h. inl h }
