-- What databases have of the tables of a store, and what looking for them leaves.
use Rattle.std.proofs.Common.{◌≡◌, ◌⊎◌, inl, inr, ℕ, zero, suc, ◌<◌, arith, Bor, List, [], ◌∷◌, map, length, get_or, codes, Result, Ok, Err, IfOk, IsTrue, false, refl, sym, ap, subst, ◌∙◌}
use Rattle.std.specs.List.{AllByRecursion}
use Rattle.sqlite.specs.Schema.{Schema}
use Rattle.sqlite.specs.Tree.{Trees}
use Rattle.sqlite.specs.Effect.{Database}
use Rattle.sqlite.specs.Outline.{Outline}
use Rattle.sqlite.specs.Steps.{Outlines}
use Rattle.sqlite.specs.Listing.{understood, listing_schema}
use Rattle.sqlite.specs.declared.error.Error.{Error}
use Rattle.sqlite.specs.declared.error.Error.TheVariants.{SqlInputError}
use Rattle.sqlite.specs.State.{State, HasCleanDisk, Survives, IsUnchanged, IsRolledBack, IsNotRun, store_error}
use Rattle.sqlite_trees.specs.declared.error.StoreError.{StoreError}
use Rattle.sqlite_trees.specs.declared.error.StoreError.TheVariants.{OutOfMemory, Io, Corrupt, Full, Broken, Unstorable}
use Rattle.sqlite_resolve.specs.declared.compiled.Compiled.{Compiled}
use Rattle.sqlite_resolve.specs.declared.error.CompileError.{CompileError}
use Rattle.sqlite_resolve.specs.declared.error.CompileError.TheVariants.{NoSuchTable}
use Rattle.sqlite_tied.specs.Compute.{everything}
use Rattle.stable_store.specs.declared.fault.StoreFault.{StoreFault}
use Rattle.store_tables.specs.Tables.{no_schema, first_schema, stable_schema}
use Rattle.sql_store.specs.Reading.{IsSettled, ShowsTheSame, LooksUp}
use Rattle.sql_store.specs.Layouts.{presence, presence_in, IsAbsence, IsPresence, IsLayout}
use Rattle.sql_store.specs.declared.layout.Layout.{Layout}
use Rattle.sql_store.specs.declared.layout.Layout.TheVariants.{Nothing, First, Second}
use Rattle.sql_store.specs.declared.layout.Presence.{Presence}
use Rattle.sql_store.specs.declared.layout.Presence.TheVariants.{There, Missing, Others}
use Rattle.sql_store.proofs.Queries.{the_same}
use Rattle.sql_store.proofs.Asked.{no_text}

-- ---- what `prepare` says of a text

-- a text that has an outline was understood
pub outlined : (r : Result Compiled CompileError) (s : Outline) → Outlines r s → presence r ≡ There
outlined (Ok c) s h = refl
outlined (Err e) s h = absurd h

never_input : (cause : StoreError) (f : CompileError) → ◌≡◌ {A = Error} (SqlInputError f) (store_error cause) → ⊥
never_input OutOfMemory f h = absurd (let e = h in cc)
never_input Io f h = absurd (let e = h in cc)
never_input Corrupt f h = absurd (let e = h in cc)
never_input Full f h = absurd (let e = h in cc)
never_input Broken f h = absurd (let e = h in cc)
never_input Unstorable f h = absurd (let e = h in cc)

same_fault : (f k : CompileError) → ◌≡◌ {A = Error} (SqlInputError f) (SqlInputError k) → k ≡ f
same_fault f k h = cc

pub absent : (e : Error) (f : CompileError) (r : Result Presence StoreFault) → e ≡ SqlInputError f → IfOk r (λ found. found ≡ presence (Err f)) → IfOk r (IsAbsence e)
absent e f (Ok found) is h = (f, is, h)
absent e f (Err fault) is h = tt

-- another refusal than that there is no such table
pub other_columns : (f : CompileError) → (f ≡ NoSuchTable → ⊥) → Others ≡ presence (Err f)
other_columns NoSuchTable h = absurd (h refl)
other_columns _ h = refl

-- a text that was refused as no statement was not understood
not_understood : (sql : List ℕ) (old new : State) (f : CompileError) → IsNotRun old new sql [] (SqlInputError f)
    → (understood old.now.schema sql ≡ Err f) × IsUnchanged old new
unfolding IsNotRun
not_understood sql old new f (inl (inl why, same)) = (why.1 ∙ ap (λ k. Err k) (same_fault f why.0 why.2), same)
not_understood sql old new f (inl (inr (c, is, inl many), same)) = absurd (let e = many.1 in cc)
not_understood sql old new f (inl (inr (c, is, inr (inl given)), same)) = absurd (let e = given.1 in cc)
not_understood sql old new f (inl (inr (c, is, inr (inr clock)), same)) = absurd (let e = clock.1 in cc)
not_understood sql old new f (inr failed) = absurd (never_input failed.0 f failed.1)

not_run_leaves : (sql : List ℕ) (old new : State) (e : Error) → IsNotRun old new sql [] e → IsUnchanged old new ⊎ IsRolledBack old new
unfolding IsNotRun
not_run_leaves sql old new e (inl refused) = inl refused.1
not_run_leaves sql old new e (inr failed) = inr failed.3

-- ---- what looking leaves

settled_same : (old new : State) → HasCleanDisk old → IsSettled old → IsUnchanged old new ⊎ IsRolledBack old new → IsTrue new.is_open → ShowsTheSame old new
settled_same old new clean settled (inl same) up = the_same old new same
settled_same old new clean settled (inr back) up =
    let opened = back.was_open up in
    record {
      was_open = opened;
      is_open = up;
      now = (back.undone up).0 ∙ sym (settled.settled clean opened);
      committed = (back.undone up).1;
      mode = back.autocommit ∙ sym settled.mode;
    }

-- it is settled still
pub settled_after : {T : Type 0} (a b : State) (P : Database → T → Type 0) (x : T) → IsSettled a → (a.in_transaction ≡ false → b.in_transaction ≡ false)
    → LooksUp a b P (Ok x) → IsSettled b
settled_after a b P x settled mode looked = record {
  mode = mode settled.mode;
  settled = λ clean up. let same = (looked.ok clean).0 in same.now ∙ (settled.settled (looked.clean clean) same.was_open ∙ sym same.committed);
}

-- what was seen, in other words
pub looked_ok : {T U : Type 0} (a b : State) (P : Database → T → Type 0) (Q : Database → U → Type 0) (x : T) (y : U) → LooksUp a b P (Ok x)
    → (P a.now x → Q a.now y) → LooksUp a b Q (Ok y)
looked_ok a b P Q x y h leads =
    record { clean = h.clean; ok = λ clean. let k = h.ok clean in (k.0, leads k.1); err = λ _. tt; leaves = h.leaves }

-- one text
module _ (sql : List ℕ) (old new : State) (settled : IsSettled old) (survives : Survives old new (λ _. ⊥)) where
  was_clean : HasCleanDisk new → HasCleanDisk old
  was_clean clean = omega (arith, survives.clean)

  left : HasCleanDisk new → IsTrue old.is_open → (db : Trees) → new.may_leave db → old.may_leave db
  left clean up db may = elim (survives.crash clean db may) [ inl before ↦ before | inr none ↦ absurd none ]

  abbrev Tells : Database → Presence → Type 0
  Tells d found = found ≡ presence_in d.schema sql

  pub seen : (found : Presence) → (HasCleanDisk new → IsUnchanged old new) → (HasCleanDisk new → Tells old.now found) → LooksUp old new Tells (Ok found)
  seen found same tells =
      record { clean = was_clean; ok = λ clean. (the_same old new (same clean), tells clean); err = λ _. tt; leaves = left }

  -- it was refused
  pub refused : (e : Error) (r : Result Presence StoreFault) → IfOk r (IsAbsence e) → (HasCleanDisk new → IsNotRun old new sql [] e) → LooksUp old new Tells r
  refused e (Ok found) is h =
      let why : HasCleanDisk new → (understood old.now.schema sql ≡ Err is.0) × IsUnchanged old new =
      λ clean. not_understood sql old new is.0 (subst (IsNotRun old new sql []) is.1 (h clean)) in
      seen found (λ clean. (why clean).1) (λ clean. is.2 ∙ ap presence (sym (why clean).0))
  refused e (Err fault) is h = record {
    clean = was_clean;
    ok = λ _. tt;
    err = λ clean up. settled_same old new (was_clean clean) settled (not_run_leaves sql old new e (h clean)) up;
    leaves = left;
  }

-- ---- texts one after another

present_at : (schema : Schema) (all : Presence) (qs : List (Bor (List ℕ))) (i : ℕ) → i < length qs
    → AllByRecursion (λ q. presence_in schema q ≡ all) (map (λ (x : Bor (List ℕ)). x.now) qs) → presence_in schema (get_or qs i no_text).now ≡ all
present_at schema all [] i low h = absurd (omega (arith, low))
present_at schema all (x ∷ qs) zero low h = h.0
present_at schema all (x ∷ qs) (suc i) low h = present_at schema all qs i (omega (arith, low)) h.1

-- two of them differ
pub differing : (schema : Schema) (query : List ℕ) (others : List (Bor (List ℕ))) (i : ℕ) (first found : Presence) → i < length others
    → first ≡ presence_in schema query → found ≡ presence_in schema (get_or others i no_text).now → (found ≡ first → ⊥)
    → IsPresence schema (query ∷ map (λ (x : Bor (List ℕ)). x.now) others) Others
differing schema query others i first found low is here differ all h =
    absurd (differ (here ∙ (present_at schema all others i low h.1 ∙ sym (is ∙ h.0))))

-- ---- the columns of a new database, and of a store

abbrev pub first_columns : List (List ℕ)
first_columns =
    codes "SELECT k, v FROM meta"
    ∷ codes "SELECT obj, val FROM base"
    ∷ codes "SELECT top, home FROM prepared"
    ∷ codes "SELECT top, obj, val FROM prepared_val"
    ∷ codes "SELECT top FROM decided"
    ∷ []

abbrev pub delta_columns : List ℕ
delta_columns = codes "SELECT top, obj, add_by FROM prepared_delta"

new_first : AllByRecursion (λ q. presence_in no_schema q ≡ Missing) first_columns
unfolding understood listing_schema everything
new_first = (refl, (refl, (refl, (refl, (refl, tt)))))

new_delta : presence_in no_schema delta_columns ≡ Missing
unfolding understood listing_schema everything
new_delta = refl

first_first : AllByRecursion (λ q. presence_in first_schema q ≡ There) first_columns
unfolding understood listing_schema everything
first_first = (refl, (refl, (refl, (refl, (refl, tt)))))

first_delta : presence_in first_schema delta_columns ≡ Missing
unfolding understood listing_schema everything
first_delta = refl

second_first : AllByRecursion (λ q. presence_in stable_schema q ≡ There) first_columns
unfolding understood listing_schema everything
second_first = (refl, (refl, (refl, (refl, (refl, tt)))))

second_delta : presence_in stable_schema delta_columns ≡ There
unfolding understood listing_schema everything
second_delta = refl

pub layout_is : (schema : Schema) (first deltas : Presence) (layout : Layout) → IsPresence schema first_columns first → deltas ≡ presence_in schema delta_columns
    → (first ≡ Missing → deltas ≡ Missing → layout ≡ Nothing) → (first ≡ There → deltas ≡ Missing → layout ≡ First)
    → (first ≡ There → deltas ≡ There → layout ≡ Second) → IsLayout schema layout
layout_is schema first deltas layout all told new older second = record {
  new = λ is.
      new (all Missing (subst (λ s. AllByRecursion (λ q. presence_in s q ≡ Missing) first_columns) (sym is) new_first))
      (told ∙ (ap (λ s. presence_in s delta_columns) is ∙ new_delta));
  first = λ is.
      older (all There (subst (λ s. AllByRecursion (λ q. presence_in s q ≡ There) first_columns) (sym is) first_first))
      (told ∙ (ap (λ s. presence_in s delta_columns) is ∙ first_delta));
  second = λ is.
      second (all There (subst (λ s. AllByRecursion (λ q. presence_in s q ≡ There) first_columns) (sym is) second_first))
      (told ∙ (ap (λ s. presence_in s delta_columns) is ∙ second_delta));
  columns = λ has. second (all There (has.0, (has.1.0, (has.1.1.0, (has.1.1.1.0, (has.1.1.1.1.0, tt)))))) (told ∙ has.1.1.1.1.1.0);
}
