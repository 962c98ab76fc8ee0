-- A database that has other tables beside those of a store, as it is read.
use Rattle.std.proofs.Common.{◌≡◌, List, length, Vec, Global, Result, Ok, IfOk, IsTrue, sym, ap, subst, ◌∙◌}
use Rattle.std.proofs.lemmas.List.{length-map}
use Rattle.sqlite.specs.Order.{Row}
use Rattle.sqlite.specs.Effect.{Database}
use Rattle.sqlite.specs.State.{State, HasCleanDisk}
use Rattle.stable_store.specs.Stored.{Stored}
use Rattle.stable_store.specs.Held.{held}
use Rattle.stable_store.specs.declared.kept.Kept.{Kept}
use Rattle.stable_store.specs.declared.fault.StoreFault.{StoreFault}
use Rattle.store_tables.specs.Answered.{queries, answered, rows_of}
use Rattle.store_tables.specs.Holds.{Holds}
use Rattle.store_tables.specs.Keyed.{AreKeyed}
use Rattle.store_writing.specs.Steps.{Stands}
use Rattle.sql_store.specs.declared.layout.Layout.{Layout}
use Rattle.sql_store.specs.declared.layout.Layout.TheVariants.{Second}
use Rattle.sql_store.specs.Layouts.{IsLayout, HasColumns}
use Rattle.sql_store.specs.Reading.{QuietsWith, IsAlone, LooksUp, AreAnswersOf}
use Rattle.sql_store.specs.Beside.{AnswersHold, IsBeside, Keeps}
use Rattle.sql_store.proofs.Sequences.{ok_leads}
use Rattle.sql_store.proofs.Found.{same_still}
use Rattle.sql_store.proofs.FirstRead.{then_seen}
use Rattle.sql_store.proofs.Made.{OneContent}
use Rattle.sql_store.proofs.Recognized.{as_many_answers}

pub quiets_beside : (s : State) (c : Stored) (it : IsBeside s c) → QuietsWith it.tables s
quiets_beside s c it clean up = (it.rest clean up).quiet

-- it stays so over a look
pub beside_still : {T : Type 0} (a b : State) (c : Stored) (P : Database → T → Type 0) (r : Result T StoreFault) → IsBeside a c → LooksUp a b P r → IsBeside b c
beside_still a b c P r it h = record {
  tables = it.tables;
  beside = it.beside;
  rest = λ clean up.
      let same = same_still a b P r h clean up in
      let rest = it.rest (h.clean clean) same.was_open in
      record {
        quiet = record {
          schema = ap (λ (d : Database). d.schema) same.now ∙ rest.quiet.schema;
          mode = same.mode ∙ rest.quiet.mode;
          settled = same.now ∙ (rest.quiet.settled ∙ sym same.committed);
        };
        answers = subst (λ (d : Database). AnswersHold it.tables d c) (sym same.now) rest.answers;
      };
}

-- its layout is that of a store
pub is_beside : (a b : State) (layout : Layout) → LooksUp a b (λ d l. IsLayout d.schema l) (Ok layout) → HasCleanDisk b → (c : Stored) → IsBeside a c
    → layout ≡ Second
is_beside a b layout looked clean c it =
    let ok = looked.ok clean in
    let schema = (it.rest (looked.clean clean) ok.0.was_open).quiet.schema in
    ok.1.columns (subst HasColumns (sym schema) it.beside.columns)

-- it is not a store's tables alone, and none of those stands in it
pub not_alone : (s : State) (c : Stored) → IsBeside s c → IsAlone s → HasCleanDisk s → IsTrue s.is_open → ⊥
not_alone s c it alone clean up = it.beside.others (sym (it.rest clean up).quiet.schema ∙ (alone.quiet up).schema)

pub stands_not : (s : State) (c : Stored) → IsBeside s c → IsAlone s → Stands s c
stands_not s c it alone clean up = absurd (not_alone s c it alone clean up)

-- what looking left
pub keeps : {T : Type 0} (a b : State) (P : Database → T → Type 0) (r : Result T StoreFault) → LooksUp a b P r → HasCleanDisk b → Keeps a b
keeps a b P r h clean = record { now = λ up. (same_still a b P r h clean up).now; leaves = h.leaves clean }

-- ---- its content

module _ (old new : State) (c : Stored) (it : IsBeside old c) (all : Vec (Vec Row Global) Global) (looked : LooksUp {T = Vec (Vec Row Global) Global} old new (λ d (v : Vec (Vec Row Global) Global). AreAnswersOf it.tables d queries (rows_of v.items)) (Ok all)) where
  pub beside_read : OneContent → (r : Result Kept StoreFault) → IfOk r (λ kept. Holds 0 (answered (rows_of all.items)) (held kept))
      → LooksUp old new (λ _ kept. held kept ≡ c) r
  beside_read one r found =
      then_seen old new (λ d (v : Vec (Vec Row Global) Global). AreAnswersOf it.tables d queries (rows_of v.items)) (λ _ kept. held kept ≡ c) all r looked
      (λ clean up seen.
      ok_leads r (λ kept. Holds 0 (answered (rows_of all.items)) (held kept)) (λ kept. held kept ≡ c)
      (λ kept h. one 0 (answered (rows_of all.items)) (held kept) c h ((it.rest clean up).answers (rows_of all.items) seen).1) found)

  pub beside_told : (xs : List (Vec Row Global)) → xs ≡ all.items → HasCleanDisk new
      → (length xs ≡ 6 → AreKeyed (answered (rows_of xs)) → Holds 0 (answered (rows_of xs)) c → ⊥) → ⊥
  beside_told xs same clean never =
      let seen = looked.ok clean in
      let holds = (it.rest (looked.clean clean) seen.0.was_open).answers (rows_of all.items) seen.1 in
      subst (λ l. (length l ≡ 6 → AreKeyed (answered (rows_of l)) → Holds 0 (answered (rows_of l)) c → ⊥) → ⊥) (sym same)
      (λ no. no (sym (length-map all.items (λ (a : Vec Row Global). a.items)) ∙ as_many_answers it.tables old.now queries (rows_of all.items) seen.1) holds.0 holds.1) never
