-- What is found when a database is opened, and what looking at it leaves.
use Rattle.std.proofs.Common.{◌≡◌, Result, Ok, Err, OnErr, IsTrue, Bool, not, refl, sym, ap, subst, ◌∙◌}
use Rattle.sqlite.specs.Effect.{Database}
use Rattle.sqlite.specs.State.{State, HasCleanDisk}
use Rattle.stable_store.specs.declared.fault.StoreFault.{StoreFault}
use Rattle.stable_store.specs.Stored.{Stored}
use Rattle.store_tables.specs.Tables.{no_schema}
use Rattle.store_tables.specs.Holds.{IsStore}
use Rattle.store_writing.specs.Steps.{Stands}
use Rattle.sql_store.specs.declared.layout.Layout.{Layout}
use Rattle.sql_store.specs.declared.layout.Layout.TheVariants.{Nothing, Second}
use Rattle.sql_store.specs.Layouts.{IsLayout}
use Rattle.sql_store.specs.Reading.{IsSettled, ShowsTheSame, LooksUp}
use Rattle.sql_store.proofs.Known.{not_false}

-- ---- what stays over a look

pub same_still : {T : Type 0} (a b : State) (P : Database → T → Type 0) (r : Result T StoreFault) → LooksUp a b P r → HasCleanDisk b → IsTrue b.is_open
    → ShowsTheSame a b
same_still a b P (Ok x) h clean up = (h.ok clean).0
same_still a b P (Err e) h clean up = h.err clean up

pub stands_still : {T : Type 0} (a b : State) (c : Stored) (P : Database → T → Type 0) (r : Result T StoreFault) → Stands a c → LooksUp a b P r → Stands b c
stands_still a b c P r stands h clean up =
    let same = same_still a b P r h clean up in
    let rest = stands (h.clean clean) same.was_open in
    record {
      schema = ap (λ (d : Database). d.schema) same.now ∙ rest.schema;
      store = subst (λ (d : Database). IsStore d.trees c) (sym same.now) rest.store;
      mode = same.mode ∙ rest.mode;
      settled = same.now ∙ (rest.settled ∙ sym same.committed);
    }

-- nothing was done
pub untouched : {T : Type 0} (a : State) (P : Database → T → Type 0) (f : StoreFault) → LooksUp {T = T} a a P (Err f)
untouched a P f = record {
  clean = λ h. h;
  ok = λ _. tt;
  err = λ _ up. record { was_open = up; is_open = up; now = refl; committed = refl; mode = refl };
  leaves = λ _ _ db h. h;
}

-- what was not read, of another answer
pub not_read : {T U : Type 0} (a b : State) (P : Database → T → Type 0) (Q : Database → U → Type 0) (e f : StoreFault) → LooksUp {T = T} a b P (Err e)
    → LooksUp {T = U} a b Q (Err f)
not_read a b P Q e f h = record { clean = h.clean; ok = λ _. tt; err = h.err; leaves = h.leaves }

-- ---- which layout it was not

module _ (a b : State) (layout : Layout) (looked : LooksUp a b (λ d l. IsLayout d.schema l) (Ok layout)) where
  pub is_new : HasCleanDisk b → a.now.schema ≡ no_schema → layout ≡ Nothing
  is_new clean schema = (looked.ok clean).1.new schema

  pub is_second : HasCleanDisk b → (k : Stored) → Stands a k → layout ≡ Second
  is_second clean k stands = let ok = looked.ok clean in ok.1.second (stands (looked.clean clean) ok.0.was_open).schema

-- no transaction is under way
pub settled_alone : (s : State) (auto : Bool) → auto ≡ not s.in_transaction → IsTrue auto → (IsTrue auto → IsTrue s.is_open → s.now ≡ s.committed) → IsSettled s
settled_alone s auto is on settled = record { mode = not_false auto s.in_transaction is on; settled = λ clean up. settled on up }

-- ---- what an error leaves

pub on_err : {T E : Type 0} (r : Result T E) (P : Type 0) → P → OnErr r P
on_err (Ok x) P h = tt
on_err (Err e) P h = h

pub err_leads : {T E : Type 0} (r : Result T E) (P Q : Type 0) → (P → Q) → OnErr r P → OnErr r Q
err_leads (Ok x) P Q leads h = tt
err_leads (Err e) P Q leads h = leads h
