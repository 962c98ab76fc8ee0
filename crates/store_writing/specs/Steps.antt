-- What a call makes of a database that has a store's tables.
use Rattle.std.specs.Prelude.{◌≡◌, ◌⊎◌, true, false, Result, OnOk, OnErr, IsTrue}
use Rattle.sqlite.specs.Tree.{Trees}
use Rattle.sqlite.specs.State.{State, HasCleanDisk, KeepsCommit}
use Rattle.stable_store.specs.Stored.{Stored}
use Rattle.store_tables.specs.Tables.{stable_schema}
use Rattle.store_tables.specs.Holds.{IsStore}

-- the database is a store with this content, and nothing waits for a commit
pub record IsAtRest (s : State) (c : Stored) : Type 0 where
  pub schema : s.now.schema ≡ stable_schema
  pub store : IsStore s.now.trees c
  pub mode : s.in_transaction ≡ false
  pub settled : s.now ≡ s.committed

-- a fact while the disk is clean and the connection open
abbrev pub While : State → Type 0 → Type 0
While s P = HasCleanDisk s → IsTrue s.is_open → P

abbrev pub Stands : State → Stored → Type 0
Stands s c = While s (IsAtRest s c)

-- A call that found this content left the one after it, or at an error the one before, whatever stops it.
pub record Carries {T E : Type 0} (old new : State) (before after : Stored)
    (result : Result T E) : Type 0 where
  pub clean : HasCleanDisk new → HasCleanDisk old
  pub ok : HasCleanDisk new
      → OnOk result (IsTrue old.is_open × IsTrue new.is_open × IsAtRest new after)
  pub err : OnErr result (Stands new before)
  pub stop : HasCleanDisk new → IsTrue old.is_open → (db : Trees) → new.may_leave db
      → IsStore db before ⊎ IsStore db after

-- ---- within a transaction

-- the transaction sees a store with this content
pub record IsWithin (s : State) (c : Stored) : Type 0 where
  pub schema : s.now.schema ≡ stable_schema
  pub store : IsStore s.now.trees c
  pub mode : s.in_transaction ≡ true

abbrev pub Sees : State → Stored → Type 0
Sees s c = While s (IsWithin s c)

-- and it is open
abbrev pub Stays : State → Stored → Type 0
Stays s c = HasCleanDisk s → IsTrue s.is_open × IsWithin s c

-- A part of a transaction that found this content left the one after it, and at an error what the transaction began
-- with.
pub record Steps {T E : Type 0} (old new : State) (after : Stored)
    (result : Result T E) : Type 0 where
  pub ok : HasCleanDisk new
      → OnOk result (IsTrue old.is_open × IsTrue new.is_open × IsWithin new after)
  pub kept : HasCleanDisk new → KeepsCommit old new
