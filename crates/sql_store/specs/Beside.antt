-- A database that has other tables beside those of a store, as an opening finds it.
use Rattle.std.specs.Prelude.{◌≡◌, ◌≢◌, List, Result, IsErrOf, IsTrue}
use Rattle.sqlite.specs.Order.{Row}
use Rattle.sqlite.specs.Schema.{Schema}
use Rattle.sqlite.specs.Tree.{Trees}
use Rattle.sqlite.specs.Effect.{Database}
use Rattle.sqlite.specs.State.{State, HasCleanDisk}
use Rattle.stable_store.specs.Stored.{Stored}
use Rattle.stable_store.specs.declared.fault.StoreFault.{StoreFault}
use Rattle.stable_store.specs.declared.fault.StoreFault.TheVariants.{NotOurs}
use Rattle.store_tables.specs.Tables.{stable_schema}
use Rattle.store_tables.specs.Answered.{queries, answered}
use Rattle.store_tables.specs.Holds.{Holds}
use Rattle.store_tables.specs.Keyed.{AreKeyed}
use Rattle.store_writing.specs.Steps.{While}
use Rattle.sql_store.specs.Layouts.{HasColumns}
use Rattle.sql_store.specs.Reading.{IsQuietWith, AreQueriesOf, AreAnswersOf}

-- other tables than those of a store alone, of which a store's queries can be asked
pub record AreBeside (tables : Schema) : Type 0 where
  pub others : tables ≢ stable_schema
  pub columns : HasColumns tables
  pub asked : AreQueriesOf tables queries

-- whatever the queries answer holds this content, and no key comes twice in it
abbrev pub AnswersHold : Schema → Database → Stored → Type 0
AnswersHold tables d c =
    (answers : List (List Row)) → AreAnswersOf tables d queries answers
    → AreKeyed (answered answers) × Holds 0 (answered answers) c

-- and nothing waits for a commit
pub record IsBesideAtRest (tables : Schema) (s : State) (c : Stored) : Type 0 where
  pub quiet : IsQuietWith tables s
  pub answers : AnswersHold tables s.now c

-- so it is while the disk is clean and the connection open
pub record IsBeside (s : State) (c : Stored) : Type 0 where
  pub tables : Schema
  pub beside : AreBeside tables
  pub rest : While s (IsBesideAtRest tables s c)

-- It is not told of such tables that their rows hold no content, unless the disk has returned something else than was
-- written.
abbrev pub RecognizesBeside : {T : Type 0} → State → State → Result T StoreFault → Type 0
RecognizesBeside old new result = IsErrOf result NotOurs → HasCleanDisk new
    → (c : Stored) → ¬ IsBeside old c

-- the database shows what it showed, and a stop leaves what one before would have left
pub record Keeps (old new : State) : Type 0 where
  pub now : IsTrue new.is_open → new.now ≡ old.now
  pub leaves : IsTrue old.is_open → (db : Trees) → new.may_leave db → old.may_leave db
