-- What a call that reads the tables answers, and what it leaves.
use Rattle.std.specs.Prelude.{◌≡◌, ◌⊎◌, ℕ, pos, Bool, true, false, List, [], ◌∷◌, Result, IfOk, OnOk, OnErr, IsErrOf, IsTrue}
use Rattle.sqlite.specs.declared.types.Value.TheVariants.{Int}
use Rattle.sqlite.specs.Order.{Row, column}
use Rattle.sqlite.specs.Schema.{Schema}
use Rattle.sqlite.specs.Tree.{Trees}
use Rattle.sqlite.proofs.Callers.{command_of}
use Rattle.sqlite.specs.Effect.{Database, Reads}
use Rattle.sqlite.specs.Given.{IsPlain}
use Rattle.sqlite.specs.Listing.{understood, reads_listing}
use Rattle.sqlite.specs.State.{State, HasCleanDisk, KeepsCommit, Survives}
use Rattle.sqlite_catalog.specs.Listing.{IsSound}
use Rattle.stable_store.specs.Stored.{Stored}
use Rattle.stable_store.specs.declared.fault.StoreFault.{StoreFault}
use Rattle.stable_store.specs.declared.fault.StoreFault.TheVariants.{NotOurs}
use Rattle.store_tables.specs.Tables.{stable_schema}
use Rattle.store_tables.specs.Holds.{IsStore}
use Rattle.store_writing.specs.Steps.{Stands}

-- ---- answers

-- the text is a query of tables with this schema, with no parameters
pub record IsQueryOf (tables : Schema) (sql : List ℕ) : Type 0 where
  pub plain : IsPlain (understood tables sql)
  pub unlisted : reads_listing tables sql ≡ false

-- the rows are an answer to the query in a database with this schema
abbrev pub IsAnswerOf : Schema → Database → List ℕ → List Row → Type 0
IsAnswerOf tables d sql rows = Reads (command_of (understood tables sql)) d [] rows

abbrev pub AreQueriesOf : Schema → List (List ℕ) → Type 0
AreQueriesOf tables [] = Unit {0}
AreQueriesOf tables (q ∷ qs) = IsQueryOf tables q × AreQueriesOf tables qs

abbrev pub AreAnswersOf : Schema → Database → List (List ℕ) → List (List Row) → Type 0
AreAnswersOf tables d [] [] = Unit {0}
AreAnswersOf tables d [] (a ∷ shown) = ⊥
AreAnswersOf tables d (q ∷ qs) [] = ⊥
AreAnswersOf tables d (q ∷ qs) (a ∷ shown) = IsAnswerOf tables d q a
    × AreAnswersOf tables d qs shown

-- so it is with the tables of a store
abbrev pub IsQueryText : List ℕ → Type 0
IsQueryText = IsQueryOf stable_schema

abbrev pub IsAnswered : Database → List ℕ → List Row → Type 0
IsAnswered = IsAnswerOf stable_schema

abbrev pub AreQueryTexts : List (List ℕ) → Type 0
AreQueryTexts = AreQueriesOf stable_schema

abbrev pub AreAnswered : Database → List (List ℕ) → List (List Row) → Type 0
AreAnswered = AreAnswersOf stable_schema

-- the rows are one, which has this number first
pub record IsOnlyNumber (rows : List Row) (n : ℕ) : Type 0 where
  pub row : Row
  pub only : rows ≡ row ∷ []
  pub number : column row 0 ≡ Int (pos n)

-- an answer to the query is this number
abbrev pub IsNumberOf : Schema → List ℕ → Database → ℕ → Type 0
IsNumberOf tables sql d n = (rows : List Row) × IsAnswerOf tables d sql rows × IsOnlyNumber rows n

-- each answer to the query is a number
abbrev pub IsCounted : Schema → List ℕ → Database → Type 0
IsCounted tables sql d = (rows : List Row) → IsAnswerOf tables d sql rows
    → (n : ℕ) × IsOnlyNumber rows n

-- ---- states

-- the database has tables with this schema alone, and nothing waits for a commit
pub record IsQuietWith (tables : Schema) (s : State) : Type 0 where
  pub schema : s.now.schema ≡ tables
  pub mode : s.in_transaction ≡ false
  pub settled : s.now ≡ s.committed

-- so it is while the disk is clean and the connection open
abbrev pub QuietsWith : Schema → State → Type 0
QuietsWith tables s = HasCleanDisk s → IsTrue s.is_open → IsQuietWith tables s

-- so it is with the tables of a store
abbrev pub IsQuiet : State → Type 0
IsQuiet = IsQuietWith stable_schema

abbrev pub Quiets : State → Type 0
Quiets = QuietsWith stable_schema

-- no transaction is under way, and nothing waits for a commit
pub record IsSettled (s : State) : Type 0 where
  pub mode : s.in_transaction ≡ false
  pub settled : HasCleanDisk s → IsTrue s.is_open → s.now ≡ s.committed

-- the database is sound, and has the tables of a store alone where they are known
pub record IsAlone (s : State) : Type 0 where
  pub quiet : IsTrue s.is_open → IsQuiet s
  pub sound : IsTrue s.is_open → IsSound stable_schema s.now.trees

-- the connection was open and is, and shows what it showed
pub record ShowsTheSame (old new : State) : Type 0 where
  pub was_open : IsTrue old.is_open
  pub is_open : IsTrue new.is_open
  pub now : new.now ≡ old.now
  pub committed : new.committed ≡ old.committed
  pub mode : new.in_transaction ≡ old.in_transaction

-- A call read what it answers from the database, and changed nothing.
pub record LooksUp {T : Type 0} (old new : State) (Shows : Database → T → Type 0)
    (result : Result T StoreFault) : Type 0 where
  pub clean : HasCleanDisk new → HasCleanDisk old
  pub ok : HasCleanDisk new → IfOk result (λ x. ShowsTheSame old new × Shows old.now x)
  pub err : HasCleanDisk new → OnErr result (IsTrue new.is_open → ShowsTheSame old new)
  pub leaves : HasCleanDisk new → IsTrue old.is_open → (db : Trees)
      → new.may_leave db → old.may_leave db

-- A stop leaves what one before the call would have left, or a store with this content.
abbrev pub StopLeaves : State → State → Stored → Type 0
StopLeaves old new c =
    HasCleanDisk new → IsTrue old.is_open → (db : Trees) → new.may_leave db
    → old.may_leave db ⊎ IsStore db c

-- Whatever the schema is: outside a transaction none was begun, and what was read left the schema.
pub record StaysOut {T : Type 0} (old new : State) (result : Result T StoreFault) : Type 0 where
  pub clean : HasCleanDisk new → HasCleanDisk old
  pub mode : old.in_transaction ≡ false → new.in_transaction ≡ false
  pub schema : HasCleanDisk new → OnOk result (new.now.schema ≡ old.now.schema)

-- It is not told of a store that its rows hold no content, unless the disk has returned something else than was
-- written.
abbrev pub Recognizes : {T : Type 0} → State → State → Result T StoreFault → Type 0
Recognizes old new result = IsErrOf result NotOurs → HasCleanDisk new
    → (c : Stored) → ¬ Stands old c

-- so it was found out whether the database has the tables of a store alone
abbrev pub Knows : State → Bool → Type 0
Knows s known = HasCleanDisk s → IsTrue s.is_open
    → (IsTrue known → s.now.schema ≡ stable_schema) × (s.now.schema ≡ stable_schema → IsTrue known)

-- Within a transaction nothing was committed, and after `Ok` it is still under way.
pub record RunsInside {T E : Type 0} (old new : State) (result : Result T E) : Type 0 where
  pub kept : KeepsCommit old new
  pub within : old.in_transaction ≡ true → OnOk result (new.in_transaction ≡ true)

-- a part of a transaction: a stop within it leaves what one before it would have left
pub record Works {T E : Type 0} (old new : State) (result : Result T E) : Type 0 where
  pub survives : Survives old new (λ _. ⊥)
  pub runs : HasCleanDisk new → RunsInside old new result

-- Within a transaction a call looked at the tables of a store, and left them as they were.
pub record Looks {T E : Type 0} (old new : State) (Sees : T → Type 0)
    (result : Result T E) : Type 0 where
  pub inside : RunsInside old new result
  pub seen : IfOk result (λ x. new.now.schema ≡ stable_schema → (new.now ≡ old.now) × Sees x)
