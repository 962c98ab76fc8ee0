-- Which query failed where a call that reads the tables answers that the store failed.
use Rattle.std.specs.Prelude.{◌≡◌, ℕ, ◌≤◌, List, [], ◌∷◌, codes, Ok}
use Rattle.sqlite.specs.declared.error.Error.{Error}
use Rattle.sqlite.specs.Held.{Held, state}
use Rattle.sqlite.specs.State.{State, FailsToQuery}
use Rattle.sqlite_trees.specs.declared.store.Store.{Ghosts}
use Rattle.sqlite_rules.specs.Lists.{Has}
use Rattle.stable_store.specs.declared.fault.StoreFault.TheVariants.{Failed}
use Rattle.store_writing.specs.Faults.{fault_of}
use Rattle.sql_store.specs.Reading.{StaysOut}

-- no fault of the device was forgotten, and the limit on steps is what it was
pub record KeepsTrack (old new : State) : Type 0 where
  pub counts : old.faults ≤ new.faults
  pub limit : new.step_limit ≡ old.step_limit

-- the database answered the query with an error that is no lack of memory
pub record HasFailed (sql : List ℕ) (old new : State) : Type 0 where
  pub error : Error
  pub fails : FailsToQuery sql [] old new error
  pub failure : fault_of error ≡ Failed

-- one of the queries failed, and those that were asked before it were answered
pub record OneFailed {A : Type 0} (at : Ghosts A) (queries : List (List ℕ))
    (old new : State) : Type 0 where
  pub sql : List ℕ
  pub asked : Has queries sql
  pub mid : Held A
  pub out : StaysOut {T = Unit {0}} old (state at mid) (Ok tt)
  pub track : KeepsTrack old (state at mid)
  pub failed : HasFailed sql (state at mid) new

-- the queries of the rowids of each table
abbrev pub rowid_queries : List (List ℕ)
rowid_queries =
    codes "SELECT rowid FROM meta ORDER BY rowid"
    ∷ codes "SELECT rowid FROM base ORDER BY rowid"
    ∷ codes "SELECT rowid FROM prepared ORDER BY rowid"
    ∷ codes "SELECT rowid FROM prepared_val ORDER BY rowid"
    ∷ codes "SELECT rowid FROM decided ORDER BY rowid"
    ∷ codes "SELECT rowid FROM prepared_delta ORDER BY rowid"
    ∷ []

-- the queries of a content of version 1 but for its count
abbrev pub first_queries : List (List ℕ)
first_queries =
    codes "SELECT obj, val FROM base"
    ∷ codes "SELECT top, home FROM prepared"
    ∷ codes "SELECT top, obj, val FROM prepared_val"
    ∷ codes "SELECT top FROM decided"
    ∷ []

-- the query of the count
abbrev pub count_query : List ℕ
count_query = codes "SELECT v FROM meta WHERE k = 'count'"
