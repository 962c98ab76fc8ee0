-- The stores that a run leaves belong to its setup. So a restart refuses them only if memory runs out or a store
-- counts a failure.
use Rattle.std.specs.Prelude.{◌≡◌, ◌≢◌, true, IsTrue, List, ◌∷◌, length}
use Rattle.std.specs.List.{AllZip}
use Rattle.run_model.specs.declared.history.Event.{Event}
use Rattle.run_model.specs.Openings.{Opening, Setup}
use Rattle.run_model.specs.Runs.{IsRun}
use Rattle.stable_store.specs.Calls.{View}
use Rattle.stable_store.specs.Stored.{Stored}
use Rattle.store_recovery.specs.Belonging.{all_belong}
use Rattle.store_recovery.specs.Opened.{AreOpened, AreRefused, IsOpeningOf}
use Rattle.store_recovery.specs.Settling.{IsSettledInPart, contents, settled}
use Rattle.store_recovery.specs.Steps.{OneHasCounted, all_hold}
use Rattle.store_recovery.specs.declared.refused.Refused.{Refused}
use Rattle.store_recovery.specs.declared.refused.Refused.TheVariants.{Memory}
use Rattle.recovery_laws.specs.Following.{stores_after}
use Rattle.recovery_laws.specs.Opened.{first_opening}
use Rattle.recovery_laws.specs.OpenedStores.{AreBetween, AreSettledFrom, AreStoredLives, OpensWith, StoredLife, lives_of}
use Rattle.recovery_laws.specs.Runs.{AreOfRun}
use Rattle.restart_laws.specs.Openings.{OpensInType}

-- The stores of a run belong to its setup.
abbrev pub RunsBelong : Type 0
RunsBelong = (opening : Opening) (past : List Event) (stores : List Stored) → OpensInType opening
    → IsRun opening past → AreOfRun opening past stores → IsTrue (all_belong opening.setup stores)

-- So do those that a stop within any step leaves.
abbrev pub StopsBelong : Type 0
StopsBelong = (opening : Opening) (e : Event) (past : List Event) (stores left : List Stored)
    → OpensInType opening → IsRun opening (e ∷ past) → AreOfRun opening past stores
    → AreBetween stores (stores_after opening e past stores) left
    → IsTrue (all_belong opening.setup left)

-- Stores that belong still do once their records are settled.
abbrev pub SettledBelong : Type 0
SettledBelong = (setup : Setup) (stores : List Stored) → IsTrue (all_belong setup stores)
    → IsTrue (all_belong setup (settled stores))

-- So do stores with only some of their records settled.
abbrev pub SettledInPartBelong : Type 0
SettledInPartBelong = (setup : Setup) (stores left : List Stored) → IsTrue (all_belong setup stores)
    → AllZip (IsSettledInPart stores) stores left → IsTrue (all_belong setup left)

-- An opening with what the settled stores of a run hold has the same setup, and opens in type.
abbrev pub NextOpensInType : Type 0
NextOpensInType = (opening next : Opening) (past : List Event) (stores now : List Stored)
    → OpensInType opening → IsRun opening past → AreOfRun opening past stores
    → AreSettledFrom stores now → OpensWith opening now next
    → (next.setup ≡ opening.setup) × OpensInType next

-- So does each opening behind any number of stopped runs, if the first of all openings does.
abbrev pub OpensInTypeThroughStops : Type 0
OpensInTypeThroughStops = (lives : List StoredLife) (next : Opening)
    → OpensInType (first_opening (lives_of lives) next) → AreStoredLives lives next
    → (next.setup ≡ (first_opening (lives_of lives) next).setup) × OpensInType next

-- However often the system stopped, the stores of its present run belong to the first setup.
abbrev pub BelongThroughStops : Type 0
BelongThroughStops =
    (lives : List StoredLife) (next : Opening) (later : List Event) (stores : List Stored)
    → OpensInType (first_opening (lives_of lives) next) → AreStoredLives lives next
    → IsRun next later → AreOfRun next later stores
    → IsTrue (all_belong (first_opening (lives_of lives) next).setup stores)

module _ {S : Type 0} (seen : S → View) where
  -- Stores that were opened give an opening in type, whoever filled them.
  abbrev pub ReopenedOpensInType : Type 0
  ReopenedOpensInType = (setup : Setup) (old new : List S) (opening : Opening)
      → length old ≡ length setup → AreOpened seen setup old new
      → IsOpeningOf setup (contents seen new) opening → OpensInType opening

  -- Stores that hold what a run left are refused only if memory runs out or a store counts a failure in that call.
  abbrev pub RefusedByFaultsAlone : Type 0
  RefusedByFaultsAlone = (opening : Opening) (past : List Event) (old new : List S) (why : Refused)
      → OpensInType opening → IsRun opening past → AreOfRun opening past (contents seen old)
      → all_hold seen old ≡ true → AreRefused seen opening.setup old new why → why ≢ Memory
      → OneHasCounted seen old new

  -- Stores that belonged and were refused still belong, so they can be opened again.
  abbrev pub RefusedStillBelong : Type 0
  RefusedStillBelong = (setup : Setup) (old new : List S) (why : Refused)
      → IsTrue (all_belong setup (contents seen old))
      → AreRefused seen setup old new why → IsTrue (all_belong setup (contents seen new))
