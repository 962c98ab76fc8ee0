-- The stores of a run, settled, hold what a new top action would have seen, and the next run goes on from that.
use Rattle.std.specs.Prelude.{◌≡◌, ◌⊎◌, IsFalse, List, [], ◌∷◌, ◌++◌}
use Rattle.action_names.specs.Names.{Name}
use Rattle.run_model.specs.declared.history.Event.{Event}
use Rattle.run_model.specs.Openings.{Opening, Setup, first_content, fresh}
use Rattle.run_model.specs.Places.{replies_given, visible_by_place}
use Rattle.run_model.specs.Replay.{replayed}
use Rattle.run_model.specs.Runs.{IsRun}
use Rattle.run_model.specs.Visibility.{is_orphan}
use Rattle.recovery_laws.specs.Numbers.{DecidedAreOlder}
use Rattle.recovery_laws.specs.Opened.{GoesOnFrom, first_opening, seen_through}
use Rattle.recovery_laws.specs.Following.{new_stores, stores_after, stores_through}
use Rattle.recovery_laws.specs.OpenedStores.{AreBetween, AreLeftAfter, AreSettledFrom, AreStoredLives, DifferInOne, OpensWith, StoredLife, lives_of}
use Rattle.recovery_laws.specs.Runs.{AreOfRun, AreSettled, HoldWhatIsSeen}
use Rattle.stable_store.specs.Stored.{Stored}
use Rattle.store_recovery.specs.Settling.{settled}

-- The stores of a run, settled, hold what its history settles.
abbrev pub SettledStores : Type 0
SettledStores = (opening : Opening) (past : List Event) (stores : List Stored) → IsRun opening past
    → AreOfRun opening past stores → AreSettled opening past (settled stores)

-- So they hold what a new top action would have seen just before the stop.
abbrev pub StoresHoldWhatIsSeen : Type 0
StoresHoldWhatIsSeen = (opening : Opening) (past : List Event) (stores : List Stored)
    → DecidedAreOlder opening → IsRun opening past
    → AreOfRun opening past stores → HoldWhatIsSeen opening past (settled stores)

-- An opening with what they hold goes on from the run.
abbrev pub NextOpeningGoesOn : Type 0
NextOpeningGoesOn = (opening next : Opening) (past : List Event) (stores : List Stored)
    → IsRun opening past → AreOfRun opening past stores
    → OpensWith opening (settled stores) next → GoesOnFrom opening past next

-- So does one with what is found of them later, where recoveries may have been counted.
abbrev pub OpenedStoresGoOn : Type 0
OpenedStoresGoOn = (opening next : Opening) (past : List Event) (stores now : List Stored)
    → IsRun opening past → AreOfRun opening past stores
    → AreSettledFrom stores now → OpensWith opening now next → GoesOnFrom opening past next

-- Where none were counted, that is the settled stores.
abbrev pub SettledAreFound : Type 0
SettledAreFound = (stores : List Stored) → AreSettledFrom stores (settled stores)

-- However often the system stopped, where each run begins with what was found of the settled stores of the run
-- before, all its runs are serial together: what was left to see of each that stopped, and then what an action that
-- is no orphan sees in the present one, replayed on one plain store, give exactly the replies that were given.
abbrev pub SerialThroughStores : Type 0
SerialThroughStores = (lives : List StoredLife) (next : Opening) (later : List Event) (a : Name)
    → AreStoredLives lives next → IsRun next later → IsFalse (is_orphan a later)
    → replayed (first_content (first_opening (lives_of lives) next))
    (seen_through (lives_of lives) ++ visible_by_place a later)
    ≡ replies_given (seen_through (lives_of lives) ++ visible_by_place a later)

-- A stop within a step, which changes at most one store, leaves the stores of the run with the step or those of the
-- run without it.
abbrev pub StopWithinAStep : Type 0
StopWithinAStep = (opening : Opening) (e : Event) (past : List Event) (old new left : List Stored)
    → IsRun opening (e ∷ past) → AreOfRun opening past old → AreOfRun opening (e ∷ past) new
    → DifferInOne old new → AreBetween old new left
    → AreLeftAfter opening past left ⊎ AreLeftAfter opening (e ∷ past) left

-- The stores of new guardians are those of a run to which nothing happened.
abbrev pub NewStores : Type 0
NewStores = (setup : Setup) → AreOfRun (fresh setup) [] (new_stores setup)

-- And stores follow the run.
abbrev pub StoresFollow : Type 0
StoresFollow = (opening : Opening) (past : List Event) (first : List Stored) → IsRun opening past
    → AreOfRun opening [] first → AreOfRun opening past (stores_through opening past first)

-- A step calls at most one store.
abbrev pub OneStoreIsCalled : Type 0
OneStoreIsCalled = (opening : Opening) (e : Event) (past : List Event) (stores : List Stored)
    → DifferInOne stores (stores_after opening e past stores)

-- So a stop within any step leaves the stores of the run with the step or those of the run without it.
abbrev pub StopWithinAnyStep : Type 0
StopWithinAnyStep = (opening : Opening) (e : Event) (past : List Event) (stores left : List Stored)
    → IsRun opening (e ∷ past)
    → AreOfRun opening past stores → AreBetween stores (stores_after opening e past stores) left
    → AreLeftAfter opening past left ⊎ AreLeftAfter opening (e ∷ past) left
