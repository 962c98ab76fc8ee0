-- What a system that is opened again finds: what a new top action would have seen just before the stop.
use Rattle.std.specs.Prelude.{ℕ, pos, ◌≡◌, ◌++◌, IsTrue, IsFalse, List, [], ◌∷◌, filter, fold}
use Rattle.action_names.specs.Names.{Name, has_name, is_top}
use Rattle.values.specs.declared.content.Content.TheVariants.{Counter}
use Rattle.atomic_types.specs.Parts.{laid_where}
use Rattle.run_model.specs.declared.history.Event.{Event}
use Rattle.run_model.specs.declared.step.ObjectId.{ObjectId}
use Rattle.run_model.specs.Actions.{is_begun}
use Rattle.run_model.specs.LocalHistories.{Stamped, events_of, local_history}
use Rattle.run_model.specs.Openings.{Opening, first_content, set_up}
use Rattle.run_model.specs.Places.{visible_by_grant, visible_by_place}
use Rattle.run_model.specs.Replay.{store_after}
use Rattle.run_model.specs.Runs.{IsRun, history_from}
use Rattle.run_model.specs.Visibility.{is_orphan}
use Rattle.recovery_laws.specs.Examples.{adds_five, counter, decided_ahead, three}
use Rattle.recovery_laws.specs.Numbers.{DecidedAreOlder}
use Rattle.recovery_laws.specs.Settled.{is_recorded, settled_base, settled_by, settled_here, settled_over}

-- A top action that has not begun is no orphan.
abbrev pub NewTopsAreNoOrphans : Type 0
NewTopsAreNoOrphans = (opening : Opening) (past : List Event) (t : Name) → IsRun opening past
    → IsTrue (is_top t) → IsFalse (is_begun t past) → IsFalse (is_orphan t past)

-- What is settled of an object, laid on its content at the setup, is what a new top action would see there.
abbrev pub SettledIsSeen : Type 0
SettledIsSeen = (opening : Opening) (past : List Event) (x : ObjectId) (t : Name)
    → DecidedAreOlder opening → IsRun opening past → IsTrue (is_top t) → IsFalse (is_begun t past)
    → laid_where (settled_base opening x.guardian x.number past) (set_up opening.setup x)
    ≡ store_after (first_content opening) (visible_by_grant t past) x

-- So it is in order of place.
abbrev pub SettledIsSeenByPlace : Type 0
SettledIsSeenByPlace = (opening : Opening) (past : List Event) (x : ObjectId) (t : Name)
    → DecidedAreOlder opening → IsRun opening past → IsTrue (is_top t) → IsFalse (is_begun t past)
    → laid_where (settled_base opening x.guardian x.number past) (set_up opening.setup x)
    ≡ store_after (first_content opening) (visible_by_place t past) x

-- Where a store had one of the top actions as decided before, though, that is installed without having been decided
-- now.
abbrev pub DecidedAheadIsInstalled : Type 0
DecidedAheadIsInstalled = let past = history_from decided_ahead [] adds_five in
    IsRun decided_ahead past × IsTrue (is_top three) × IsFalse (is_begun three past)
    × (laid_where (settled_base decided_ahead 1 1 past) (set_up decided_ahead.setup counter)
    ≡ Counter (pos 15))
    × (store_after (first_content decided_ahead) (visible_by_grant three past) counter
    ≡ Counter (pos 10))

-- no name stands in the list twice
abbrev pub AreDistinct : List Name → Type 0
AreDistinct [] = Unit {0}
AreDistinct (a ∷ names) = IsFalse (has_name names a) × AreDistinct names

-- In whatever order the records come to rest, each once, the same is installed.
abbrev pub SettledInAnyOrder : Type 0
SettledInAnyOrder = (opening : Opening) (past : List Event) (g n : ℕ) (names : List Name)
    → IsRun opening past → AreDistinct names
    → ((t : Name) → IsTrue (is_recorded opening g past t) → IsTrue (has_name names t))
    → settled_over opening g n past names ≡ settled_base opening g n past

-- Names without records may be left out.
abbrev pub RecordsAlone : Type 0
RecordsAlone = (opening : Opening) (past : List Event) (g n : ℕ) (names : List Name)
    → settled_over opening g n past names
    ≡ settled_over opening g n past (filter (λ t. is_recorded opening g past t) names)

-- Where the work is cut off after some names and taken up with the others, the same is installed.
abbrev pub SettledInParts : Type 0
SettledInParts = (opening : Opening) (past : List Event) (g n : ℕ) (names others : List Name)
    → settled_over opening g n past (names ++ others)
    ≡ fold (λ part t. settled_by opening g n past t part)
    (settled_over opening g n past names) others

-- Each guardian knows of its own store by its own history, and this is what all of them together settle.
abbrev pub SettledSame : Type 0
SettledSame = (opening : Opening) (run : List Stamped) (g n : ℕ) (names : List Name)
    → IsRun opening (events_of run)
    → settled_here opening g n (λ h. local_history opening run h) names
    ≡ settled_over opening g n (events_of run) names
