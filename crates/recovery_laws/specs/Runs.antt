-- The stores of a run, and what they hold once all records are settled.
use Rattle.std.specs.Prelude.{◌≡◌, ◌+◌, ℕ, IsTrue, IsFalse, List, [], ◌∷◌, Some, length, slice_get}
use Rattle.std.specs.FinMap as map
use Rattle.std.specs.FinSet as set
use Rattle.action_names.specs.Names.{Name, is_top}
use Rattle.atomic_types.specs.Parts.{laid_where}
use Rattle.run_model.specs.declared.history.Event.{Event}
use Rattle.run_model.specs.declared.step.ObjectId.{ObjectId}
use Rattle.run_model.specs.Actions.{is_begun}
use Rattle.run_model.specs.LocalHistories.{local_history, numbered}
use Rattle.run_model.specs.Openings.{Opening, first_content, set_up}
use Rattle.run_model.specs.Places.{visible_by_place}
use Rattle.run_model.specs.Replay.{store_after}
use Rattle.run_model.specs.StableContent.{is_stably_decided, stable_count, stable_next_top}
use Rattle.recovery_laws.specs.Settled.{settled_base}
use Rattle.stable_store.specs.Stored.{Stored}
use Rattle.store_recovery.specs.Settling.{store_of}
use Rattle.guardian_laws.specs.Stored.{AreStored}

-- the stores of all guardians of the run, from the first on, each of which holds what its guardian's own history says
pub record AreOfRun (opening : Opening) (past : List Event) (stores : List Stored) : Type 0 where
  pub count : length stores ≡ length opening.setup
  pub each : (i : ℕ) (s : Stored) → slice_get stores i ≡ Some s
      → AreStored opening (i + 1) (local_history opening (numbered past) (i + 1)) s

-- The store of g holds at each object what is settled of it, and no record; of decisions, recoveries and the next top
-- action it holds what the whole history says.
pub record HoldsSettled (opening : Opening) (g : ℕ) (past : List Event) (s : Stored) : Type 0 where
  pub base : (n : ℕ) → map.get s.base n ≡ settled_base opening g n past
  pub prepared : s.prepared ≡ map.empty
  pub decided : (n : ℕ) → set.contains s.decided n ≡ is_stably_decided opening g (n ∷ []) past
  pub count : s.count ≡ stable_count opening g past
  pub next_top : s.next_top ≡ stable_next_top opening g past

-- so does each of the stores of all guardians
pub record AreSettled (opening : Opening) (past : List Event) (stores : List Stored) : Type 0 where
  pub count : length stores ≡ length opening.setup
  pub each : (i : ℕ) (s : Stored) → slice_get stores i ≡ Some s
      → HoldsSettled opening (i + 1) past s

-- What a guardian's store holds of an object, laid on its content at the setup, is what each top action that has not
-- begun would see there.
abbrev pub HoldWhatIsSeen : Opening → List Event → List Stored → Type 0
HoldWhatIsSeen opening past stores = (x : ObjectId) (s : Stored) (t : Name)
    → store_of stores x.guardian ≡ Some s → IsTrue (is_top t) → IsFalse (is_begun t past)
    → laid_where (map.get s.base x.number) (set_up opening.setup x)
    ≡ store_after (first_content opening) (visible_by_place t past) x
