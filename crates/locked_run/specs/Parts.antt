-- What is known of the run by what is locked.
use Rattle.std.specs.Prelude.{◌≡◌, ◌-◌, ◌<◌, ◌≤◌, ℕ, suc, Bool, false, List, [], ◌∷◌, length, if◌then◌else◌, Option, Some, None}
use Rattle.atomic_table.specs.Seated.{TableId}
use Rattle.one_run.specs.declared.piece.Piece.{Piece}
use Rattle.one_run.specs.declared.run.Part.{Part}
use Rattle.one_run.specs.Pieces.{GoesOn, count, owner, seen_of, with_less, with_seen, witness}
use Rattle.run_model.specs.LocalHistories.{Stamped}
use Rattle.run_model.specs.declared.history.Event.{Event}
use Rattle.run_model.specs.Openings.{Opening}
use Rattle.run_model.specs.Runs.{IsRun}
use Rattle.shared_run.specs.Places.{touches}
use Rattle.layer_contracts.specs.Guardians.{GuardianState}
use Rattle.layer_contracts.specs.Forests.{ForestState}
use Rattle.layer_contracts.specs.Stores.{IsStoreOf}
use Rattle.stable_store.specs.Calls.{View}
use Rattle.world_steps.specs.Standings.{forest_of, standing}
use Rattle.locked_run.specs.Stored.{guardian_events, registry_events}

-- the part of a guardian, and of the registry
abbrev pub guardian_part : ℕ → ℕ → List Event → Piece Event
guardian_part g left past =
    record { place = Some (suc g); left = left; seen = past; event = None; owns = false }

abbrev pub registry_part : ℕ → List Event → Piece Event
registry_part left past =
    record { place = Some 0; left = left; seen = past; event = None; owns = false }

-- A guardian under its lock stands where the run leads it, as far as its part has seen it; and
-- nothing has touched it since. It keeps its events of that run, and may add so many at least.
pub record IsHeld (opening : Opening) (table : TableId) (stands : GuardianState → Type 0)
    (part : Part Event) (left : ℕ) (history : List Stamped) : Type 0 where
  pub number : ℕ
  pub past : List Event
  pub allowed : ℕ
  pub of_table : part.token.table_id ≡ table
  pub parts : part.token.me.0 ≡ guardian_part number allowed past ∷ []
  pub enough : left ≤ allowed
  pub run : IsRun opening past
  pub here : stands (standing opening past number)
  pub first : 1 ≤ number
  pub last : number ≤ length opening.setup
  pub kept : history ≡ guardian_events opening past number

-- and so does the registry
pub record IsHeldThere (opening : Opening) (table : TableId) (stands : ForestState → Type 0)
    (part : Part Event) (history : List Stamped) : Type 0 where
  pub past : List Event
  pub left : ℕ
  pub of_table : part.token.table_id ≡ table
  pub parts : part.token.me.0 ≡ registry_part left past ∷ []
  pub run : IsRun opening past
  pub there : stands (forest_of opening past)
  pub kept : history ≡ registry_events opening past

-- Two guardians, which may be one twice, and the registry keep their events of this run.
pub record AreKept (opening : Opening) (g h : ℕ) (past : List Event)
    (one other there : List Stamped) : Type 0 where
  pub first : one ≡ guardian_events opening past g
  pub second : other ≡ guardian_events opening past h
  pub registry : there ≡ registry_events opening past

-- A guardian under its lock as contracts see it: its number, the run as it was when the guardian
-- was named last, and how many events it may still draw a stamp for.
pub record InHeld (G : Type 0) : Type 0 where
  pub guardian : G
  pub number : ℕ
  pub seen : List Event
  pub left : ℕ

-- the number of the guardian whose part stands first
abbrev pub place_in : Option ℕ → ℕ
place_in None = 0
place_in (Some p) = p - 1

abbrev pub number_of : List (Piece Event) → ℕ
number_of [] = 0
number_of (x ∷ xs) = place_in x.place

-- The registry stands where the run leads it that these parts have seen, and they have its place.
pub record HasRegistry (opening : Opening) (stands : ForestState → Type 0)
    (v : List (Piece Event)) : Type 0 where
  pub run : IsRun opening (seen_of v)
  pub seen : v ≡ with_seen (seen_of v) v
  pub place : 0 < count 0 v
  pub there : stands (forest_of opening (seen_of v))

-- So does a guardian.
pub record HasGuardian (opening : Opening) (stands : GuardianState → Type 0) (g : ℕ)
    (v : List (Piece Event)) : Type 0 where
  pub run : IsRun opening (seen_of v)
  pub seen : v ≡ with_seen (seen_of v) v
  pub place : 0 < count (suc g) v
  pub here : stands (standing opening (seen_of v) g)

-- the registry and two guardians, which may be one twice
pub record AreLocked (opening : Opening) (forest : ForestState → Type 0)
    (one other : GuardianState → Type 0) (g h : ℕ) (v : List (Piece Event)) : Type 0 where
  pub registry : HasRegistry opening forest v
  pub first : HasGuardian opening one g v
  pub second : HasGuardian opening other h v

-- the store is that of a guardian's history
abbrev pub HasStore : View → Type 0
HasStore store = (s : GuardianState) × IsStoreOf s store

-- The parts after a step: all have seen one run, and the first may have added an event to it.
pub record Moved (added : Bool) (v w : List (Piece Event)) : Type 0 where
  pub past : List Event
  pub is : w ≡ with_seen past (if added then with_less v else v)

-- What was seen of the table's run is a run, and has no place.
pub record IsSeen (opening : Opening) (table : TableId) (part : Part Event) : Type 0 where
  pub of_table : part.token.table_id ≡ table
  pub parts : part.token.me.0 ≡ witness (seen_of part.token.me.0) ∷ []
  pub run : IsRun opening (seen_of part.token.me.0)

-- A receipt has seen a run, which is as long as its number says, and owns the last event.
pub record IsReceipt (opening : Opening) (table : TableId) (part : Part Event) (number : ℕ)
    : Type 0 where
  pub of_table : part.token.table_id ≡ table
  pub parts : part.token.me.0 ≡ owner number (seen_of part.token.me.0) ∷ []
  pub run : IsRun opening (seen_of part.token.me.0)
  pub first : 1 ≤ number
  pub counted : number ≡ length (seen_of part.token.me.0)

-- both are beginnings of one run
pub record AreOfOne (opening : Opening) (one other : List Event) : Type 0 where
  pub past : List Event
  pub run : IsRun opening past
  pub first : GoesOn touches None one past
  pub second : GoesOn touches None other past
