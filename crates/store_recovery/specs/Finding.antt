-- Which record is settled first.
use Rattle.std.specs.Prelude.{◌≡◌, ℕ, List, ◌++◌, ◌∷◌, length}
use Rattle.std.specs.List.{AllByRecursion}
use Rattle.stable_store.specs.Calls.{View}
use Rattle.stable_store.specs.Stored.{Record, Stored}
use Rattle.store_recovery.specs.Settling.{contents}
use Rattle.store_recovery.specs.Steps.{HasFirst, HasNoRecord}

-- the least top action with a record, and its home
abbrev pub IsLeast : Stored → ℕ → ℕ → Type 0
IsLeast s top home = (r : Record) × (r.home ≡ home) × HasFirst s (top, r)

-- the store at this place is the first with a record, and this is its least top action
pub record IsFirstLeft {S : Type 0} (seen : S → View) (stores : List S)
    (place top home : ℕ) : Type 0 where
  pub before : List S
  pub store : S
  pub behind : List S
  pub are : stores ≡ before ++ store ∷ behind
  pub at : length before ≡ place
  pub none : AllByRecursion HasNoRecord (contents seen before)
  pub least : IsLeast (seen store).content top home
