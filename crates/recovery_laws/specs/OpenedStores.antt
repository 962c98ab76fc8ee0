-- An opening that goes on from what stores hold, and what a stop within a step leaves of them.
use Rattle.std.specs.Prelude.{◌≡◌, ◌≢◌, ◌⊎◌, ◌+◌, ℕ, max, IsTrue, IsFalse, List, [], ◌∷◌, map as each, Some, fold, slice_get}
use Rattle.std.specs.FinMap as map
use Rattle.std.specs.FinSet as set
use Rattle.action_names.specs.Names.{is_top}
use Rattle.run_model.specs.declared.history.Event.{Event}
use Rattle.run_model.specs.Actions.{is_begun}
use Rattle.run_model.specs.Openings.{Opening}
use Rattle.run_model.specs.Runs.{IsRun}
use Rattle.recovery_laws.specs.Numbers.{DecidedAreOlder, IsNumbered}
use Rattle.recovery_laws.specs.Opened.{Life}
use Rattle.recovery_laws.specs.Runs.{AreOfRun, AreSettled, HoldWhatIsSeen}
use Rattle.stable_store.specs.Stored.{Stored}
use Rattle.store_recovery.specs.Settling.{bases_then, settled}

-- the greatest of what the stores have as the number after that of all top actions on which they voted yes, and at
-- least 1
abbrev pub next_top_of : List Stored → ℕ
next_top_of stores = fold (λ m s. max m s.next_top) 1 stores

-- The opening says of g's store what this one holds, but for the count.
pub record SaysOf (opening : Opening) (g : ℕ) (s : Stored) : Type 0 where
  pub base : (n : ℕ) → map.get s.base n ≡ (opening.stores g).base n
  pub decided : (n : ℕ) → set.contains s.decided n ≡ (opening.stores g).decided (n ∷ [])
  pub next_top : s.next_top ≡ (opening.stores g).next_top

-- The next opening has the same setup, says of each guardian's store what this one holds, and numbers its top actions
-- from the number that all of them know as the next.
pub record OpensWith (opening : Opening) (stores : List Stored) (next : Opening) : Type 0 where
  pub setup : next.setup ≡ opening.setup
  pub each : (i : ℕ) (s : Stored) → slice_get stores i ≡ Some s → SaysOf next (i + 1) s
  pub first_top : next.first_top ≡ next_top_of stores

-- These stores hold of bases, decisions and next top actions what the others do once settled; of counts nothing is
-- said.
pub record AreSettledFrom (stores now : List Stored) : Type 0 where
  pub bases : each (λ s. s.base) now ≡ bases_then stores
  pub decided : each (λ s. s.decided) now ≡ each (λ s. s.decided) stores
  pub next_tops : each (λ s. s.next_top) now ≡ each (λ s. s.next_top) stores

-- at most one store differs
abbrev pub DifferInOne : List Stored → List Stored → Type 0
DifferInOne old new = (place : ℕ) × ((i : ℕ) → i ≢ place → slice_get new i ≡ slice_get old i)

-- each store is that before the step or that after it
abbrev pub AreBetween : List Stored → List Stored → List Stored → Type 0
AreBetween old new left = (i : ℕ)
    → (slice_get left i ≡ slice_get old i) ⊎ (slice_get left i ≡ slice_get new i)

-- The stores are those of the run: once settled they hold what it settles, and so what a new top action would have
-- seen.
pub record AreLeftAfter (opening : Opening) (past : List Event) (left : List Stored) : Type 0 where
  pub stores : AreOfRun opening past left
  pub held : AreSettled opening past (settled left)
  pub seen : DecidedAreOlder opening → HoldWhatIsSeen opening past (settled left)

-- a run that stopped, the stores that it left, and what was found of them once they were settled
pub record StoredLife : Type 0 where
  pub life : Life
  pub left : List Stored
  pub found : List Stored

abbrev pub lives_of : List StoredLife → List Life
lives_of lives = each (λ l. l.life) lives

-- Runs that stopped, the newest first: each left its stores, and the opening behind it says what was found of these
-- once they were settled. The first of all openings is numbered.
abbrev pub AreStoredLives : List StoredLife → Opening → Type 0
AreStoredLives [] next = IsNumbered next
AreStoredLives (l ∷ older) next =
    OpensWith l.life.opening l.found next × AreSettledFrom l.left l.found
    × AreOfRun l.life.opening l.life.past l.left × IsRun l.life.opening l.life.past
    × IsTrue (is_top l.life.last) × IsFalse (is_begun l.life.last l.life.past)
    × AreStoredLives older l.life.opening
