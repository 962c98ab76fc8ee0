-- What the tables of version 1 hold, as version 2 has it.
use Rattle.std.specs.Prelude.{◌≡◌, ◌⊎◌, ℕ, ◌+◌, ◌≤◌, List, [], slice_index_or, IsSome}
use Rattle.std.specs.FinMap as map
use Rattle.sqlite.specs.Order.{Row}
use Rattle.sqlite.specs.Tree.{Trees}
use Rattle.stable_store.specs.Stored.{Stored}
use Rattle.store_tables.specs.Listed.{Lists}
use Rattle.store_tables.specs.Shown.{ShowsPart, ShowsHome, ShowsRecord, ShowsTop, IsText}
use Rattle.store_tables.specs.Parts.{Records, HasBase, HasHome, HasPart, IsDecided, AreRising}

-- the rows of each table but `meta`, or what a query showed of them; one table has values and deltas, each by its text
pub record FirstTables : Type 0 where
  pub base : List Row
  pub homes : List Row
  pub parts : List Row
  pub decided : List Row

abbrev pub first_answered : List (List Row) → FirstTables
first_answered answers = record {
  base = slice_index_or answers 0 [];
  homes = slice_index_or answers 1 [];
  parts = slice_index_or answers 2 [];
  decided = slice_index_or answers 3 [];
}

abbrev pub first_tables_of : Trees → FirstTables
first_tables_of db = record { base = db 2; homes = db 3; parts = db 4; decided = db 6 }

-- the number is the greatest of these, and 0 where there is none
pub record IsGreatest (Is : ℕ → Type 0) (n : ℕ) : Type 0 where
  pub above : (top : ℕ) → Is top → top ≤ n
  pub is : (n ≡ 0) ⊎ Is n

-- the top action has a record
abbrev pub IsPrepared : Records → ℕ → Type 0
IsPrepared prepared top = IsSome (map.get prepared top)

-- The content that the tables of version 1 stand for with this count: what they have and nothing else, and the number
-- of the next top action is one more than the greatest that is prepared or decided. `first` is as in `Holds`.
pub record HoldsFirst (first : ℕ) (t : FirstTables) (count : ℕ) (c : Stored) : Type 0 where
  pub base : Lists (ShowsPart first) t.base (HasBase c.base)
  pub homes : Lists (ShowsHome first) t.homes (HasHome c.prepared)
  pub parts : Lists (ShowsRecord IsText first) t.parts (HasPart c.prepared)
  pub rising : AreRising c.prepared
  pub decided : Lists ShowsTop t.decided (IsDecided c.decided)
  pub counted : c.count ≡ count
  pub last : ℕ
  pub greatest : IsGreatest (λ top. IsPrepared c.prepared top ⊎ IsDecided c.decided top) last
  pub next : c.next_top ≡ last + 1
