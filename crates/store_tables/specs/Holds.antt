-- What the tables of a store hold.
use Rattle.std.specs.Prelude.{◌≡◌, ℕ, ◌≤◌, List, [], ◌∷◌, codes}
use Rattle.sqlite.specs.Order.{Row, column}
use Rattle.sqlite.specs.Tree.{Trees}
use Rattle.sqlite_rules.specs.Lists.{Has}
use Rattle.sqlite_catalog.specs.Listing.{IsSound}
use Rattle.stable_store.specs.Stored.{Stored}
use Rattle.store_tables.specs.Tables.{stable_schema}
use Rattle.store_tables.specs.Rows.{HaveRowids}
use Rattle.store_tables.specs.Listed.{Lists}
use Rattle.store_tables.specs.Shown.{ShowsPart, ShowsHome, ShowsRecord, ShowsTop, ShowsNumber, IsValueText, IsAddedBy, IsValue, IsDelta}
use Rattle.store_tables.specs.Parts.{HasBase, HasHome, HasPart, IsDecided, AreRising}

-- the rows of each table, or what a query showed of them
pub record Tables : Type 0 where
  pub numbers : List Row
  pub base : List Row
  pub homes : List Row
  pub values : List Row
  pub deltas : List Row
  pub decided : List Row

abbrev pub tables_of : Trees → Tables
tables_of db =
    record { numbers = db 0; base = db 2; homes = db 3; values = db 4; deltas = db 7; decided = db 6 }

-- the three numbers of `meta`, each in its place
abbrev pub numbers : ℕ → ℕ → List (ℕ × (List ℕ × ℕ))
numbers count next_top =
    (1, (codes "version", 2)) ∷ (2, (codes "count", count)) ∷ (3, (codes "next_top", next_top)) ∷ []

abbrev pub greatest_next : ℕ
greatest_next = 4294967296

-- The tables have what the content has, and no other row. `first` is 1 for tables, and 0 for what queries showed of
-- them.
pub record Holds (first : ℕ) (t : Tables) (c : Stored) : Type 0 where
  pub numbered : Lists ShowsNumber t.numbers (Has (numbers c.count c.next_top))
  pub next_low : 1 ≤ c.next_top
  pub next_high : c.next_top ≤ greatest_next
  pub base : Lists (ShowsPart first) t.base (HasBase c.base)
  pub homes : Lists (ShowsHome first) t.homes (HasHome c.prepared)
  pub values :
      Lists (ShowsRecord IsValueText first) t.values (λ e. HasPart c.prepared e × IsValue e.1.1)
  pub deltas :
      Lists (ShowsRecord IsAddedBy first) t.deltas (λ e. HasPart c.prepared e × IsDelta e.1.1)
  pub rising : AreRising c.prepared
  pub decided : Lists ShowsTop t.decided (IsDecided c.decided)

-- the rows have rowids of their own, and hold this content
abbrev pub IsLaidOut : Trees → Stored → Type 0
IsLaidOut db c = HaveRowids db × Holds 1 (tables_of db) c

-- a database with the tables of a store alone, which hold this content and nothing else
pub record IsStore (db : Trees) (c : Stored) : Type 0 where
  pub sound : IsSound stable_schema db
  pub placed : HaveRowids db
  pub holds : Holds 1 (tables_of db) c

-- ---- what queries show of the tables

pub record IsViewOf (project : Row → Row) (answer table : List Row) : Type 0 where
  pub each : (r : Row) → Has table r → Has answer (project r)
  pub from : (a : Row) → Has answer a → (r : Row) × Has table r × (a ≡ project r)

abbrev pub numbers_shown : Row → Row
numbers_shown r = column r 0 ∷ column r 1 ∷ column r 2 ∷ []

abbrev pub pair_shown : Row → Row
pair_shown r = column r 0 ∷ column r 2 ∷ []

abbrev pub part_shown : Row → Row
part_shown r = column r 1 ∷ column r 2 ∷ column r 3 ∷ []

abbrev pub key_shown : Row → Row
key_shown r = column r 0 ∷ []

-- the answers show each row of the tables, and nothing else
pub record AreViews (t : Tables) (db : Trees) : Type 0 where
  pub numbers : IsViewOf numbers_shown t.numbers (db 0)
  pub base : IsViewOf pair_shown t.base (db 2)
  pub homes : IsViewOf pair_shown t.homes (db 3)
  pub values : IsViewOf part_shown t.values (db 4)
  pub deltas : IsViewOf part_shown t.deltas (db 7)
  pub decided : IsViewOf key_shown t.decided (db 6)
