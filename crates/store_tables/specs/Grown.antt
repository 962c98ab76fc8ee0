-- What one row more brings.
use Rattle.std.specs.Prelude.{◌≡◌, ◌⊎◌, ℕ, true, List, Some, None, option_map, if◌then◌else◌}
use Rattle.std.specs.Ordering.{nat_cmp, eq_by_cmp}
use Rattle.atomic_types.specs.declared.part.Part.{Part}
use Rattle.std.specs.FinMap as map
use Rattle.sqlite.specs.Order.{Row}
use Rattle.sqlite_rules.specs.Lists.{Has}
use Rattle.stable_store.specs.Stored.{Record}
use Rattle.store_tables.specs.Parts.{Records, AreRising}

-- there is one thing more
pub record Adds {X : Type 0} (Was Is : X → Type 0) (x : X) : Type 0 where
  pub here : Is x
  pub stays : (y : X) → Was y → Is y
  pub back : (y : X) → Is y → (y ≡ x) ⊎ Was y

-- the row shows it
pub record AddsShown {X : Type 0} (Shows : Row → X → Type 0) (row : Row)
    (Was Is : X → Type 0) : Type 0 where
  pub thing : X
  pub shows : Shows row thing
  pub adds : Adds Was Is thing

-- beside what there was there is what the rows show, and nothing else
pub record ListsMore {X : Type 0} (Shows : Row → X → Type 0) (rows : List Row)
    (Was Is : X → Type 0) : Type 0 where
  pub each : (r : Row) → Has rows r → (x : X) × Shows r x × Is x
  pub from : (x : X) → Is x → Was x ⊎ ((r : Row) × Has rows r × Shows r x)
  pub stays : (x : X) → Was x → Is x

abbrev pub HaveSameHomes : Records → Records → Type 0
HaveSameHomes before after =
    (top : ℕ) → option_map (λ (r : Record). r.home) (map.get after top)
    ≡ option_map (λ (r : Record). r.home) (map.get before top)

-- the records have their homes, and their parts rise if they did
pub record KeepsRecords (before after : Records) : Type 0 where
  pub homes : HaveSameHomes before after
  pub rising : AreRising before → AreRising after

-- the parts of a record have one more, of an object that had none, and rise
pub record TakesOne (object : ℕ) (part : Part) (before after : List (ℕ × Part)) : Type 0 where
  pub new : map.find nat_cmp object before ≡ None
  pub found : (q : ℕ) → map.find nat_cmp q after
      ≡ (if eq_by_cmp nat_cmp q object then Some part else map.find nat_cmp q before)
  pub rising : map.is_sorted nat_cmp after ≡ true
