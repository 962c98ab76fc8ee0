-- Where the numbers of a name lie: they begin an array.
use Rattle.std.specs.Prelude.{◌≡◌, ℕ, ◌<◌, ◌≤◌, List, length}
use Rattle.std.specs.Arc.{arc_value}
use Rattle.action_names.specs.Names.{max_depth}
use Rattle.action_names.specs.declared.numbers.Place.{Place}
use Rattle.action_names.specs.declared.numbers.Place.TheVariants.{Deep, Here, Shared}

-- the array at a place
abbrev pub array_at : Place → List ℕ
array_at (Here few) = few
array_at (Shared some) = arc_value some
array_at (Deep many) = arc_value many

-- so many numbers lie there: up to 8 in the value itself, and more in memory that copies share, of 16 or of 32
abbrev pub IsPlaceOf : ℕ → Place → Type 0
IsPlaceOf count (Here few) = (count ≤ 8) × (length few ≡ 8)
IsPlaceOf count (Shared some) = (8 < count) × (count ≤ 16) × (length (arc_value some) ≡ 16)
IsPlaceOf count (Deep many) = (8 < count) × (count ≤ max_depth)
    × (length (arc_value many) ≡ max_depth)
