-- What a content has of homes and parts, one by one.
use Rattle.std.specs.Prelude.{◌≡◌, ℕ, true, Option, Some, None, option_map, IfSome}
use Rattle.std.specs.Ordering.{nat_cmp}
use Rattle.std.specs.FinMap as map
use Rattle.std.specs.FinSet as set
use Rattle.atomic_types.specs.declared.part.Part.{Part}
use Rattle.stable_store.specs.Stored.{Record}

abbrev pub Base : Type 0
Base = map.FinMap nat_cmp Part

abbrev pub Records : Type 0
Records = map.FinMap nat_cmp Record

-- this is installed of this object
abbrev pub HasBase : Base → ℕ × Part → Type 0
HasBase base e = map.get base e.0 ≡ Some e.1

-- the record of this top action has this home
abbrev pub HasHome : Records → ℕ × ℕ → Type 0
HasHome prepared e = option_map (λ (r : Record). r.home) (map.get prepared e.0) ≡ Some e.1

abbrev pub part_in : Option Record → ℕ → Option Part
part_in None object = None
part_in (Some r) object = map.find nat_cmp object r.parts

-- the record of this top action has this part of this object
abbrev pub HasPart : Records → ℕ × (ℕ × Part) → Type 0
HasPart prepared e = part_in (map.get prepared e.0) e.1.0 ≡ Some e.1.1

abbrev pub IsDecided : set.FinSet nat_cmp → ℕ → Type 0
IsDecided decided n = set.contains decided n ≡ true

-- the parts of each record come by rising objects
abbrev pub AreRising : Records → Type 0
AreRising prepared = (top : ℕ)
    → IfSome (map.get prepared top) (λ r. map.is_sorted nat_cmp r.parts ≡ true)

-- nothing is prepared of any object
abbrev pub HaveNoParts : Records → Type 0
HaveNoParts prepared = (e : ℕ × (ℕ × Part)) → HasPart prepared e → ⊥
