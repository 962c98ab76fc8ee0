-- Parts that take the place of others, and need not be put together with them.
use Rattle.std.specs.Prelude.{ℕ, Bool, true, false, List, IsTrue, IsSome}
use Rattle.std.specs.List.{AllByRecursion}
use Rattle.std.specs.Ordering.{nat_cmp}
use Rattle.std.specs.FinMap as map
use Rattle.atomic_types.specs.declared.part.Part.{Part}
use Rattle.atomic_types.specs.declared.part.Part.TheVariants.{Value, Delta}

abbrev pub is_value : Part → Bool
is_value (Value c) = true
is_value (Delta by) = false

-- each is a value of an object that the base has
abbrev pub CanMove : List (ℕ × Part) → map.FinMap nat_cmp Part → Type 0
CanMove parts base = AllByRecursion (λ p. IsTrue (is_value p.1) × IsSome (map.get base p.0)) parts
