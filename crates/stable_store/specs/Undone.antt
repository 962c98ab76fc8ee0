-- The way back from parts that were laid over others.
use Rattle.std.specs.Prelude.{ℕ, List, [], ◌∷◌, Option, Some, None, IsSome}
use Rattle.std.specs.Ordering.{nat_cmp}
use Rattle.std.specs.FinMap as map
use Rattle.atomic_types.specs.declared.part.Part.{Part}

-- the object has what it had before, or nothing again
abbrev pub restored : ℕ → Option Part → map.FinMap nat_cmp Part → map.FinMap nat_cmp Part
restored object None base = map.remove base object
restored object (Some part) base = map.insert base object part

-- what is left once the objects were given back what they had, the last first
abbrev pub undone : List (ℕ × Option Part) → map.FinMap nat_cmp Part → map.FinMap nat_cmp Part
undone [] base = base
undone (r ∷ rs) base = restored r.0 r.1 (undone rs base)

-- each object has a part when its turn comes
abbrev pub CanUndo : List (ℕ × Option Part) → map.FinMap nat_cmp Part → Type 0
CanUndo [] base = Unit {0}
CanUndo (r ∷ rs) base = CanUndo rs base × IsSome (map.get (undone rs base) r.0)
