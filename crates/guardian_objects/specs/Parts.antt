-- Parts of objects under their numbers.
use Rattle.std.specs.Prelude.{ℕ, List, Option, Some, None}
use Rattle.std.specs.BTreeMap.{insert_entry}
use Rattle.std.specs.Ordering.{nat_cmp}
use Rattle.atomic_types.specs.declared.part.Part.{Part}

-- with one more, if there is one
abbrev pub with_part : ℕ → Option Part → List (ℕ × Part) → List (ℕ × Part)
with_part n None parts = parts
with_part n (Some p) parts = insert_entry nat_cmp parts n p
