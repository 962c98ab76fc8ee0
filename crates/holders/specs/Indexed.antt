-- Rows that are found by a hash, in the order of their names.
use Rattle.std.specs.Prelude.{List}
use Rattle.std.specs.FinMap as map
use Rattle.action_names.specs.Names.{Name, name_cmp}

-- the rows of a map in the order of names, whatever order they stand in there
abbrev pub ordered : {X : Type 0} → List (Name × X) → List (Name × X)
ordered rs = map.entries (map.from_entries {R = name_cmp} rs)
