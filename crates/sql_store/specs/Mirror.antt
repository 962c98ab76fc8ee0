-- The content that the tables stand for, in maps.
use Rattle.std.specs.Prelude.{ℕ, List, map as each, Option, Some, None}
use Rattle.std.specs.FinMap as map
use Rattle.atomic_types.specs.declared.part.Part.{Part}
use Rattle.atomic_types.specs.Parts.{over}
use Rattle.stable_store.specs.Stored.{Record}
use Rattle.store_tables.specs.Parts.{Base, Records}

-- the record that a top action had before, or none again
abbrev pub record_back : ℕ → Option Record → Records → Records
record_back top None records = map.remove records top
record_back top (Some r) records = map.insert records top r

-- each part laid over what its object has
abbrev pub over_each : List (ℕ × Part) → Base → List (ℕ × Part)
over_each parts base = each (λ e. (e.0, over e.1 (map.get base e.0))) parts
