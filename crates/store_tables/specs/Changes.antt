-- Other contents.
use Rattle.std.specs.Prelude.{ℕ, List, fold}
use Rattle.std.specs.FinMap as map
use Rattle.std.specs.FinSet as set
use Rattle.atomic_types.specs.declared.part.Part.{Part}
use Rattle.stable_store.specs.Stored.{Stored}
use Rattle.store_tables.specs.Parts.{Base}

-- another count
abbrev pub with_count : ℕ → Stored → Stored
with_count n c = record c { count = n }

-- another number of the next top action
abbrev pub with_next : ℕ → Stored → Stored
with_next n c = record c { next_top = n }

-- another part of an object
abbrev pub with_part : ℕ → Part → Stored → Stored
with_part object p c = record c { base = map.insert c.base object p }

-- another base
abbrev pub with_base : Base → Stored → Stored
with_base base c = record c { base = base }

-- these parts, each in place of what its object had
abbrev pub all_put : List (ℕ × Part) → Base → Base
all_put parts base = fold (λ b e. map.insert b e.0 e.1) base parts

-- another record of a top action
abbrev pub with_record : ℕ → ℕ → List (ℕ × Part) → Stored → Stored
with_record top home parts c =
    record c { prepared = map.insert c.prepared top (record { home = home; parts = parts }) }

-- nothing decided
abbrev pub with_none_decided : Stored → Stored
with_none_decided c = record c { decided = set.empty }
