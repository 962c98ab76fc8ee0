-- What a stable store may hold of an object, and its one spelling as JSON.
use Rattle.std.specs.Prelude.{ℕ, ℤ, List, codes}
use Rattle.serde_json.specs.Data.{Data, object, no_members, member}
use Rattle.serde_json.specs.Written.{compact_text}
use Rattle.values.specs.Totals.{IsCounter, counter_data}
use Rattle.values.specs.Contents.{IsStoredContent, content_data}
use Rattle.atomic_types.specs.declared.part.Part.{Part}
use Rattle.atomic_types.specs.declared.part.Part.TheVariants.{Value, Delta}

-- a value is a content that a store may hold, a delta a number of signed 64 bits
abbrev pub IsStoredPart : Part → Type 0
IsStoredPart (Value c) = IsStoredContent c
IsStoredPart (Delta z) = IsCounter z

abbrev pub delta_data : ℤ → Data
delta_data z = object (member (codes "delta") (counter_data z) no_members)

-- the JSON document that a part is
abbrev pub part_data : Part → Data
part_data (Value c) = content_data c
part_data (Delta z) = delta_data z

-- its one spelling
abbrev pub part_text : Part → List ℕ
part_text p = compact_text (part_data p)
