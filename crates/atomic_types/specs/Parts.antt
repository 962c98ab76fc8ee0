-- What a stable store holds of an object, and what that makes of the object's content.
use Rattle.std.specs.Prelude.{Option, Some, None}
use Rattle.values.specs.declared.content.Content.{Content}
use Rattle.values.specs.declared.value.Value.TheVariants.{Int}
use Rattle.atomic_types.specs.declared.operation.Operation.TheVariants.{Add}
use Rattle.atomic_types.specs.declared.part.Part.{Part}
use Rattle.atomic_types.specs.declared.part.Part.TheVariants.{Value, Delta}
use Rattle.atomic_types.specs.Counters.{sum_of}
use Rattle.atomic_types.specs.Objects.{content_after}

-- the content under it: a value stands in its place, a delta is added to it
abbrev pub laid : Part → Content → Content
laid (Value v) c = v
laid (Delta z) c = content_after c (Add (Int z))

abbrev pub laid_where : Option Part → Content → Content
laid_where None c = c
laid_where (Some p) c = laid p c

-- what is installed over what was: a value takes its place, a delta is added to the value or delta, or stands there
-- itself
abbrev pub over : Part → Option Part → Part
over (Value v) old = Value v
over (Delta z) None = Delta z
over (Delta z) (Some (Value v)) = Value (laid (Delta z) v)
over (Delta z) (Some (Delta y)) = Delta (sum_of y z)
