-- What is known of an object under what its store held.
use Rattle.std.proofs.Common.{ℤ, refl, ◌≡◌}
use Rattle.values.specs.declared.content.Content.{Content}
use Rattle.values.specs.declared.content.Content.TheVariants.{Record, Array, Variant, Counter}
use Rattle.atomic_types.specs.Operations.{Op}
use Rattle.atomic_types.specs.declared.operation.Operation.TheVariants.{Get, Add}
use Rattle.atomic_types.specs.declared.part.Part.TheVariants.{Delta}
use Rattle.atomic_types.specs.Parts.{laid}
use Rattle.atomic_types.specs.Objects.{knows}
use Rattle.atomic_types.specs.Counters.{counter_after, counter_knows}
use Rattle.values.specs.declared.value.Value.TheVariants.{Int}

-- which operations belong to a counter does not go by its number
counter_known : (n m : ℤ) (op : Op) → counter_knows n op ≡ counter_knows m op
counter_known n m (Get field) = refl
counter_known n m _ = refl

-- a delta leaves which operations belong to the object
pub known_under : (z : ℤ) (c : Content) (op : Op) → knows (laid (Delta z) c) op ≡ knows c op
known_under z (Record fields) op = refl
known_under z (Array a) op = refl
known_under z (Variant v) op = refl
known_under z (Counter n) op = counter_known (counter_after n (Add (Int z))) n op
