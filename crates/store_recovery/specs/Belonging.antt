-- What may stand in the stores of a system: what fits the objects that its guardians have.
use Rattle.std.specs.Prelude.{ℕ, zero, suc, ◌+◌, Bool, true, false, ◌&&◌, ◌==◌, nat_le, List, [], ◌∷◌, length, Option, Some, None, slice_get}
use Rattle.std.specs.List.{list_all, zip}
use Rattle.std.specs.FinMap as map
use Rattle.values.specs.declared.content.Content.{Content}
use Rattle.values.specs.declared.content.Content.TheVariants as content
use Rattle.values.specs.declared.record.Field.{Field}
use Rattle.values.specs.declared.value.Kind.{Kind}
use Rattle.values.specs.declared.variant.Tag.{Tag}
use Rattle.values.specs.Values.{kind_of, same_kind}
use Rattle.values.specs.Words.{same_bytes}
use Rattle.atomic_types.specs.declared.part.Part.{Part}
use Rattle.atomic_types.specs.declared.part.Part.TheVariants.{Value, Delta}
use Rattle.run_model.specs.Openings.{Setup, objects_at}
use Rattle.stable_store.specs.Stored.{Record, Stored}

-- as many, and at each place alike
abbrev pub alike_each : {X : Type 0} → (X → X → Bool) → List X → List X → Bool
alike_each same xs ys = (length xs == length ys) && list_all (λ p. same p.0 p.1) (zip xs ys)

-- a field of the same name and kind
abbrev pub same_field : Field → Field → Bool
same_field f g = same_bytes f.name g.name && same_kind (kind_of f.value) (kind_of g.value)

-- a tag of the same name and kind
abbrev pub same_tag : Tag → Tag → Bool
same_tag t u = same_bytes t.name u.name && same_kind t.kind u.kind

-- a record of fields alike
abbrev pub is_record : List Field → Content → Bool
is_record fs (content.Record gs) = alike_each same_field fs gs
is_record fs _ = false

-- an array of this kind
abbrev pub is_array : Kind → Content → Bool
is_array k (content.Array b) = same_kind k b.kind
is_array k _ = false

-- a variant of tags alike
abbrev pub is_variant : List Tag → Content → Bool
is_variant ts (content.Variant w) = alike_each same_tag ts w.tags
is_variant ts _ = false

-- it counts
abbrev pub is_counter : Content → Bool
is_counter (content.Counter n) = true
is_counter _ = false

-- The other content is of the same type. Each type has its line here, so that a new one cannot be forgotten.
abbrev pub same_type : Content → Content → Bool
same_type (content.Record fs) other = is_record fs other
same_type (content.Array a) other = is_array a.kind other
same_type (content.Variant v) other = is_variant v.tags other
same_type (content.Counter n) other = is_counter other

-- a part may stand for an object that was set up with this content: a value of its type, or a delta for a counter
abbrev pub suits : Option Content → Part → Bool
suits None part = false
suits (Some c) (Value v) = same_type c v
suits (Some c) (Delta z) = is_counter c

-- what the object of this number was set up with; numbers are from 1
abbrev pub object_at : List Content → ℕ → Option Content
object_at objects zero = None
object_at objects (suc n) = slice_get objects n

-- each part suits its object
abbrev pub all_suit : List Content → List (ℕ × Part) → Bool
all_suit objects parts = list_all (λ p. suits (object_at objects p.0) p.1) parts

-- the home is a guardian of the setup, and the parts suit these objects
abbrev pub record_belongs : Setup → List Content → Record → Bool
record_belongs setup objects r =
    nat_le 1 r.home && (nat_le r.home (length setup) && all_suit objects r.parts)

-- what a store contains may stand in the store of this guardian of the setup
abbrev pub belongs : Setup → ℕ → Stored → Bool
belongs setup guardian s =
    all_suit (objects_at setup guardian) (map.entries s.base)
    && list_all (λ e. record_belongs setup (objects_at setup guardian) e.1) (map.entries s.prepared)

-- the stores of the guardians from this one on
abbrev pub belong_from : Setup → ℕ → List Stored → Bool
belong_from setup guardian [] = true
belong_from setup guardian (s ∷ stores) =
    belongs setup guardian s && belong_from setup (guardian + 1) stores

-- each store's content may stand in the store of its guardian
abbrev pub all_belong : Setup → List Stored → Bool
all_belong setup stores = belong_from setup 1 stores
