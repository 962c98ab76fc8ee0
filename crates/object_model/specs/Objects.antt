-- One object as contracts see it, and what calls make of it.
use Rattle.std.specs.Prelude.{◌≡◌, ℤ, pos, Bool, true, false, not, ◌||◌, List, [], ◌∷◌, map, filter, Option, Some, None, is_some, if◌then◌else◌}
use Rattle.std.specs.List.Sorted.{IsStrictlySortedBy}
use Rattle.action_names.specs.Names.{Name, same_name, is_ancestor, name_cmp, has_name}
use Rattle.values.specs.declared.content.Content.{Content}
use Rattle.values.specs.declared.value.Value.TheVariants.{Int}
use Rattle.atomic_types.specs.declared.op.Class.{Class}
use Rattle.atomic_types.specs.declared.op.Class.TheVariants.{Read, Write, Add}
use Rattle.atomic_types.specs.declared.operation.Operation.TheVariants as op
use Rattle.atomic_types.specs.declared.part.Part.{Part}
use Rattle.atomic_types.specs.declared.part.Part.TheVariants.{Value, Delta}
use Rattle.atomic_types.specs.Counters.{sum_of}
use Rattle.atomic_types.specs.Objects.{content_after}
use Rattle.atomic_types.specs.Operations.{Op, class_of}
use Rattle.object_model.specs.Stacks.{RisesByAncestry, Stack, top_of, last_owner, version_at, written, inherited, added, dropped_below}
use Rattle.object_model.specs.Deltas.{delta_at, delta_sum, more_at, with_more, HasDelta, HasNoneBelow}
use Rattle.object_model.specs.Locks as locks
use Rattle.object_model.specs.Locks.{Locks}

-- the stack of its versions, the deltas beside it, and its locks
pub record Seen : Type 0 where
  pub stack : Stack Content
  pub deltas : List (Name × ℤ)
  pub locks : Locks

-- a has a version of its own
abbrev pub owns : Seen → Name → Bool
owns object a = is_some (version_at object.stack.versions a)

abbrev pub NamesRise : List (Name × ℤ) → Type 0
NamesRise ds = IsStrictlySortedBy name_cmp (map (λ d. d.0) ds)

-- an object of this content, of which nobody holds anything
abbrev pub untouched : Content → Seen
untouched c =
    record { stack = record { base = c; versions = [] }; deltas = []; locks = record { readers = []; writers = []; adders = [] } }

-- how much an operation adds
abbrev pub amount_of : Op → ℤ
amount_of (op.Add (Int z)) = z
amount_of _ = pos 0

-- the object once a added: to its version, where it owns one, or else to its delta
abbrev pub AddsBy : Bool → Seen → Seen → Name → Op → Type 0
AddsBy true old new a wanted =
    (new.stack ≡ written old.stack a (content_after (top_of old.stack) wanted))
    × (new.deltas ≡ old.deltas)
AddsBy false old new a wanted = (new.stack ≡ old.stack)
    × HasDelta old.deltas new.deltas a (more_at old.deltas a (amount_of wanted))

-- the object once an operation of a was granted: a read leaves it, a write is a's version on top, and an add belongs
-- to a's version or else to its delta
abbrev pub OperatesBy : Class → Seen → Seen → Name → Op → Type 0
OperatesBy Read old new a wanted = (new.stack ≡ old.stack) × (new.deltas ≡ old.deltas)
OperatesBy Write old new a wanted =
    (new.stack ≡ written old.stack a (content_after (top_of old.stack) wanted))
    × HasDelta old.deltas new.deltas a None
OperatesBy Add old new a wanted = AddsBy (owns old a) old new a wanted

pub record IsOperated (a : Name) (wanted : Op) (old new : Seen) : Type 0 where
  pub parts : OperatesBy (class_of wanted) old new a wanted
  pub rising : NamesRise new.deltas
  pub locks : new.locks ≡ locks.granted old.locks a (class_of wanted)

-- the next holder is b
abbrev pub is_next : Option Name → Name → Bool
is_next None b = false
is_next (Some p) b = same_name p b

-- the stack once what a added is added to the next holder's version, if it has one, or to the base
abbrev pub with_delta : Stack Content → Option Name → Option ℤ → Stack Content
with_delta s to None = s
with_delta s to (Some z) = added content_after s to z

-- the stack once the next holder has what a held: a's version, or what a added
abbrev pub passed_stack : Seen → Name → Option Name → Stack Content
passed_stack object a to = if owns object a then inherited object.stack a to
    else with_delta object.stack to (delta_at object.deltas a)

-- what the next holder adds then: nothing beside a version, which covers what was added below it
abbrev pub next_delta : Seen → Name → Name → Option ℤ
next_delta object a p = if owns object a || owns object p then None
    else with_more (delta_at object.deltas p) (delta_at object.deltas a)

abbrev pub passed_delta : Seen → Name → Option Name → Name → Option ℤ
passed_delta object a to b =
    if same_name a b then None
    else (if is_next to b then next_delta object a b else delta_at object.deltas b)

-- the object once the next holder has what a held; without one the base has it
pub record IsPassed (a : Name) (to : Option Name) (old new : Seen) : Type 0 where
  pub stack : new.stack ≡ passed_stack old a to
  pub deltas : (b : Name) → delta_at new.deltas b ≡ passed_delta old a to b
  pub rising : NamesRise new.deltas
  pub locks : new.locks ≡ locks.inherited old.locks a to

-- the object without what a and its descendants held
pub record IsUndone (a : Name) (old new : Seen) : Type 0 where
  pub stack : new.stack ≡ dropped_below old.stack a
  pub deltas : HasNoneBelow old.deltas new.deltas a
  pub rising : NamesRise new.deltas
  pub locks : new.locks ≡ locks.dropped_below old.locks a

-- the object once a crash left just what these actions wrote and added
pub record IsCrashed (stays : Name → Bool) (old new : Seen) : Type 0 where
  pub base : new.stack.base ≡ old.stack.base
  pub versions : new.stack.versions ≡ filter (λ v. stays v.0) old.stack.versions
  pub deltas : (b : Name)
      → delta_at new.deltas b ≡ (if stays b then delta_at old.deltas b else None)
  pub rising : NamesRise new.deltas
  pub locks : new.locks
      ≡ record { readers = []; writers = filter stays old.locks.writers; adders = filter stays old.locks.adders }

-- the value and the delta, within 64 bits, that a store gave back of an action
abbrev pub value_in : List (Name × Part) → Name → Option Content
value_in [] a = None
value_in ((b, Value v) ∷ parts) a = if same_name b a then Some v else value_in parts a
value_in ((b, Delta z) ∷ parts) a = value_in parts a

abbrev pub delta_in : List (Name × Part) → Name → Option ℤ
delta_in [] a = None
delta_in ((b, Value v) ∷ parts) a = delta_in parts a
delta_in ((b, Delta z) ∷ parts) a =
    if same_name b a then Some (sum_of (pos 0) z) else delta_in parts a

-- an object of this content of which a store gave these parts back
pub record IsRestored (c : Content) (parts : List (Name × Part)) (object : Seen) : Type 0 where
  pub base : object.stack.base ≡ c
  pub versions : (a : Name) → version_at object.stack.versions a ≡ value_in parts a
  pub chain : RisesByAncestry object.stack.versions
  pub deltas : (a : Name) → delta_at object.deltas a ≡ delta_in parts a
  pub rising : NamesRise object.deltas
  pub readers : object.locks.readers ≡ []
  pub writers : (a : Name) → has_name object.locks.writers a ≡ is_some (value_in parts a)
  pub adders : (a : Name) → has_name object.locks.adders a ≡ is_some (delta_in parts a)

-- what a holds: its version, or else what it added
abbrev pub part_in : Option Content → Option ℤ → Option Part
part_in (Some c) z = Some (Value c)
part_in None (Some z) = Some (Delta z)
part_in None None = None

abbrev pub part_of : Seen → Name → Option Part
part_of object a = part_in (version_at object.stack.versions a) (delta_at object.deltas a)

-- whoever adds this is no ancestor of the owner: what an ancestor added is not seen under the owner's version
abbrev pub is_beside : Option Name → Name → Bool
is_beside None a = true
is_beside (Some owner) a = not (is_ancestor a owner)

abbrev pub deltas_beside : Seen → List (Name × ℤ)
deltas_beside object = filter (λ d. is_beside (last_owner object.stack.versions) d.0) object.deltas

abbrev pub with_sum : Content → List (Name × ℤ) → Content
with_sum c [] = c
with_sum c (d ∷ ds) = content_after c (op.Add (Int (delta_sum (d ∷ ds))))

-- the version on top, with what is added beside it
abbrev pub total_of : Seen → Content
total_of object = with_sum (top_of object.stack) (deltas_beside object)
