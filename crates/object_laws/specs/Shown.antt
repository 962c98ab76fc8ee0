-- How an object shows the way in which it stands: its kept operations, who was told committed, and what a store gave
-- back.
use Rattle.std.specs.Prelude.{◌≡◌, Bool, true, false, not, ◌&&◌, IsTrue, Option, Some, None}
use Rattle.std.specs.List.{AllByRecursion, list_any}
use Rattle.action_names.specs.Names.{Name, has_name, same_name}
use Rattle.values.specs.declared.content.Content.{Content}
use Rattle.atomic_types.specs.declared.op.Class.{Class}
use Rattle.atomic_types.specs.declared.op.Class.TheVariants.{Read, Write, Add}
use Rattle.atomic_types.specs.declared.part.Part.{Part}
use Rattle.atomic_types.specs.declared.part.Part.TheVariants.{Value, Delta}
use Rattle.atomic_types.specs.Objects.{knows}
use Rattle.atomic_types.specs.Operations.{Op}
use Rattle.run_model.specs.Keeping.{Standing}
use Rattle.run_model.specs.Versions.{Lock, adders_by, base_by, delta_by, locks_by, owners_by, version_by}
use Rattle.local_laws.specs.Orderly.{IsOrderly}
use Rattle.object_model.specs.Stacks.{RisesByAncestry, version_at}
use Rattle.object_model.specs.Deltas.{delta_at}
use Rattle.object_model.specs.Objects.{NamesRise, Seen}

abbrev pub only_if : {X : Type 0} → Bool → X → Option X
only_if {X} true x = Some x
only_if {X} false x = None

abbrev pub same_class : Class → Class → Bool
same_class Read Read = true
same_class Write Write = true
same_class Add Add = true
same_class _ _ = false

abbrev pub is_lock : Name → Class → Lock → Bool
is_lock a class l = same_name l.0 a && same_class l.1 class

-- a part that a store gave back is a value with the operations of the content, or a delta
abbrev pub PartFits : Content → Part → Type 0
PartFits c (Value v) = (op : Op) → knows v op ≡ knows c op
PartFits c (Delta z) = Unit {0}

-- the object of the content c that stands so: the base is what belongs to it, each owner has its version, each adder
-- its delta, and the holders of each class are those of the lock set; who writes may hold a lock to add besides,
-- which the lock set does not show
pub record Shows (c : Content) (s : Standing) (object : Seen) : Type 0 where
  pub base : object.stack.base ≡ base_by c s
  pub versions : (a : Name)
      → version_at object.stack.versions a ≡ only_if (has_name (owners_by s) a) (version_by c s a)
  pub rising : RisesByAncestry object.stack.versions
  pub deltas : (a : Name)
      → delta_at object.deltas a ≡ only_if (has_name (adders_by s) a) (delta_by s a)
  pub names_rise : NamesRise object.deltas
  pub readers : (a : Name)
      → has_name object.locks.readers a ≡ list_any (λ l. is_lock a Read l) (locks_by s)
  pub writers : (a : Name)
      → has_name object.locks.writers a ≡ list_any (λ l. is_lock a Write l) (locks_by s)
  pub adders : (a : Name)
      → (has_name object.locks.adders a && not (has_name object.locks.writers a))
      ≡ list_any (λ l. is_lock a Add l) (locks_by s)
  -- the operations belong to the object, and what was given back fits it
  pub known : AllByRecursion (λ o. IsTrue (knows c o.operation)) s.kept
  pub fit : AllByRecursion (λ r. PartFits c r.1) s.restored
  -- what is newer stands under what it conflicts with
  pub orderly : IsOrderly s
