-- The locks on one object: the holders of each class, rising by name.
use Rattle.std.specs.Prelude.{Bool, not, ◌&&◌, ◌||◌, List, filter, if◌then◌else◌, Option, Some, None}
use Rattle.std.specs.List.{list_any}
use Rattle.std.specs.BTreeSet.{insert_key}
use Rattle.action_names.specs.Names.{Name, same_name, is_ancestor, name_cmp, has_name}
use Rattle.atomic_types.specs.declared.op.Class.{Class}
use Rattle.atomic_types.specs.declared.op.Class.TheVariants.{Read, Write, Add}
use Rattle.atomic_types.specs.Operations.{classes_conflict}

-- Who holds an operation of each class. One that writes may also add: the definitions then do not show its lock to
-- add (`shown_adders`).
pub record Locks : Type 0 where
  pub readers : List Name
  pub writers : List Name
  pub adders : List Name

abbrev pub holders_of : Locks → Class → List Name
holders_of locks Read = locks.readers
holders_of locks Write = locks.writers
holders_of locks Add = locks.adders

-- b holds an operation of a class that conflicts with this one
abbrev pub holds_conflicting : Locks → Class → Name → Bool
holds_conflicting locks wanted b =
    (classes_conflict Read wanted && has_name locks.readers b)
    || (classes_conflict Write wanted && has_name locks.writers b)
    || (classes_conflict Add wanted && has_name locks.adders b)

-- an operation of this class by a has to wait for b, which is no ancestor of a (Moss 1981)
abbrev pub is_in_the_way : Locks → Name → Class → Name → Bool
is_in_the_way locks a wanted b = not (is_ancestor b a) && holds_conflicting locks wanted b

-- one of the holders is no ancestor of a
abbrev pub has_foreign : List Name → Name → Bool
has_foreign holders a = list_any (λ b. not (is_ancestor b a)) holders

-- an operation of this class by a has to wait for somebody
abbrev pub must_wait : Locks → Name → Class → Bool
must_wait locks a wanted =
    (classes_conflict Read wanted && has_foreign locks.readers a)
    || (classes_conflict Write wanted && has_foreign locks.writers a)
    || (classes_conflict Add wanted && has_foreign locks.adders a)

-- the holders of adds that write nothing: what a holder adds belongs to its version, if it has one
abbrev pub shown_adders : Locks → List Name
shown_adders locks = filter (λ b. not (has_name locks.writers b)) locks.adders

-- the holders of a class, as the definitions have them
abbrev pub shown_holders : Locks → Class → List Name
shown_holders locks Read = locks.readers
shown_holders locks Write = locks.writers
shown_holders locks Add = shown_adders locks

-- the locks with other holders of this class
abbrev pub with_holders : Locks → Class → List Name → Locks
with_holders locks Read names =
    record { readers = names; writers = locks.writers; adders = locks.adders }
with_holders locks Write names =
    record { readers = locks.readers; writers = names; adders = locks.adders }
with_holders locks Add names =
    record { readers = locks.readers; writers = locks.writers; adders = names }

abbrev pub granted : Locks → Name → Class → Locks
granted locks a class = with_holders locks class (insert_key name_cmp (holders_of locks class) a)

-- the holders but a
abbrev pub all_but : Name → List Name → List Name
all_but a holders = filter (λ b. not (same_name b a)) holders

abbrev pub revoked : Locks → Name → Class → Locks
revoked locks a class = with_holders locks class (all_but a (holders_of locks class))

-- the next holder beside a, where a holds
abbrev pub with_next : List Name → Name → Option Name → List Name
with_next holders a None = holders
with_next holders a (Some p) = if has_name holders a then insert_key name_cmp holders p else holders

abbrev pub with_next_holder : Locks → Name → Option Name → Locks
with_next_holder locks a to = record {
  readers = with_next locks.readers a to;
  writers = with_next locks.writers a to;
  adders = with_next locks.adders a to;
}

-- the next holder in the place of a; without one nobody holds what a held
abbrev pub passed : Name → Option Name → List Name → List Name
passed a to holders = all_but a (with_next holders a to)

abbrev pub inherited : Locks → Name → Option Name → Locks
inherited locks a to = record {
  readers = passed a to locks.readers;
  writers = passed a to locks.writers;
  adders = passed a to locks.adders;
}

-- the holders but a and its descendants
abbrev pub without : Name → List Name → List Name
without a holders = filter (λ b. not (is_ancestor a b)) holders

abbrev pub dropped_below : Locks → Name → Locks
dropped_below locks a = record {
  readers = without a locks.readers;
  writers = without a locks.writers;
  adders = without a locks.adders;
}

-- one of the holders is a or a descendant
abbrev pub has_below : List Name → Name → Bool
has_below holders a = list_any (λ b. is_ancestor a b) holders
