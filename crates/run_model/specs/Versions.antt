-- The lock set and the stack of versions of an object.
use Rattle.std.specs.Prelude.{ℤ, pos, Bool, true, not, ◌&&◌, List, [], ◌∷◌, ◌++◌, map, if◌then◌else◌, Option, Some, None, is_none, filter, filter_map, ◌↔◌, Contains}
use Rattle.action_names.specs.Names.{Name, has_name, is_ancestor, rising_names}
use Rattle.values.specs.declared.content.Content.{Content}
use Rattle.atomic_types.specs.declared.op.Class.{Class}
use Rattle.atomic_types.specs.Operations as op
use Rattle.atomic_types.specs.declared.operation.Operation.TheVariants.{Add}
use Rattle.atomic_types.specs.Counters.{added_to, sum_of}
use Rattle.atomic_types.specs.Operations.{class_of, is_add, is_add_class, is_write, is_write_class}
use Rattle.run_model.specs.declared.step.ObjectId.{ObjectId}
use Rattle.run_model.specs.declared.history.Event.{Event}
use Rattle.run_model.specs.Telling.{holder_by}
use Rattle.run_model.specs.Keeping.{Performed, Standing, part_class, standing_of}
use Rattle.run_model.specs.Actions.{is_exactly}
use Rattle.run_model.specs.Openings.{Opening, first_content}
use Rattle.atomic_types.specs.declared.part.Part.{Part}
use Rattle.atomic_types.specs.declared.part.Part.TheVariants.{Value, Delta}
use Rattle.atomic_types.specs.Parts.{laid}
use Rattle.run_model.specs.Replay.{left_of}

-- who holds an operation, if anybody
abbrev pub holder_at : Standing → Performed → Option Name
holder_at s o = holder_by s.told o.action

abbrev pub holder : ObjectId → Performed → List Event → Option Name
holder x o past = holder_at (standing_of x past) o

-- a holder and what it holds
abbrev pub Lock : Type 0
Lock = Name × Class

abbrev pub lock_of : Option Name → Class → Option Lock
lock_of None class = None
lock_of (Some a) class = Some (a, class)

-- the holders of kept writes, by name: where each is an ancestor of the next, in order of ancestry
abbrev pub owners_by : Standing → List Name
owners_by s =
    rising_names (filter_map
    (λ r. if is_write_class (part_class r.1) then holder_by s.told r.0 else None) s.restored
    ++ filter_map (λ o. if is_write o.operation then holder_at s o else None) s.kept)

-- the lock is to add, and its holder is an owner
abbrev pub is_hidden : List Name → Lock → Bool
is_hidden owners l = is_add_class l.1 && has_name owners l.0

-- the holders and classes of what is kept and has a holder, as a list in which one may come twice; an owner has no
-- lock to add, since a value that was given back does not show what was added to it
abbrev pub locks_by : Standing → List Lock
locks_by s =
    filter (λ l. not (is_hidden (owners_by s) l))
    (filter_map (λ r. lock_of (holder_by s.told r.0) (part_class r.1)) s.restored
    ++ filter_map (λ o. lock_of (holder_at s o) (class_of o.operation)) s.kept)

abbrev pub locks_on : ObjectId → List Event → List Lock
locks_on x past = locks_by (standing_of x past)

-- these are the lock set: the same pairs, however often and in whatever order
abbrev pub IsLockSetBy : List Lock → Standing → Type 0
IsLockSetBy locks s = (l : Lock) → Contains locks l ↔ Contains (locks_by s) l

abbrev pub IsLockSet : List Lock → ObjectId → List Event → Type 0
IsLockSet locks x past = IsLockSetBy locks (standing_of x past)

abbrev pub is_held_above : Option Name → Name → Bool
is_held_above None a = true
is_held_above (Some b) a = is_ancestor b a

-- the content, under what was given back to actions that pass the test
abbrev pub under : Content → (Name → Bool) → List (Name × Part) → Content
under c passes [] = c
under c passes (r ∷ rs) = if passes r.0 then laid r.1 (under c passes rs) else under c passes rs

-- what is left of the content by what actions that pass the test wrote
abbrev pub written_by : Content → Standing → (Name → Bool) → Content
written_by c s passes = left_of (under c passes s.restored) (filter (λ o. passes o.action) s.kept)

-- what the operations that belong to the base leave of the content
abbrev pub base_by : Content → Standing → Content
base_by c s = written_by c s (λ b. is_none (holder_by s.told b))

abbrev pub base_of : Opening → ObjectId → List Event → Content
base_of opening x past = base_by (first_content opening x) (standing_of x past)

-- what the operations that belong to the base or to ancestors of a leave
abbrev pub version_by : Content → Standing → Name → Content
version_by c s a = written_by c s (λ b. is_held_above (holder_by s.told b) a)

abbrev pub version_of : Opening → ObjectId → Name → List Event → Content
version_of opening x a past = version_by (first_content opening x) (standing_of x past) a

abbrev pub owners : ObjectId → List Event → List Name
owners x past = owners_by (standing_of x past)

-- the versions above the base, outermost first
abbrev pub versions_by : Content → Standing → List (Name × Content)
versions_by c s = map (λ a. (a, version_by c s a)) (owners_by s)

abbrev pub versions : Opening → ObjectId → List Event → List (Name × Content)
versions opening x past = versions_by (first_content opening x) (standing_of x past)

-- the holders of kept adds that have no kept write, rising by name
abbrev pub adders_by : Standing → List Name
adders_by s =
    rising_names (filter (λ a. not (has_name (owners_by s) a))
    (filter_map (λ r. if is_add_class (part_class r.1) then holder_by s.told r.0 else None)
    s.restored
    ++ filter_map (λ o. if is_add o.operation then holder_at s o else None) s.kept))

-- a sum, with what a part or an operation adds to it
abbrev pub with_part : ℤ → Part → ℤ
with_part n (Value v) = n
with_part n (Delta z) = sum_of n z

abbrev pub with_add : ℤ → op.Op → ℤ
with_add n (Add v) = added_to n v
with_add n _ = n

abbrev pub sum_back : (Name → Bool) → List (Name × Part) → ℤ
sum_back passes [] = pos 0
sum_back passes (r ∷ rs) =
    if passes r.0 then with_part (sum_back passes rs) r.1 else sum_back passes rs

abbrev pub sum_on : ℤ → (Name → Bool) → List Performed → ℤ
sum_on n passes [] = n
sum_on n passes (o ∷ os) =
    if passes o.action then with_add (sum_on n passes os) o.operation else sum_on n passes os

-- what b did is held by a
abbrev pub is_held_by : Standing → Name → Name → Bool
is_held_by s a b = is_exactly (holder_by s.told b) a

-- how much a's kept adds add
abbrev pub delta_by : Standing → Name → ℤ
delta_by s a = sum_on (sum_back (is_held_by s a) s.restored) (is_held_by s a) s.kept

-- the deltas: what is added by each that owns no version
abbrev pub deltas_by : Standing → List (Name × ℤ)
deltas_by s = map (λ a. (a, delta_by s a)) (adders_by s)

abbrev pub deltas : ObjectId → List Event → List (Name × ℤ)
deltas x past = deltas_by (standing_of x past)

-- what a holds of an object, to be prepared: its version, or else its delta
abbrev pub part_held : Content → Standing → Name → Option Part
part_held c s a =
    if has_name (owners_by s) a then Some (Value (version_by c s a))
    else (if has_name (adders_by s) a then Some (Delta (delta_by s a)) else None)

-- the content on top
abbrev pub last_version : Content → List (Name × Content) → Content
last_version c [] = c
last_version c (v ∷ vs) = last_version v.1 vs

abbrev pub top_by : Content → Standing → Content
top_by c s = last_version (base_by c s) (versions_by c s)

abbrev pub top_version : Opening → ObjectId → List Event → Content
top_version opening x past = top_by (first_content opening x) (standing_of x past)
