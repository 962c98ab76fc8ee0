-- One outcome after another: what it asks of the objects, and what it makes of them.
use Rattle.std.specs.Prelude.{◌≡◌, ◌≤◌, ◌&&◌, ℕ, Bool, true, false, List, length, map, Option, Some, IsTrue, IsFalse, IsSome}
use Rattle.std.specs.List.{AllByRecursion}
use Rattle.std.specs.Option.{IfSome}
use Rattle.action_names.specs.Names.{Name, is_ancestor, parent_of}
use Rattle.run_model.specs.declared.step.ObjectId.{ObjectId}
use Rattle.run_model.specs.Keeping.{Standing}
use Rattle.run_model.specs.Openings.{Opening}
use Rattle.run_model.specs.Telling.{holder_by}
use Rattle.object_laws.specs.Heard.{heard_one}
use Rattle.atomic_object.specs.Kept.{Kept, KeepsOthersRoom, KeepsRoom, KeepsRoomBeside, has_room, seen}
use Rattle.atomic_object.specs.Kept as kept
use Rattle.atomic_object.specs.Ways.{HandsOn, HandsTo, Undoes}
use Rattle.guardian_index.specs.Held.{HasRoomBelow, HoldsBelow, IsRising, Rows, has_number, has_object, objects_at, room_at}
use Rattle.guardian_objects.specs.Objects.{Indexed, Stand, concerns_at, object_at}
use Rattle.guardian_objects.specs.Outcomes.{HasIndexRoom, IsReadyAt}
use Rattle.guardian_objects.specs.declared.outcomes.Telling.{Telling}

-- ---- room

-- The same is held of all objects, and whoever had room has it still.
pub record IsRoomier (old new : Indexed) : Type 0 where
  pub guardian : new.guardian ≡ old.guardian
  pub count : length new.objects ≡ length old.objects
  pub objects : (n : ℕ) (k l : Kept) → object_at old.objects n ≡ Some k
      → object_at new.objects n ≡ Some l → (seen l ≡ seen k) × KeepsRoom k l
  pub held : (b : Name) → objects_at new.held b ≡ objects_at old.held b
  pub room : (b : Name) → room_at old.held b ≤ room_at new.held b
  pub below : (b : Name) → HasRoomBelow old.held b → HasRoomBelow new.held b

-- at the object of this number there is room for the next holder
abbrev pub HasRoomOf : Indexed → Option Name → ℕ → Type 0
HasRoomOf o to n = (k : Kept) → object_at o.objects n ≡ Some k
    → IfSome to (λ h. IsTrue (has_room k h))

-- the action has the object in the index, or where that is not asked of itself a descendant has it
abbrev pub Has : Bool → Rows → Name → ℕ → Type 0
Has true held a n = IsTrue (has_object held a n)
Has false held a n = HoldsBelow held a n

-- For what the outcome hands on there is room with the next holder: in the index, and at each of these objects, which
-- are those that it concerns.
pub record HasRoomAt (alone committed : Bool) (o : Indexed) (a : Name) (to : Option Name)
    (at : List (ℕ × Option Name)) : Type 0 where
  pub index : IfSome to (λ h. HasIndexRoom alone o a h)
  pub rising : IsRising (map (λ x. x.0) at)
  pub ready : AllByRecursion (λ x. (x.1 ≡ to) × HasRoomOf o to x.0) at
  pub below : (n : ℕ) → IsTrue (concerns_at (alone && committed) o.objects a n)
      → IsTrue (has_number (map (λ x. x.0) at) n)
  pub there : AllByRecursion (λ x. IsSome (object_at o.objects x.0)) at

-- ---- what is told

-- The objects of these numbers are changed so, and the others are as they were.
pub record AreChanged (changes : Kept → Kept → Type 0) (numbers : List ℕ)
    (old new : List Kept) : Type 0 where
  pub count : length new ≡ length old
  pub changed : (n : ℕ) (k l : Kept) → IsTrue (has_number numbers n) → object_at old n ≡ Some k
      → object_at new n ≡ Some l → changes k l
  pub others : (n : ℕ) → IsFalse (has_number numbers n) → object_at new n ≡ object_at old n

-- a was told committed to one object
abbrev pub Commits : Name → Option Name → Kept → Kept → Type 0
Commits a to k l = HandsOn a to (seen k) (seen l) × KeepsOthersRoom k l a

-- a was told aborted to one object
abbrev pub Aborts : Name → Kept → Kept → Type 0
Aborts a k l = Undoes a (seen k) (seen l) × KeepsRoomBeside k l a

-- there is such an object, and a may hand on to the next holder what it holds of it
abbrev pub MayCommitAt : List Kept → Name → Option Name → ℕ → Type 0
MayCommitAt objects a to n = (k : Kept) × (object_at objects n ≡ Some k) × HandsTo (seen k) a to
    × kept.HasRoomFor k to

-- Where objects stand so this may be told: a commit goes to the next holder, and what aborted was not told committed.
pub record MayHear (stands : ObjectId → Standing) (t : Telling) : Type 0 where
  pub next : IsTrue t.committed → (x : ObjectId)
      → t.to ≡ holder_by (stands x).told (parent_of t.action)
  pub untold : IsFalse t.committed → (x : ObjectId) → IsFalse ((stands x).told t.action)

-- the objects stand in some way in which this may be told
abbrev pub IsHeard : Indexed → Telling → Type 0
IsHeard o t = (opening : Opening) × (stands : ObjectId → Standing)
    × Stand opening stands o × MayHear stands t

-- in whatever way they stood, they stand as that and this outcome make it
abbrev pub Hears : Telling → Indexed → Indexed → Type 0
Hears t old new = (opening : Opening) (stands : ObjectId → Standing) → Stand opening stands old
    → MayHear stands t → Stand opening (λ x. heard_one t.action t.committed (stands x)) new

-- The objects are told of that the outcome concerns, and where it is a commit there is room for what is handed on.
pub record IsReady (alone : Bool) (o : Indexed) (t : Telling) : Type 0 where
  pub rising : IsRising (map (λ x. x.0) t.at.items)
  pub below : (n : ℕ) → IsTrue (concerns_at (alone && t.committed) o.objects t.action n)
      → IsTrue (has_number (map (λ x. x.0) t.at.items) n)
  pub there : AllByRecursion (λ x. IsSome (object_at o.objects x.0)) t.at.items
  pub index : IsTrue t.committed → IfSome t.to (λ h. HasIndexRoom alone o t.action h)
  pub room : IsTrue t.committed → AllByRecursion (IsReadyAt o t) t.at.items

-- what is ready with others stays so, but where the next holder is the action of this outcome or below it
abbrev pub KeepsReady : Telling → Indexed → Indexed → Type 0
KeepsReady t old new = (u : Telling)
    → (IsTrue u.committed → IfSome u.to (λ h. IsFalse (is_ancestor t.action h)))
    → IsReady false old u → IsReady false new u
