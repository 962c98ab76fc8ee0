-- The laws of objects: what shows how an object stands shows it still after each call, and answers by it what the
-- definitions answer.
use Rattle.std.specs.Prelude.{◌≡◌, Bool, true, false, not, ◌&&◌, ◌||◌, IsTrue, IsFalse, List, [], ◌∷◌, Option, Some, None}
use Rattle.std.specs.List.{AllByRecursion}
use Rattle.std.specs.List.Sorted.{IsStrictlySortedBy}
use Rattle.action_names.specs.Names.{Name, has_name, is_ancestor, is_top, name_cmp, parent_of, same_name}
use Rattle.values.specs.declared.content.Content.{Content}
use Rattle.atomic_types.specs.declared.part.Part.{Part}
use Rattle.atomic_types.specs.Objects.{knows, reply_of}
use Rattle.atomic_types.specs.Operations.{Op, class_of, is_add, is_read}
use Rattle.run_model.specs.Answers.{is_concerned_by}
use Rattle.run_model.specs.Keeping.{Performed, Standing, blockers_by}
use Rattle.run_model.specs.Replay.{left_of}
use Rattle.run_model.specs.Telling.{holder_by}
use Rattle.run_model.specs.Versions.{holder_at, part_held, under}
use Rattle.local_laws.specs.Reopened.{MayStand}
use Rattle.object_model.specs.Stacks.{AreAbove, HasNoneBetween, IsNextHolder, is_on_top, owners_of, top_of}
use Rattle.object_model.specs.Locks.{Locks, has_below, is_in_the_way}
use Rattle.object_model.specs.Objects.{IsCrashed, IsOperated, IsPassed, IsRestored, IsUndone, Seen, owns, part_of, total_of, untouched}
use Rattle.object_laws.specs.Shown.{PartFits, Shows}
use Rattle.object_laws.specs.Changes.{crashed, given, told_too, undone, with_operation}

-- An object that nobody touched shows that nothing is kept.
abbrev pub UntouchedShows : Type 0
UntouchedShows = (c : Content) (told : Name → Bool) → Shows c (given told []) (untouched c)

-- Once an operation that waits for nobody is granted, the object shows that it is kept.
abbrev pub OperatedShows : Type 0
OperatedShows = (c : Content) (s : Standing) (old new : Seen) (o : Performed) → Shows c s old
    → IsTrue (is_ancestor o.action o.action) → IsFalse (s.told o.action)
    → IsTrue (knows c o.operation)
    → blockers_by s o.action o.operation ≡ [] → IsOperated o.action o.operation old new
    → Shows c (with_operation o s) new

-- Once what an action held was handed on to the nearest ancestor that was not told committed, or to the base, the
-- object shows that the action was told committed.
abbrev pub PassedShows : Type 0
PassedShows = (c : Content) (s : Standing) (old new : Seen) (a : Name) (to : Option Name)
    → Shows c s old → IsTrue (is_ancestor a a) → to ≡ holder_by s.told (parent_of a)
    → IsPassed a to old new
    → Shows c (told_too (λ b. same_name b a) s) new

-- Once what an action that was not told committed and its descendants held was dropped, the object shows that all
-- they did is undone.
abbrev pub UndoneShows : Type 0
UndoneShows = (c : Content) (s : Standing) (old new : Seen) (a : Name) → Shows c s old
    → IsTrue (is_ancestor a a) → IsFalse (s.told a) → IsUndone a old new
    → Shows c (undone (λ b. same_name b a) s) new

-- the base stays, and what these actions hold
abbrev pub is_left : (Name → Bool) → Option Name → Bool
is_left stays None = true
is_left stays (Some a) = stays a

-- Where a crash leaves just what top actions of some kind wrote and added, and what belongs to the base, the object
-- shows what is left.
abbrev pub CrashedShows : Type 0
CrashedShows = (c : Content) (s : Standing) (old new : Seen) (outlives : Performed → Bool)
    (stays : Name → Bool)
    → Shows c s old → ((a : Name) → IsTrue (stays a) → IsTrue (is_top a))
    → AllByRecursion
    (λ o. outlives o ≡ (not (is_read o.operation) && is_left stays (holder_at s o)))
    s.kept
    → AllByRecursion (λ r. IsTrue (is_left stays (holder_by s.told r.0))) s.restored
    → IsCrashed stays old new
    → Shows c (crashed outlives s) new

-- each part is held by its own action
abbrev pub AreTheirs : (Name → Bool) → List (Name × Part) → Type 0
AreTheirs told parts = AllByRecursion (λ r. holder_by told r.0 ≡ Some r.0) parts

-- no action has two of them
abbrev pub AreApart : List (Name × Part) → Type 0
AreApart [] = Unit {0}
AreApart (r ∷ parts) = AllByRecursion (λ q. IsFalse (same_name q.0 r.0)) parts × AreApart parts

-- An object that a store gave back shows what was given.
abbrev pub RestoredShows : Type 0
RestoredShows = (c : Content) (told : Name → Bool) (parts : List (Name × Part)) (object : Seen)
    → AreTheirs told parts → AreApart parts → MayStand parts
    → AllByRecursion (λ r. PartFits c r.1) parts
    → IsRestored c parts object → Shows c (given told parts) object

-- What an action holds of an object is its version, or else its delta.
abbrev pub PartsShown : Type 0
PartsShown = (c : Content) (s : Standing) (object : Seen) (a : Name) → Shows c s object
    → part_held c s a ≡ part_of object a

-- For whom an operation waits is said by the locks.
abbrev pub BlockersShown : Type 0
BlockersShown =
    (c : Content) (s : Standing) (object : Seen) (a : Name) (wanted : Op) (names : List Name)
    → Shows c s object → IsStrictlySortedBy name_cmp names
    → ((b : Name) → has_name names b ≡ is_in_the_way object.locks a (class_of wanted) b)
    → names ≡ blockers_by s a wanted

-- what all that was given back and is kept leaves of the content
abbrev pub left_by : Content → Standing → Content
left_by c s = left_of (under c (λ b. true) s.restored) s.kept

-- The reply of a read is that of the version on top, with what is added beside it.
abbrev pub ReadsShown : Type 0
ReadsShown = (c : Content) (s : Standing) (object : Seen) (wanted : Op) → Shows c s object
    → IsTrue (is_read wanted) → reply_of (left_by c s) wanted ≡ reply_of (total_of object) wanted

-- The reply of a write or an add is that of the version on top.
abbrev pub WritesShown : Type 0
WritesShown = (c : Content) (s : Standing) (object : Seen) (wanted : Op) → Shows c s object
    → IsFalse (is_read wanted) → IsTrue (knows c wanted)
    → reply_of (left_by c s) wanted ≡ reply_of (top_of object.stack) wanted

-- The version on top has the operations that the object had at first, and so has the base.
abbrev pub KnowsShown : Type 0
KnowsShown = (c : Content) (s : Standing) (object : Seen) (wanted : Op) → Shows c s object
    → (knows object.stack.base wanted ≡ knows c wanted)
    × (knows (top_of object.stack) wanted ≡ knows c wanted)

-- Where a write or an add waits for nobody, every owner is an ancestor of its action.
abbrev pub OwnersAbove : Type 0
OwnersAbove = (c : Content) (s : Standing) (object : Seen) (a : Name) (wanted : Op)
    → Shows c s object → IsFalse (is_read wanted)
    → blockers_by s a wanted ≡ [] → AreAbove object.stack.versions a

-- So an owner that adds has the version on top.
abbrev pub AddersOnTop : Type 0
AddersOnTop = (c : Content) (s : Standing) (object : Seen) (a : Name) (wanted : Op)
    → Shows c s object → IsTrue (is_add wanted) → blockers_by s a wanted ≡ []
    → IsTrue (owns object a) → IsTrue (is_on_top (owners_of object.stack.versions) a)

-- The nearest ancestor that was not told committed is a proper one, and no owner stands between.
abbrev pub NoneBetween : Type 0
NoneBetween = (c : Content) (s : Standing) (object : Seen) (a : Name) (to : Option Name)
    → Shows c s object → IsTrue (is_ancestor a a) → to ≡ holder_by s.told (parent_of a)
    → IsNextHolder a to × HasNoneBetween object.stack.versions a to

-- a telling that an action committed concerns what it holds itself, and one that it aborted what it or a descendant
-- holds
abbrev pub is_concerned : Bool → Locks → Name → Bool
is_concerned true held a =
    has_name held.readers a || (has_name held.writers a || has_name held.adders a)
is_concerned false held a =
    has_below held.readers a || (has_below held.writers a || has_below held.adders a)

-- Whether a telling of an outcome changes the object is said by the locks.
abbrev pub ConcernedShown : Type 0
ConcernedShown = (c : Content) (s : Standing) (object : Seen) (a : Name) (committed : Bool)
    → Shows c s object → IsFalse (s.told a)
    → is_concerned_by committed s a ≡ is_concerned committed object.locks a
