-- Moss's rule over all that is kept of an object: what is newer stands under whatever older it conflicts with, and
-- never beside it.
use Rattle.std.specs.Prelude.{◌≡◌, ◌⊎◌, Bool, true, not, ◌&&◌, IsTrue, IsFalse, List, [], ◌∷◌, ◌++◌, map}
use Rattle.std.specs.List.{AllByRecursion, list_any}
use Rattle.action_names.specs.Names.{Name, has_name, is_ancestor, same_name}
use Rattle.atomic_types.specs.declared.op.Class.{Class}
use Rattle.atomic_types.specs.Operations as op
use Rattle.atomic_types.specs.Operations.{class_of, classes_conflict}
use Rattle.run_model.specs.declared.step.ObjectId.{ObjectId}
use Rattle.run_model.specs.Keeping.{Standing, blockers_by, part_class, standing_of}
use Rattle.run_model.specs.Openings.{Opening}
use Rattle.run_model.specs.Runs.{IsRun}
use Rattle.run_model.specs.Versions.{Lock, locks_by, owners, owners_by, under, version_by}
use Rattle.run_model.specs.Replay.{left_of}
use Rattle.atomic_types.specs.Objects.{reply_of}
use Rattle.values.specs.declared.content.Content.{Content}
use Rattle.run_model.specs.LocalReadings.{LocalEvent, standing_here}
use Rattle.local_laws.specs.Owed.{IsLocalRun}
use Rattle.run_model.specs.declared.history.Event.{Event}

-- of all that is kept the actions and classes, the newest first
abbrev pub Deed : Type 0
Deed = Name × Class

abbrev pub deeds_by : Standing → List Deed
deeds_by s = map (λ o. (o.action, class_of o.operation)) s.kept
    ++ map (λ r. (r.0, part_class r.1)) s.restored

-- each ancestor of a that was not told committed is an ancestor of b
abbrev pub IsAbove : (Name → Bool) → Name → Name → Type 0
IsAbove told a b = (c : Name) → IsTrue (is_ancestor c a) → IsFalse (told c)
    → IsTrue (is_ancestor c b)

-- the older deed, where the newer conflicts with it, stands above it
abbrev pub IsUnder : (Name → Bool) → Deed → Deed → Type 0
IsUnder told newer older = IsTrue (classes_conflict older.1 newer.1) → IsAbove told older.0 newer.0

abbrev pub AreOrderly : (Name → Bool) → List Deed → Type 0
AreOrderly told [] = Unit {0}
AreOrderly told (d ∷ ds) = AllByRecursion (λ e. IsUnder told d e) ds × AreOrderly told ds

abbrev pub IsOrderly : Standing → Type 0
IsOrderly s = AreOrderly s.told (deeds_by s)

-- What a guardian does by its own history keeps the rule at each of its objects.
abbrev pub LocalRunsAreOrderly : Type 0
LocalRunsAreOrderly = (opening : Opening) (x : ObjectId) (before here : List LocalEvent)
    → IsLocalRun opening x.guardian before here
    → IsOrderly (standing_here before x) → IsOrderly (standing_here here x)

-- Where the rule is kept, the owners are a chain by ancestry.
abbrev pub OwnersAreChain : Type 0
OwnersAreChain = (s : Standing) (a b : Name) → IsOrderly s → IsTrue (has_name (owners_by s) a)
    → IsTrue (has_name (owners_by s) b) → IsTrue (is_ancestor a b) ⊎ IsTrue (is_ancestor b a)

abbrev pub RunsAreOrderly : Type 0
RunsAreOrderly = (opening : Opening) (past : List Event) (x : ObjectId) → IsRun opening past
    → IsOrderly (standing_of x past)

-- So the owners of an object's versions are a chain in every run.
abbrev pub OwnersOfRuns : Type 0
OwnersOfRuns = (opening : Opening) (past : List Event) (x : ObjectId) (a b : Name)
    → IsRun opening past → IsTrue (has_name (owners x past) a) → IsTrue (has_name (owners x past) b)
    → IsTrue (is_ancestor a b) ⊎ IsTrue (is_ancestor b a)

-- the lock is c's, and conflicts with the operation
abbrev pub is_in_the_way : op.Op → Name → Lock → Bool
is_in_the_way wanted c l = same_name l.0 c && classes_conflict l.1 (class_of wanted)

-- For whom an operation waits is said by the lock set: the holders of conflicting locks that are no ancestors.
abbrev pub BlockersByLocks : Type 0
BlockersByLocks = (s : Standing) (a c : Name) (wanted : op.Op)
    → has_name (blockers_by s a wanted) c
    ≡ (list_any (λ l. is_in_the_way wanted c l) (locks_by s) && not (is_ancestor c a))

-- Where the rule is kept, the reply of an operation that waits for nobody is that of the version of its action: of
-- what belongs to the base or to its ancestors. What was given back to prepared top actions lies before all that is
-- kept.
abbrev pub ReplyOfVersion : Type 0
ReplyOfVersion = (c : Content) (s : Standing) (a : Name) (wanted : op.Op)
    → IsOrderly s → blockers_by s a wanted ≡ []
    → reply_of (left_of (under c (λ b. true) s.restored) s.kept) wanted
    ≡ reply_of (version_by c s a) wanted
