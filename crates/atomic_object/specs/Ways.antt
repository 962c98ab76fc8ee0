-- The ways in which an object may stand: an object shows one of them, and whatever it shows, it shows after a call
-- what that makes of it.
use Rattle.std.specs.Prelude.{◌≡◌, Bool, not, ◌&&◌, IsTrue, IsFalse, Option}
use Rattle.std.specs.List.{AllByRecursion}
use Rattle.action_names.specs.Names.{Name, parent_of, same_name}
use Rattle.values.specs.declared.content.Content.{Content}
use Rattle.atomic_types.specs.Operations.{Op, is_read}
use Rattle.run_model.specs.declared.answer.Answer.{Answer}
use Rattle.run_model.specs.declared.answer.Answer.TheVariants.{Granted}
use Rattle.run_model.specs.Keeping.{Performed, Standing}
use Rattle.run_model.specs.Telling.{holder_by}
use Rattle.run_model.specs.Versions.{holder_at}
use Rattle.object_model.specs.Objects.{Seen}
use Rattle.object_laws.specs.Shown.{Shows}
use Rattle.object_laws.specs.Changes.{crashed, told_too, undone, with_operation}
use Rattle.object_laws.specs.Laws.{is_left}

-- it stands in some way
abbrev pub IsShown : Seen → Type 0
IsShown object = (c : Content) × (s : Standing) × Shows c s object

-- it stands in some way in which a hands on to this holder, or to the base
abbrev pub HandsTo : Seen → Name → Option Name → Type 0
HandsTo object a to = (c : Content) × (s : Standing) × Shows c s object
    × (to ≡ holder_by s.told (parent_of a))

-- Once an operation of a was answered, which was not told committed: one that was granted is kept, and after any
-- other answer the object is as it was.
abbrev pub Operates : Name → Op → Answer → Seen → Seen → Type 0
Operates a wanted (Granted r) old new =
    (c : Content) (s : Standing) (o : Performed) → Shows c s old → o.action ≡ a
    → o.operation ≡ wanted → IsFalse (s.told a) → Shows c (with_operation o s) new
Operates a wanted _ old new = new ≡ old

-- once a was told committed, and what it held is the next holder's, or the base's
abbrev pub HandsOn : Name → Option Name → Seen → Seen → Type 0
HandsOn a to old new = (c : Content) (s : Standing) → Shows c s old
    → to ≡ holder_by s.told (parent_of a) → Shows c (told_too (λ b. same_name b a) s) new

-- once a was told aborted, which was not told committed
abbrev pub Undoes : Name → Seen → Seen → Type 0
Undoes a old new = (c : Content) (s : Standing) → Shows c s old → IsFalse (s.told a)
    → Shows c (undone (λ b. same_name b a) s) new

-- a crash leaves just these operations: what is no read and belongs to the base or to a survivor
abbrev pub AreLeft : (Performed → Bool) → (Name → Bool) → Standing → Type 0
AreLeft outlives stays s =
    AllByRecursion (λ o. outlives o ≡ (not (is_read o.operation) && is_left stays (holder_at s o)))
    s.kept
    × AllByRecursion (λ r. IsTrue (is_left stays (holder_by s.told r.0))) s.restored

-- once a crash came that these survive
abbrev pub Survives : (Name → Bool) → Seen → Seen → Type 0
Survives stays old new = (c : Content) (s : Standing) (outlives : Performed → Bool) → Shows c s old
    → AreLeft outlives stays s → Shows c (crashed outlives s) new
