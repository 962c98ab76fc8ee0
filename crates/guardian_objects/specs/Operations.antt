-- Operations on single objects.
use Rattle.std.specs.Prelude.{◌≡◌, ℕ, List, Some, IsFalse, IsTrue}
use Rattle.action_names.specs.Names.{Name}
use Rattle.atomic_types.specs.Objects.{knows}
use Rattle.atomic_types.specs.declared.op.Reply.{Reply}
use Rattle.atomic_types.specs.Operations.{Op, class_of}
use Rattle.object_model.specs.Locks.{must_wait}
use Rattle.run_model.specs.declared.answer.Answer.TheVariants.{Granted}
use Rattle.atomic_object.specs.Kept.{Kept, seen}
use Rattle.atomic_object.specs.Ways.{IsShown, Operates}
use Rattle.guardian_objects.specs.Objects.{object_at}

-- there is such an object, it stands in some way, and the operation belongs to it
abbrev pub IsShownAt : List Kept → ℕ → Op → Type 0
IsShownAt objects n wanted = (k : Kept) × (object_at objects n ≡ Some k) × IsShown (seen k)
    × IsTrue (knows (seen k).stack.base wanted)

-- and the locks let it through
abbrev pub IsFreeAt : List Kept → ℕ → Name → Op → Type 0
IsFreeAt objects n a wanted =
    (k : Kept) × (object_at objects n ≡ Some k) × IsShown (seen k)
    × IsTrue (knows (seen k).stack.base wanted)
    × IsFalse (must_wait (seen k).locks a (class_of wanted))

-- the operation was granted with this reply
abbrev pub IsGrantedBy : Name → Op → Reply → Kept → Kept → Type 0
IsGrantedBy a wanted r k l = Operates a wanted (Granted r) (seen k) (seen l)

-- what is held of it stays
abbrev pub StaysHeld : Kept → Kept → Type 0
StaysHeld k l = seen l ≡ seen k
