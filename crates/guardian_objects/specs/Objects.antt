-- The objects of a guardian as contracts see them, and when they are those of its own history.
use Rattle.std.specs.Prelude.{◌≡◌, ◌≤◌, ℕ, zero, suc, Bool, true, false, List, [], ◌∷◌, length, Option, Some, None, IsTrue, IsFalse, slice_get}
use Rattle.action_names.specs.Names.{Name}
use Rattle.atomic_types.specs.Objects.{knows}
use Rattle.atomic_types.specs.Operations.{Op}
use Rattle.atomic_types.specs.declared.op.Reply.{Reply}
use Rattle.run_model.specs.declared.answer.Answer.TheVariants.{Granted}
use Rattle.run_model.specs.declared.step.ObjectId.{ObjectId}
use Rattle.run_model.specs.declared.step.Step.TheVariants as steps
use Rattle.run_model.specs.Answers.{operated_by}
use Rattle.run_model.specs.Keeping.{Standing}
use Rattle.run_model.specs.LocalReadings.{LocalEvent, standing_here, told_committed_here}
use Rattle.run_model.specs.Openings.{Opening, first_content, objects_at}
use Rattle.object_laws.specs.Laws.{is_concerned}
use Rattle.object_laws.specs.Shown.{Shows}
use Rattle.atomic_object.specs.Kept.{Kept, seen}
use Rattle.guardian_index.specs.Held.{Index, Rows, has_object}

-- the objects of a guardian in order, who holds something at which, and whether a holder's row can be given to another
pub record Indexed : Type 0 where
  pub guardian : ℕ
  pub objects : List Kept
  pub held : Rows
  pub renames : Bool

-- the index alone
abbrev pub index_of : Indexed → Index
index_of o = record { rows = o.held; renames = o.renames }

-- the object of this number
abbrev pub object_of : Indexed → ℕ → ObjectId
object_of o n = record { guardian = o.guardian; number = n }

-- the object of this number, if there is one; numbers are from 1
abbrev pub object_at : List Kept → ℕ → Option Kept
object_at objects zero = None
object_at objects (suc n) = slice_get objects n

-- the action, or where that is asked a descendant of it, holds something of the object; the first is what a telling
-- of its commit concerns, the second one of its abort
abbrev pub holds_of : Bool → Option Kept → Name → Bool
holds_of committed None a = false
holds_of committed (Some k) a = is_concerned committed (seen k).locks a

-- the holder holds something at the object of this number
abbrev pub holds_at : List Kept → Name → ℕ → Bool
holds_at objects a n = holds_of true (object_at objects n) a

-- the action or a descendant holds something there
abbrev pub holds_below_at : List Kept → Name → ℕ → Bool
holds_below_at objects a n = holds_of false (object_at objects n) a

-- An outcome concerns the object. A commit that is told alone concerns those at which the action itself holds
-- something. An abort concerns those too at which a descendant does; and so does a commit that is told with others,
-- since the action may be handed something just before.
abbrev pub concerns_at : Bool → List Kept → Name → ℕ → Bool
concerns_at own objects a n = holds_of own (object_at objects n) a

-- Each object shows the way in which it stands, and the index has just who holds something at it.
pub record Stand (opening : Opening) (stands : ObjectId → Standing) (o : Indexed) : Type 0 where
  pub guardian : 1 ≤ o.guardian
  pub count : length o.objects ≡ length (objects_at opening.setup o.guardian)
  pub shown : (n : ℕ) (k : Kept) → object_at o.objects n ≡ Some k
      → Shows (first_content opening (object_of o n)) (stands (object_of o n)) (seen k)
  pub index : (a : Name) (n : ℕ) → has_object o.held a n ≡ holds_at o.objects a n

-- the objects are those of the guardian's own history
abbrev pub AreObjects : Opening → List LocalEvent → Indexed → Type 0
AreObjects opening here o = Stand opening (λ x. standing_here here x) o

-- of whatever history these are the objects, those are too
abbrev pub Keeps : Indexed → Indexed → Type 0
Keeps old new = (opening : Opening) (here : List LocalEvent) → AreObjects opening here old
    → AreObjects opening here new

-- the objects are those of some history
abbrev pub AreSome : Indexed → Type 0
AreSome o = (opening : Opening) × (here : List LocalEvent) × AreObjects opening here o

-- the objects are those of some history, one has this number, and the operation belongs to it
abbrev pub IsAsked : Indexed → ℕ → Op → Type 0
IsAsked o n wanted =
    (opening : Opening) × (here : List LocalEvent) × AreObjects opening here o
    × (1 ≤ n) × (n ≤ length o.objects)
    × IsTrue (knows (first_content opening (object_of o n)) wanted)

-- the objects are those of some history, by which the operation on the one of this number is granted
abbrev pub IsGranted : Indexed → ℕ → Name → Op → Type 0
IsGranted o n a wanted =
    (opening : Opening) × (here : List LocalEvent) × (r : Reply) × AreObjects opening here o
    × (1 ≤ n) × (n ≤ length o.objects)
    × IsTrue (knows (first_content opening (object_of o n)) wanted)
    × (Granted r ≡ operated_by (first_content opening (object_of o n))
    (standing_here here (object_of o n)) a wanted)

-- Once an operation was granted to an action that was not told committed: it is kept, as the event says.
abbrev pub Operates : Name → ℕ → Op → Reply → Indexed → Indexed → Type 0
Operates a n wanted r old new =
    (opening : Opening) (here : List LocalEvent) (c : LocalEvent) → AreObjects opening here old
    → c.event.step ≡ steps.Op a (object_of old n) wanted → c.event.answer ≡ Granted r
    → c.carried.outcomes ≡ [] → c.carried.restored ≡ []
    → IsFalse (told_committed_here a here) → AreObjects opening (c ∷ here) new
