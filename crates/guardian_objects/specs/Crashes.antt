-- What a crash makes of the objects: those at which somebody holds something crash, and the others stay.
use Rattle.std.specs.Prelude.{◌≡◌, ℕ, Bool, List, length, Some}
use Rattle.action_names.specs.Names.{Name}
use Rattle.atomic_object.specs.Kept.{Kept, seen}
use Rattle.atomic_object.specs.Ways.{Survives}
use Rattle.guardian_index.specs.Held.{IsHeld, Rows}
use Rattle.guardian_objects.specs.Objects.{object_at}

-- one object has crashed, and left what these actions wrote and added
abbrev pub HasCrashed : (Name → Bool) → Kept → Kept → Type 0
HasCrashed stays k l = Survives stays (seen k) (seen l)

-- each at which somebody holds something has crashed, and the others are as they were
pub record HaveCrashed (stays : Name → Bool) (held : Rows) (old new : List Kept) : Type 0 where
  pub count : length new ≡ length old
  pub crashed : (n : ℕ) (k l : Kept) → IsHeld held n → object_at old n ≡ Some k
      → object_at new n ≡ Some l → HasCrashed stays k l
  pub others : (n : ℕ) → ¬ IsHeld held n → object_at new n ≡ object_at old n
