-- What each holder holds, and how much room it has.
use Rattle.std.specs.Prelude.{◌≤◌, ◌+◌, ◌==◌, ◌||◌, ℕ, Bool, false, not, List, [], ◌∷◌, map, length, Option, Some, None, IsTrue, nat_lt, vec_capacity, if◌then◌else◌}
use Rattle.std.specs.List.{AllByRecursion}
use Rattle.std.specs.List.Sorted.{IsStrictlySortedBy}
use Rattle.std.specs.Map.{keys_of}
use Rattle.std.specs.Ordering.{nat_cmp}
use Rattle.std.specs.declared.vec.Vec.{Vec}
use Rattle.action_names.specs.Names.{Name, has_name, same_name, is_ancestor, name_cmp}

-- at which objects a holder holds something, and for how many it has room
pub record Row : Type 0 where
  pub objects : List ℕ
  pub room : ℕ

-- the rows of all holders, by name
abbrev pub Rows : Type 0
Rows = List (Name × Row)

-- the rows, and whether one of them can be given to another holder, which has none
pub record Index : Type 0 where
  pub rows : Rows
  pub renames : Bool

-- each number is below those behind it
abbrev pub IsRising : List ℕ → Type 0
IsRising ns = IsStrictlySortedBy nat_cmp ns

abbrev pub has_number : List ℕ → ℕ → Bool
has_number [] n = false
has_number (m ∷ ms) n = (m == n) || has_number ms n

-- the row of one that holds nothing and has no room
abbrev pub no_row : Row
no_row = record { objects = []; room = 0 }

abbrev pub row_at : Rows → Name → Row
row_at [] a = no_row
row_at (r ∷ rs) a = if same_name r.0 a then r.1 else row_at rs a

-- at which objects a holder holds something
abbrev pub objects_at : Rows → Name → List ℕ
objects_at held a = (row_at held a).objects

-- for how many objects a holder has room, those included that it has
abbrev pub room_at : Rows → Name → ℕ
room_at held a = (row_at held a).room

abbrev pub has_object : Rows → Name → ℕ → Bool
has_object held a n = has_number (objects_at held a) n

-- whether there is room for one more object
abbrev pub has_room : Rows → Name → Bool
has_room held a = nat_lt (length (objects_at held a)) (room_at held a)

-- somebody holds something at the object
abbrev pub IsHeld : Rows → ℕ → Type 0
IsHeld held n = (b : Name) × IsTrue (has_object held b n)

-- the action or a descendant holds something at the object
abbrev pub HoldsBelow : Rows → Name → ℕ → Type 0
HoldsBelow held a n = (b : Name) × IsTrue (is_ancestor a b) × IsTrue (has_object held b n)

-- how many objects a row adds to those of an action and its descendants
abbrev pub count_in : Name → Name × Row → ℕ
count_in a r = if is_ancestor a r.0 then length r.1.objects else 0

-- how many objects an action and its descendants have, each as often as one of them has it
abbrev pub count_below : Rows → Name → ℕ
count_below [] a = 0
count_below (r ∷ rs) a = count_in a r + count_below rs a

-- there is room for all that the holder and its descendants have
abbrev pub HasRoomBelow : Rows → Name → Type 0
HasRoomBelow held a = count_below held a ≤ room_at held a

-- there is room with a holder for what another has beside its own
abbrev pub HasRoomFrom : Rows → Name → Name → Type 0
HasRoomFrom held a b = length (objects_at held a) + length (objects_at held b) ≤ room_at held a

-- whether a holder that is handed another's objects needs room: it does where it has a row, or cannot be given the other's
abbrev pub needs_room : Index → Name → Bool
needs_room i a = not i.renames || has_name (keys_of i.rows) a

-- the holder may be handed what another has
abbrev pub MayBeHanded : Index → Name → Name → Type 0
MayBeHanded i a b = IsTrue (needs_room i a) → HasRoomFrom i.rows a b

-- whether this is the name of the one to whom something is handed on
abbrev pub is_name_of : Option Name → Name → Bool
is_name_of None b = false
is_name_of (Some a) b = same_name a b

-- rows as they are kept
abbrev pub row_of : {Z : Type 0} → Vec ℕ Z → Row
row_of v = record { objects = v.items; room = vec_capacity v }

abbrev pub rows_in : {Z : Type 0} → List (Name × Vec ℕ Z) → Rows
rows_in {Z} es = map (λ (e : Name × Vec ℕ Z). (e.0, row_of e.1)) es

-- whether one of the rows has the number
abbrev pub is_in_row : {Z : Type 0} → List (Vec ℕ Z) → ℕ → Bool
is_in_row [] n = false
is_in_row (row ∷ rows) n = has_number row.items n || is_in_row rows n

-- the names rise, and so do the objects of each
pub record IsOrderly {Z : Type 0} (es : List (Name × Vec ℕ Z)) : Type 0 where
  pub names : IsStrictlySortedBy name_cmp (keys_of es)
  pub objects : AllByRecursion (λ (e : Name × Vec ℕ Z). IsRising e.1.items) es
