-- A table of locks, as contracts see it.
use Rattle.std.specs.Prelude.{Bool, not, ◌&&◌, IsTrue, Option}
use Rattle.std.specs.Option.{IfSome}
use Rattle.action_names.specs.Names.{Name, has_name, same_name, is_ancestor}
use Rattle.holders.specs.Held.{may_be_handed}
use Rattle.object_model.specs.Locks.{Locks}

-- The locks, and the names for which there is room in each class: the holders, and some more.
pub record Table : Type 0 where
  pub locks : Locks
  pub room : Locks

-- b may be handed the locks of each class
abbrev pub has_room : Table → Name → Bool
has_room table b =
    may_be_handed table.locks.readers table.room.readers b
    && may_be_handed table.locks.writers table.room.writers b
    && may_be_handed table.locks.adders table.room.adders b

-- b has a row of its own in each class
abbrev pub has_rows : Table → Name → Bool
has_rows table b =
    has_name table.room.readers b && has_name table.room.writers b && has_name table.room.adders b

-- there is room for the next holder, if there is one
abbrev pub HasRoomFor : Table → Option Name → Type 0
HasRoomFor table to = IfSome to (λ next. IsTrue (has_room table next))

-- whoever had room has it still
abbrev pub KeepsRoom : Table → Table → Type 0
KeepsRoom old new = (b : Name) → IsTrue (has_room old b) → IsTrue (has_room new b)

-- whoever had rows has them still
abbrev pub KeepsRows : Table → Table → Type 0
KeepsRows old new = (b : Name) → IsTrue (has_rows old b) → IsTrue (has_rows new b)

-- all others that had rows have them still
abbrev pub KeepsOthersRows : Table → Table → Name → Type 0
KeepsOthersRows old new a = (b : Name) → IsTrue (not (same_name a b) && has_rows old b)
    → IsTrue (has_rows new b)

-- all others that had room have it still
abbrev pub KeepsOthersRoom : Table → Table → Name → Type 0
KeepsOthersRoom old new a = (b : Name) → IsTrue (not (same_name a b) && has_room old b)
    → IsTrue (has_room new b)

-- all but an action and its descendants that had room have it still
abbrev pub KeepsRoomBeside : Table → Table → Name → Type 0
KeepsRoomBeside old new a = (b : Name) → IsTrue (not (is_ancestor a b) && has_room old b)
    → IsTrue (has_room new b)
