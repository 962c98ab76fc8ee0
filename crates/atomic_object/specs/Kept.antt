-- An object as it is kept.
use Rattle.std.specs.Prelude.{ℤ, Bool, false, ◌&&◌, not, ◌≡◌, IsTrue, List, [], ◌∷◌, Option, Some, None, if◌then◌else◌}
use Rattle.std.specs.Option.{IfSome}
use Rattle.action_names.specs.Names.{Name, has_name, is_ancestor, same_name}
use Rattle.values.specs.declared.content.Content.{Content}
use Rattle.values.specs.declared.value.Value.TheVariants.{Int}
use Rattle.atomic_types.specs.declared.op.Reply.{Reply}
use Rattle.atomic_types.specs.declared.op.Reply.TheVariants.{Gives}
use Rattle.atomic_types.specs.Objects.{reply_of}
use Rattle.atomic_types.specs.Operations.{Op, is_read}
use Rattle.object_model.specs.Stacks.{Stack, top_of}
use Rattle.object_model.specs.Deltas.{delta_at}
use Rattle.object_model.specs.Objects.{Seen, owns, total_of}
use Rattle.holders.specs.Held.{Rows, may_be_handed}
use Rattle.moss_locks.specs.Table as table
use Rattle.moss_locks.specs.Table.{Table}

-- Its versions, what is added beside them, and its locks; the last two with the names for which there is room.
pub record Kept : Type 0 where
  pub stack : Stack Content
  pub deltas : Rows ℤ
  pub locks : Table

-- what is held of it
abbrev pub seen : Kept → Seen
seen k = record { stack = k.stack; deltas = k.deltas.held; locks = k.locks.locks }

-- a may be handed what others hold
abbrev pub has_room : Kept → Name → Bool
has_room k a = may_be_handed k.deltas.held k.deltas.room a && table.has_room k.locks a

-- a has rows of its own, for locks and for what it is to add
abbrev pub has_rows : Kept → Name → Bool
has_rows k a = has_name k.deltas.room a && table.has_rows k.locks a

-- there is room for the next holder, if there is one
abbrev pub HasRoomFor : Kept → Option Name → Type 0
HasRoomFor k to = IfSome to (λ next. IsTrue (has_room k next))

-- the next holder, if there is one, may be handed what others add
abbrev pub MayBeHandedDeltas : Kept → Option Name → Type 0
MayBeHandedDeltas k to = IfSome to (λ next. IsTrue (may_be_handed k.deltas.held k.deltas.room next))

-- there is room for what the next holder is to add
abbrev pub HasDeltaRoom : Kept → Option Name → Type 0
HasDeltaRoom k to = IfSome to (λ next. IsTrue (has_name k.deltas.room next))

-- whoever had room has it still
abbrev pub KeepsRoom : Kept → Kept → Type 0
KeepsRoom old new = (b : Name) → IsTrue (has_room old b) → IsTrue (has_room new b)

-- all others that had rows have them still
abbrev pub KeepsOthersRows : Kept → Kept → Name → Type 0
KeepsOthersRows old new a = (b : Name) → IsTrue (not (same_name a b) && has_rows old b)
    → IsTrue (has_rows new b)

-- all others that had room have it still
abbrev pub KeepsOthersRoom : Kept → Kept → Name → Type 0
KeepsOthersRoom old new a = (b : Name) → IsTrue (not (same_name a b) && has_room old b)
    → IsTrue (has_room new b)

-- all but an action and its descendants that had room have it still
abbrev pub KeepsRoomBeside : Kept → Kept → Name → Type 0
KeepsRoomBeside old new a = (b : Name) → IsTrue (not (is_ancestor a b) && has_room old b)
    → IsTrue (has_room new b)

-- the next holder adds nothing where it owns a version
abbrev pub AddsNothing : Seen → Option Name → Type 0
AddsNothing object to =
    IfSome to (λ next. IsTrue (owns object next) → delta_at object.deltas next ≡ None)

-- the owner of the lowest version stays
abbrev pub lowest_stays : (Name → Bool) → List (Name × Content) → Bool
lowest_stays stays [] = false
lowest_stays stays (v ∷ vs) = stays v.0

-- the reply to an operation that is granted: a read sees what is added beside the version on top
abbrev pub replied : Seen → Op → Reply
replied object wanted = if is_read wanted then reply_of (total_of object) wanted
    else reply_of (top_of object.stack) wanted

-- the number that a reply gives, if it gives one
abbrev pub number_in : Reply → Option ℤ
number_in (Gives (Int n)) = Some n
number_in _ = None
