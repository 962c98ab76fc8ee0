-- What `explain` answers, as the definitions see it.
use Rattle.std.specs.Prelude.{ℕ, ◌≡◌, ◌<◌, List, [], ◌∷◌, ◌++◌, length, map, filter, reverse, codes, Option, Some, None}
use Rattle.std.specs.List.{AllByRecursion}
use Rattle.std.specs.BTreeMap.{BTreeMap}
use Rattle.action_names.specs.Names.{Name, name_text}
use Rattle.run_model.specs.declared.history.Event.{Event}
use Rattle.run_model.specs.Keeping as keeping
use Rattle.run_model.specs.Keeping.{performed}
use Rattle.run_model.specs.Visibility.{is_visible}
use Rattle.run_model.specs.Explaining.{Explanation, not_begun, orphan, sees, place_text}
use Rattle.run_model.specs.Transcripts.{line_feed}
use Rattle.run_model.specs.Texts.{space, object_text, op_text, reply_text}
use Rattle.run_model.specs.Places.{place_of, replies_given, visible_by_grant, in_order_of_place}
use Rattle.run_model.specs.Replay.{replayed}
use Rattle.run_model.specs.Openings.{Opening, first_content}
use Rattle.tracer.specs.declared.explained.Performed.{Performed}
use Rattle.tracer.specs.declared.explained.Explained.{Explained}
use Rattle.tracer.specs.declared.explained.Explained.TheVariants.{NotBegun, Orphan, Sees}
use Rattle.tracer.specs.declared.place.Place.{Place}
use Rattle.tracer.specs.Places.{place_numbers}

-- a granted operation
abbrev pub operation_of : Performed → keeping.Performed
operation_of p =
    record { number = p.number; action = p.action; object = p.object; operation = p.operation; reply = p.reply }

-- an operation and its place
abbrev pub Placed : Type 0
Placed = List (Option ℕ) × keeping.Performed

abbrev pub placed : (Place × Performed) → Placed
placed e = (place_numbers e.0, operation_of e.1)

-- the entries are the operations, one by one, each at its place in the history
abbrev pub AreByPlace : List (Place × Performed) → List keeping.Performed → List Event → Type 0
AreByPlace entries os past = map placed entries ≡ map (λ o. (place_of o past, o)) os

-- what is said is what is explained of the action
abbrev pub Explains : Explained → Explanation → List Event → Type 0
Explains NotBegun e past = e ≡ not_begun
Explains Orphan e past = e ≡ orphan
Explains (Sees map) e past = (os : List keeping.Performed) × (e ≡ sees os)
    × AreByPlace map.entries os past

-- the operations that are told
abbrev pub operations_of : BTreeMap Place Performed → List keeping.Performed
operations_of m = map (λ e. operation_of e.1) m.entries

-- replayed from the first contents, the operations that are told give the replies that are told
abbrev pub IsReplayed : Opening → Explained → Type 0
IsReplayed opening (Sees m) =
    replayed (first_content opening) (operations_of m) ≡ replies_given (operations_of m)
IsReplayed opening _ = Unit {0}

-- what is found, as a list
abbrev pub listed : Option Performed → List keeping.Performed
listed None = []
listed (Some p) = operation_of p ∷ []

-- all operations came after so many events
abbrev pub CameAfter : ℕ → List keeping.Performed → Type 0
CameAfter n os = AllByRecursion (λ o. n < o.number) os

-- what a sees of the history is known but for the earlier events of past: the later operations are in their places
pub record IsPlaced (a : Name) (now past : List Event)
    (entries : List (Place × Performed)) : Type 0 where
  pub os : List keeping.Performed
  pub later : CameAfter (length past) os
  pub front : visible_by_grant a now
      ≡ reverse (filter (λ o. is_visible o.action a now) (performed past)) ++ os
  pub by_place : AreByPlace entries (in_order_of_place now os) now

-- the line of an operation at its place, without its line feed
abbrev pub told_at : Place → Performed → List ℕ
told_at p v =
    place_text (place_numbers p)
    ++ space ∷ name_text v.action
    ++ space ∷ object_text v.object
    ++ space ∷ op_text v.operation
    ++ codes " -> "
    ++ reply_text v.reply

abbrev pub entries_text : List (Place × Performed) → List ℕ
entries_text [] = []
entries_text (e ∷ es) = told_at e.0 e.1 ++ line_feed ∷ entries_text es
