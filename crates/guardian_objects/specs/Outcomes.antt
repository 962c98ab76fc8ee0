-- Outcomes that the objects of a guardian are to be told, and what they make of its history.
use Rattle.std.specs.Prelude.{◌≡◌, ◌==◌, ◌&&◌, ℕ, Bool, true, false, List, [], length, map, Option, Some, IsTrue, IsFalse, IsSome}
use Rattle.std.specs.List.{AllByRecursion}
use Rattle.std.specs.List.Sorted.{IsStrictlySortedBy}
use Rattle.std.specs.Option.{IfSome}
use Rattle.action_names.specs.Names.{Name, name_cmp, parent_of}
use Rattle.run_model.specs.declared.answer.Answer.{Answer}
use Rattle.run_model.specs.declared.answer.Answer.TheVariants.{Granted}
use Rattle.run_model.specs.declared.step.Step.{Step}
use Rattle.run_model.specs.declared.step.Step.TheVariants.{Op}
use Rattle.run_model.specs.LocalReadings.{LocalEvent, told_committed_here}
use Rattle.run_model.specs.Openings.{Opening}
use Rattle.run_model.specs.Telling.{holder_by}
use Rattle.atomic_object.specs.Kept.{Kept, has_room}
use Rattle.guardian_index.specs.Held.{HasRoomBelow, IsRising, MayBeHanded, has_number}
use Rattle.guardian_laws.specs.Outcomes.{AgreesOnOutcomes}
use Rattle.object_laws.specs.EventLaws.{is_crash}
use Rattle.guardian_objects.specs.Objects.{AreObjects, Indexed, concerns_at, index_of, object_at}
use Rattle.guardian_objects.specs.declared.outcomes.Telling.{Telling}

-- the outcomes alone
abbrev pub outcomes_of : List Telling → List (Name × Bool)
outcomes_of tellings = map (λ t. (t.action, t.committed)) tellings

-- of one of its objects: the name handed with it is the next holder's, for whom the object has room
abbrev pub IsReadyAt : Indexed → Telling → ℕ × Option Name → Type 0
IsReadyAt o t x =
    (x.1 ≡ t.to)
    × ((k : Kept) → object_at o.objects x.0 ≡ Some k → IfSome t.to (λ h. IsTrue (has_room k h)))

-- there is one alone
abbrev pub is_alone : {X : Type 0} → List X → Bool
is_alone xs = length xs == 1

-- There is room in the index for what the action hands on: where it is told alone, for what it has, if the next holder
-- needs room for that. Of several that are told together one may hand on what another handed to it; then there is room
-- for all that the next holder and its descendants have.
abbrev pub HasIndexRoom : Bool → Indexed → Name → Name → Type 0
HasIndexRoom true o a h = MayBeHanded (index_of o) h a
HasIndexRoom false o a h = HasRoomBelow o.held h

-- There is room for what the next holder is handed, in the index and at each object that the outcome concerns.
pub record HasRoomFor (alone : Bool) (o : Indexed) (t : Telling) : Type 0 where
  pub index : IfSome t.to (λ h. HasIndexRoom alone o t.action h)
  pub rising : IsRising (map (λ x. x.0) t.at.items)
  pub ready : AllByRecursion (IsReadyAt o t) t.at.items
  pub below : (n : ℕ) → IsTrue (concerns_at (alone && t.committed) o.objects t.action n)
      → IsTrue (has_number (map (λ x. x.0) t.at.items) n)
  pub there : AllByRecursion (λ x. IsSome (object_at o.objects x.0)) t.at.items

-- they rise by name, and for each there is room
pub record Fits (o : Indexed) (tellings : List Telling) : Type 0 where
  pub rising : IsStrictlySortedBy name_cmp (map (λ t. t.action) tellings)
  pub room : AllByRecursion (HasRoomFor (is_alone tellings) o) tellings

-- what committed goes to the nearest ancestor that was not told committed, or to the base
abbrev pub ArePlanned : List LocalEvent → List Telling → Type 0
ArePlanned here tellings =
    AllByRecursion (λ t. IsTrue t.committed
    → t.to ≡ holder_by (λ b. told_committed_here b here) (parent_of t.action))
    tellings

-- nothing is told aborted that was told committed
abbrev pub AreSound : List LocalEvent → List Telling → Type 0
AreSound here tellings =
    AllByRecursion (λ t. IsFalse t.committed → IsFalse (told_committed_here t.action here)) tellings

-- the objects are those of some history, for which the outcomes were planned
abbrev pub IsHearing : Indexed → List Telling → Type 0
IsHearing o tellings =
    (opening : Opening) × (here : List LocalEvent) × AreObjects opening here o
    × ArePlanned here tellings × AreSound here tellings

-- an operation is granted
abbrev pub is_granted : Step → Answer → Bool
is_granted (Op a x wanted) (Granted r) = true
is_granted _ _ = false

-- The event changes objects by the outcomes alone that it brings: it is neither a crash nor a granted operation, and
-- no store gave anything back.
pub record OnlyTells (c : LocalEvent) (here : List LocalEvent) : Type 0 where
  pub agrees : AgreesOnOutcomes c here
  pub crash : IsFalse (is_crash c.event.step)
  pub granted : IsFalse (is_granted c.event.step c.event.answer)
  pub restored : c.carried.restored ≡ []
