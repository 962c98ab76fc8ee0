-- Objects of which the guardian's store gave parts back, when the guardian is opened again by itself.
use Rattle.std.specs.Prelude.{◌≡◌, ◌≤◌, ℕ, List, ◌∷◌, length, Some}
use Rattle.std.specs.List.{AllByRecursion}
use Rattle.action_names.specs.Names.{Name}
use Rattle.values.specs.declared.content.Content.{Content}
use Rattle.atomic_types.specs.declared.part.Part.{Part}
use Rattle.atomic_types.specs.declared.part.Part.TheVariants.{Value, Delta}
use Rattle.run_model.specs.Openings.{Opening, first_content, objects_at}
use Rattle.run_model.specs.StableContent.{Prepared}
use Rattle.local_laws.specs.Reopened.{AreRecords, ValuesAlone, parts_of}
use Rattle.object_model.specs.Objects.{IsRestored}
use Rattle.overlays.specs.ContentOverlays.{HaveSameOps}
use Rattle.guardian_index.specs.Held.{has_object}
use Rattle.atomic_object.specs.Kept.{Kept, seen}
use Rattle.atomic_object.specs.Restored.{MayStandToo, MayTake}
use Rattle.guardian_objects.specs.Objects.{Indexed, holds_at, object_at, object_of}

-- Of each object just these parts were given back, and the index has just who holds something at it.
pub record HaveBack (opening : Opening) (given : ℕ → List (Name × Part))
    (o : Indexed) : Type 0 where
  pub guardian : 1 ≤ o.guardian
  pub count : length o.objects ≡ length (objects_at opening.setup o.guardian)
  pub restored : (n : ℕ) (k : Kept) → object_at o.objects n ≡ Some k
      → IsRestored (first_content opening (object_of o n)) (given n) (seen k)
  pub index : (a : Name) (n : ℕ) → has_object o.held a n ≡ holds_at o.objects a n

-- these records were given back, and nothing has happened since
abbrev pub AreGivenBack : Opening → List (Name × Prepared) → Indexed → Type 0
AreGivenBack opening records o =
    HaveBack opening (λ n. parts_of o.guardian records (object_of o n)) o

-- a part may be given back to an object of this content: a value that has its operations, or a delta
abbrev pub Suits : Content → Part → Type 0
Suits c (Value v) = HaveSameOps c v
Suits c (Delta z) = Unit {0}

abbrev pub AllSuit : Opening → ℕ → List (ℕ × Part) → Type 0
AllSuit opening g parts =
    AllByRecursion (λ p. Suits (first_content opening (record { guardian = g; number = p.0 })) p.1)
    parts

-- What the records have to be so that a guardian of this opening can be given them back.
pub record AreRestorable (opening : Opening) (g : ℕ)
    (records : List (Name × Prepared)) : Type 0 where
  pub are : AreRecords opening.setup g records
  pub suit : AllByRecursion (λ p. AllSuit opening g p.1.parts) records
  pub alone : ValuesAlone g records

-- the record of a top action with these parts, and those before it
abbrev pub with_record : Name → ℕ → List (ℕ × Part) → List (Name × Prepared)
    → List (Name × Prepared)
with_record t home parts records = (t, record { home = home; parts = parts }) ∷ records

-- the objects are those of which some records were given back, and one more may be
abbrev pub MayGiveBack : Indexed → Name → List (ℕ × Part) → Type 0
MayGiveBack o t parts =
    (opening : Opening) × (records : List (Name × Prepared)) × (home : ℕ)
    × AreGivenBack opening records o
    × AreRestorable opening o.guardian (with_record t home parts records)

-- ---- one part

-- there is such an object, and it may take the part
abbrev pub MayTakeAt : List Kept → ℕ → Name → Part → Type 0
MayTakeAt objects n a part = (k : Kept) × (object_at objects n ≡ Some k) × MayTake (seen k) a part

-- whatever was given back of the object, and the part may stand beside: that and the part were given back
abbrev pub IsGivenBack : Name → Part → Kept → Kept → Type 0
IsGivenBack a part k l = (c : Content) (parts : List (Name × Part)) → IsRestored c parts (seen k)
    → MayStandToo parts a part → IsRestored c ((a, part) ∷ parts) (seen l)
