-- What a guardian that was opened again by itself reads of the time before.
use Rattle.std.specs.Prelude.{ℕ, suc, ◌≡◌, ◌≤◌, ◌<◌, ◌⊎◌, Bool, true, false, IsFalse, List, [], ◌∷◌, ◌++◌, length, Contains, Some, None, FitsSigned}
use Rattle.std.specs.Int.{w64}
use Rattle.std.specs.List.{AllByRecursion, list_any}
use Rattle.action_names.specs.Names.{Name, same_name}
use Rattle.run_model.specs.declared.step.ObjectId.{ObjectId}
use Rattle.run_model.specs.declared.step.Step.TheVariants.{Prepare}
use Rattle.run_model.specs.Actions.{crashes, is_down}
use Rattle.run_model.specs.Visibility.{has_prepared}
use Rattle.run_model.specs.Votes.{has_voted}
use Rattle.run_model.specs.Openings.{Held, Opening, Setup, objects_at}
use Rattle.atomic_types.specs.declared.part.Part.{Part}
use Rattle.atomic_types.specs.declared.part.Part.TheVariants.{Value, Delta}
use Rattle.run_model.specs.StableContent.{Prepared, stable_count}
use Rattle.run_model.specs.LocalReadings.{LocalEvent, aborts_here, counts_here, events_here, given_back, kept_here, prepared_here, restored_here, stable_base_here, standing_here, told_here, told_committed_here}
use Rattle.run_model.specs.Reopening.{life_before, opened_alone}
use Rattle.local_laws.specs.Orderly.{IsOrderly}

-- the values of an object in these records
abbrev pub parts_of : ℕ → List (Name × Prepared) → ObjectId → List (Name × Part)
parts_of g [] x = []
parts_of g (p ∷ prepared) x = given_back (Prepare g p.0) p.1.parts x ++ parts_of g prepared x

abbrev pub is_prepared : List (Name × Prepared) → Name → Bool
is_prepared prepared t = list_any (λ p. same_name p.0 t) prepared

pub record IsReopened (g : ℕ) (held : Held) (records : List (Name × Prepared))
    (life : List LocalEvent) : Type 0 where
  -- it is down, and has crashed once more than it recovered
  pub down : is_down g (events_here life) ≡ true
  pub crashes : crashes g (events_here life) ≡ suc held.count
  pub count : (opening : Opening)
      → stable_count opening g (events_here life) ≡ (opening.stores g).count
  -- it voted yes on each prepared top action, and on no other
  pub voted : (t : Name) → has_voted g t (events_here life) ≡ is_prepared records t
  pub prepared : (t : Name) → has_prepared g t (events_here life) ≡ is_prepared records t
  -- their values are restored, and nothing else is kept
  pub restored : (x : ObjectId) → restored_here x life ≡ parts_of g records x
  pub kept : (x : ObjectId) → kept_here x life ≡ []
  -- the bases are the store's
  pub base : (opening : Opening) (n : ℕ)
      → stable_base_here opening g n life ≡ (opening.stores g).base n
  -- it was told nothing, and knows of no abort and no crash of others
  pub told : (b : Name) → told_here g b life ≡ false
  pub told_committed : (b : Name) → told_committed_here b life ≡ false
  pub aborts : aborts_here g life ≡ []
  pub counts : counts_here g life ≡ []

abbrev pub LifeBefore : Type 0
LifeBefore = (g : ℕ) (held : Held) (prepared : List (Name × Prepared))
    → IsReopened g held prepared (life_before g held prepared)

-- the parts rise by the numbers of their objects, which are above n
abbrev pub AreRising : ℕ → List (ℕ × Part) → Type 0
AreRising n [] = Unit {0}
AreRising n (p ∷ parts) = (n < p.0) × AreRising p.0 parts

-- a delta is a number of signed 64 bits
abbrev pub IsPart : Part → Type 0
IsPart (Value v) = Unit {0}
IsPart (Delta z) = FitsSigned w64 z

-- what a record may be at a guardian with so many objects
pub record IsRecord (objects : ℕ) (r : Prepared) : Type 0 where
  pub rising : AreRising 0 r.parts
  pub within : AllByRecursion (λ p. p.0 ≤ objects) r.parts
  pub parts : AllByRecursion (λ p. IsPart p.1) r.parts

-- each record is of another action than those behind it
abbrev pub AreApart : List (Name × Prepared) → Type 0
AreApart [] = Unit {0}
AreApart (p ∷ records) = IsFalse (is_prepared records p.0) × AreApart records

-- What the records in a store have to be, for a guardian of this setup that is opened again with them by itself.
pub record AreRecords (setup : Setup) (g : ℕ) (records : List (Name × Prepared)) : Type 0 where
  -- they are of actions, which have names, and each of another one
  pub named : AllByRecursion (λ p. 1 ≤ length p.0) records
  pub apart : AreApart records
  pub each : AllByRecursion (λ p. IsRecord (length (objects_at setup g)) p.1) records

-- What such a guardian reads: each of the records, and no other.
pub record AreReadBack (setup : Setup) (g : ℕ) (held : Held)
    (records : List (Name × Prepared)) : Type 0 where
  pub each : (t : Name) (r : Prepared) → Contains records (t, r)
      → prepared_here (opened_alone setup g held) g t (life_before g held records) ≡ Some r
  pub others : (t : Name) → IsFalse (is_prepared records t)
      → prepared_here (opened_alone setup g held) g t (life_before g held records) ≡ None

abbrev pub RecordsReadBack : Type 0
RecordsReadBack = (setup : Setup) (g : ℕ) (held : Held) (records : List (Name × Prepared))
    → AreRecords setup g records → AreReadBack setup g held records

abbrev pub IsDelta : Part → Type 0
IsDelta (Value v) = ⊥
IsDelta (Delta z) = Unit {0}

-- what may stand on one object: one part alone, or deltas
abbrev pub MayStand : List (Name × Part) → Type 0
MayStand parts = (length parts ≤ 1) ⊎ AllByRecursion (λ r. IsDelta r.1) parts

-- of all records a value stands alone on its object
abbrev pub ValuesAlone : ℕ → List (Name × Prepared) → Type 0
ValuesAlone g records = (n : ℕ)
    → MayStand (parts_of g records (record { guardian = g; number = n }))

-- Where values stand alone, the objects keep Moss's rule, so that what follows keeps it too.
abbrev pub ReopenedIsOrderly : Type 0
ReopenedIsOrderly = (g : ℕ) (held : Held) (records : List (Name × Prepared)) (x : ObjectId)
    → ValuesAlone g records → IsOrderly (standing_here (life_before g held records) x)
