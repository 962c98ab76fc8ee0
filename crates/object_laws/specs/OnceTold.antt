-- What a top action will hold of an object once the outcomes of its descendants are told, read off the object before
-- that.
use Rattle.std.specs.Prelude.{◌≡◌, ℤ, Bool, not, ◌&&◌, IsTrue, IsFalse, List, [], ◌∷◌, filter, option_map, Option, Some, None, if◌then◌else◌}
use Rattle.std.specs.List.{AllByRecursion, list_any}
use Rattle.action_names.specs.Names.{Name, ancestors, is_ancestor, is_proper_ancestor, is_top, same_name, top_of}
use Rattle.values.specs.declared.content.Content.{Content}
use Rattle.atomic_types.specs.declared.part.Part.{Part}
use Rattle.atomic_types.specs.declared.part.Part.TheVariants.{Value, Delta}
use Rattle.atomic_types.specs.Operations.{is_read}
use Rattle.run_model.specs.Keeping.{Standing}
use Rattle.run_model.specs.LocalReadings.{outcome_in, says_aborted, says_committed}
use Rattle.run_model.specs.Telling.{holder_by}
use Rattle.run_model.specs.Versions.{holder_at, part_held}
use Rattle.object_model.specs.Stacks.{owners_of, version_at}
use Rattle.object_model.specs.Deltas.{delta_sum}
use Rattle.object_model.specs.Objects.{Seen, with_sum}
use Rattle.object_laws.specs.Changes.{told_too, undone}
use Rattle.object_laws.specs.Laws.{is_left}
use Rattle.object_laws.specs.Shown.{Shows}

-- the outcomes say of b that it committed, or that it aborted
abbrev pub commits_in : List (Name × Bool) → Name → Bool
commits_in outcomes b = says_committed (outcome_in outcomes b)

abbrev pub aborts_in : List (Name × Bool) → Name → Bool
aborts_in outcomes b = says_aborted (outcome_in outcomes b)

-- how an object stands once they are told
abbrev pub told_of : List (Name × Bool) → Standing → Standing
told_of outcomes s = told_too (commits_in outcomes) (undone (aborts_in outcomes) s)

-- a is this action or below it, and neither a nor an ancestor of it aborted
abbrev pub is_left_below : List (Name × Bool) → Name → Name → Bool
is_left_below outcomes from a =
    is_ancestor from a && not (list_any (aborts_in outcomes) (ancestors a))

-- of the names in front that all pass the last, or else o
abbrev pub last_in_front : (Name → Bool) → Option Name → List Name → Option Name
last_in_front p o [] = o
last_in_front p o (b ∷ bs) = if p b then last_in_front p (Some b) bs else o

-- the deltas of such actions
abbrev pub deltas_left : List (Name × Bool) → Name → List (Name × ℤ) → List (Name × ℤ)
deltas_left outcomes from ds = filter (λ d. is_left_below outcomes from d.0) ds

abbrev pub sum_part : List (Name × ℤ) → Option Part
sum_part [] = None
sum_part (d ∷ ds) = Some (Delta (delta_sum (d ∷ ds)))

-- the version of this owner, with what is added below it; or without an owner what is added below the top action
abbrev pub part_over : List (Name × Bool) → Name → Seen → Option Name → Option Part
part_over outcomes top object None = sum_part (deltas_left outcomes top object.deltas)
part_over outcomes top object (Some owner) =
    option_map (λ v. Value (with_sum v (deltas_left outcomes owner object.deltas)))
    (version_at object.stack.versions owner)

-- The part that top will hold: owners are a chain, and the last of those in front that are left is the one whose
-- version it will have.
abbrev pub part_to_hold : List (Name × Bool) → Name → Seen → Option Part
part_to_hold outcomes top object =
    part_over outcomes top object
    (last_in_front (is_left_below outcomes top) None (owners_of object.stack.versions))

-- the outcomes are of descendants of top, and none that aborted was told committed
pub record AreOutcomesBelow (s : Standing) (top : Name)
    (outcomes : List (Name × Bool)) : Type 0 where
  pub below : AllByRecursion (λ x. IsTrue (is_proper_ancestor top x.0)) outcomes
  pub aborted : AllByRecursion (λ x. IsFalse x.1 → IsFalse (s.told x.0)) outcomes

-- what was written and added in top's tree is all held by top, or belongs to the base
pub record HoldsItsTree (s : Standing) (top : Name) : Type 0 where
  pub kept :
      AllByRecursion (λ o. IsFalse (is_read o.operation) → IsTrue (same_name (top_of o.action) top)
      → IsTrue (is_left (λ b. same_name b top) (holder_at s o)))
      s.kept
  pub restored : AllByRecursion (λ r. IsTrue (same_name (top_of r.0) top)
      → IsTrue (is_left (λ b. same_name b top) (holder_by s.told r.0)))
      s.restored

-- What a top action will hold that was not told committed, once these outcomes are told.
abbrev pub PartsOnceTold : Type 0
PartsOnceTold =
    (c : Content) (s : Standing) (object : Seen) (top : Name) (outcomes : List (Name × Bool))
    → Shows c s object → IsTrue (is_top top) → IsFalse (s.told top)
    → AreOutcomesBelow s top outcomes → HoldsItsTree (told_of outcomes s) top
    → part_held c (told_of outcomes s) top ≡ part_to_hold outcomes top object
