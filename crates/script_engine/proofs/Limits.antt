-- What follows from the limits of a script.
use Rattle.std.proofs.Common.{List, [], arith, get_or, length, subst, suc, sym, zero, ℕ, ◌<◌, ◌∷◌, ◌≡◌}
use Rattle.std.specs.List.{AllByRecursion}
use Rattle.values.specs.declared.content.Content.{Content}
use Rattle.script_model.specs.declared.checked.Checked.{Checked}
use Rattle.script_model.specs.Resolved.{IsResolved}
use Rattle.script_model.specs.Laws.{HasFewObjects, IsWithinLimits}
use Rattle.script_model.proofs.Limits.{reading_keeps_limits}
use Rattle.script_model.proofs.Scripts.{reading_resolves}
use Rattle.run_model.specs.Openings.{Setup}
use Rattle.limits.specs.Limits.{max_guardians}
use Rattle.script_engine.specs.Running.{IsFit}

pub resolved : (script : Checked) → IsFit script → IsResolved script
resolved script fit = reading_resolves fit.0 script fit.1

pub within : (script : Checked) → IsFit script → IsWithinLimits script.guardians
within script fit = reading_keeps_limits fit.0 script fit.1

each_at : {X : Type 0} (P : X → Type 0) (xs : List X) (i : ℕ) (d : X) → AllByRecursion P xs → i < length xs → P (get_or xs i d)
each_at P [] i d each lt = absurd (none lt)
  where
    none : i < 0 → ⊥
    none lt = omega (arith, lt)
each_at P (x ∷ xs) zero d each lt = each.0
each_at P (x ∷ xs) (suc i) d each lt = each_at P xs i d each.1 (omega (arith, lt))

-- the objects of a guardian are few
pub few_at : (script : Checked) → IsFit script → (i : ℕ) (own : List Content) → i < length script.guardians
    → own ≡ get_or script.guardians i own → HasFewObjects own
few_at script fit i own lt item =
    subst HasFewObjects (sym item) (each_at HasFewObjects script.guardians i own (within script fit).each lt)

-- there is room for one guardian more
pub room_for : (script : Checked) → IsFit script → (setup : Setup) (i : ℕ) → i < length script.guardians → length setup ≡ i → length setup < max_guardians
room_for script fit setup i lt count = let few = (within script fit).count in omega (arith, lt, count, few)
