-- Parts that are moved over a base.
use Rattle.std.proofs.Common.{◌≡◌, ℕ, List, [], ◌∷◌, Bool, true, false, cond, Option, Some, IsSome, refl, sym, subst, nat_cmp, true≢false}
use Rattle.std.specs.Cmp.{nat_cmp_total}
use Rattle.std.specs.BTreeMap.{is_at}
use Rattle.std.specs.FinMap.{FinMap, get, insert, get-insert}
use Rattle.atomic_types.specs.declared.part.Part.{Part}
use Rattle.atomic_types.specs.declared.part.Part.TheVariants.{Value, Delta}
use Rattle.atomic_types.specs.Parts.{over}
use Rattle.stable_store.specs.Moved.{CanMove, is_value}

-- a value takes the place of what was there
pub value_over : (p : Part) (old : Option Part) → is_value p ≡ true → over p old ≡ p
value_over (Value c) old value = refl
value_over (Delta by) old value = absurd (true≢false (sym value))

-- what could be moved can be moved still, once one part was put over the base
pub can_still : (base : FinMap nat_cmp Part) (object : ℕ) (p : Part) (rest : List (ℕ × Part)) → CanMove rest base → CanMove rest (insert base object p)
can_still base object p [] can = tt
can_still base object p (e ∷ rest) can = ((can.0.0, there e.0 can.0.1), can_still base object p rest can.1)
  where
    either : (b : Bool) (had : Option Part) → IsSome had → IsSome (cond b (Some p) had)
    either true had some = refl
    either false had some = some

    there : (k : ℕ) → IsSome (get base k) → IsSome (get (insert base object p) k)
    there k some = subst IsSome (sym (get-insert nat_cmp_total base object p k)) (either (is_at (nat_cmp k) object) (get base k) some)
