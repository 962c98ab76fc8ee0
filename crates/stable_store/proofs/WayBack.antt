-- The way back from parts that were laid over others.
use Rattle.std.proofs.Common.{◌≡◌, ℕ, List, [], ◌∷◌, ◌++◌, Bool, true, false, cond, Option, Some, None, IsSome, refl, sym, ap, subst, ◌∙◌}
use Rattle.std.specs.Ordering.{nat_cmp, eq_by_cmp}
use Rattle.std.specs.Cmp.{nat_cmp_total}
use Rattle.std.specs.FinMap.{FinMap, get, insert, same_map, get-insert, get-remove, nat_cmp-IsAntisymmetric}
use Rattle.atomic_types.specs.declared.part.Part.{Part}
use Rattle.stable_store.specs.Undone.{restored, undone, CanUndo}
use Rattle.stable_store.proofs.Maps.{found_alike}

get-restored : (k : ℕ) (before : Option Part) (m : FinMap nat_cmp Part) (q : ℕ)
    → get (restored k before m) q ≡ cond (eq_by_cmp nat_cmp q k) before (get m q)
get-restored k None m q = get-remove nat_cmp_total m k q
get-restored k (Some c) m q = get-insert nat_cmp_total m k c q

-- what was laid is undone by what the object had
pub restored_laid : (m : FinMap nat_cmp Part) (k : ℕ) (c : Part) (before : Option Part)
    → before ≡ get m k → restored k before (insert m k c) ≡ m
restored_laid m k c before had = same_map nat_cmp_total nat_cmp-IsAntisymmetric _ _ (λ q.
    get-restored k before _ q
    ∙ ap (cond (eq_by_cmp nat_cmp q k) before) (get-insert nat_cmp_total m k c q)
    ∙ at (eq_by_cmp nat_cmp q k) q refl)
  where
    at : (b : Bool) (q : ℕ) → eq_by_cmp nat_cmp q k ≡ b → cond b before (cond b (Some c) (get m q)) ≡ get m q
    at false q e = refl
    at true q e = had ∙ found_alike m q k e

-- the last is undone first
pub undone_last : (rs : List (ℕ × Option Part)) (k : ℕ) (before : Option Part) (m : FinMap nat_cmp Part)
    → undone (rs ++ (k, before) ∷ []) m ≡ undone rs (restored k before m)
undone_last [] k before m = refl
undone_last (r ∷ rs) k before m = ap (restored r.0 r.1) (undone_last rs k before m)

pub CanUndo-last : (rs : List (ℕ × Option Part)) (k : ℕ) (before : Option Part) (m : FinMap nat_cmp Part)
    → CanUndo (rs ++ (k, before) ∷ []) m → CanUndo rs (restored k before m) × IsSome (get m k)
CanUndo-last [] k before m can = (tt, can.1)
CanUndo-last (r ∷ rs) k before m can =
    let rest = CanUndo-last rs k before m can.0 in
    ((rest.0, subst (λ n. IsSome (get n r.0)) (undone_last rs k before m) can.1), rest.1)

pub CanUndo-push : (rs : List (ℕ × Option Part)) (k : ℕ) (before : Option Part) (m : FinMap nat_cmp Part)
    → CanUndo rs (restored k before m) → IsSome (get m k) → CanUndo (rs ++ (k, before) ∷ []) m
CanUndo-push [] k before m can here = (tt, here)
CanUndo-push (r ∷ rs) k before m can here =
    (CanUndo-push rs k before m can.0 here, subst (λ n. IsSome (get n r.0)) (sym (undone_last rs k before m)) can.1)
