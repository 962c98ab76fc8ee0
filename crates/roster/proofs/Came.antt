-- Dependencies by guardian, and their entries.
use Rattle.std.proofs.Common.{Bool, List, [], Some, cond, eq-eqb, eqb-true, false, ne_eqb, refl, sym, true, ℕ, ◌==◌, ◌∙◌, ◌∷◌, ◌≡◌}
use Rattle.std.specs.Cmp.{unsigned_tied}
use Rattle.std.specs.FinMap as tree
use Rattle.std.specs.FinMap.Entries.{find}
use Rattle.std.specs.Ordering.{nat_cmp}
use Rattle.std.proofs.lemmas.Bool.{eqb-false}
use Rattle.action_names.specs.Deps.{Deps}
use Rattle.run_model.specs.LocalReadings.{beside}

eqb_turned : (m n : ℕ) → (m == n) ≡ (n == m)
eqb_turned m n = of (n == m) refl
  where
    of : (b : Bool) → (n == m) ≡ b → (m == n) ≡ b
    of true same = eq-eqb m n (sym (eqb-true n m same))
    of false other = ne_eqb m n (λ e. eqb-false n m other (sym e))

find_beside : (es : List (ℕ × ℕ)) (h : ℕ) → find nat_cmp h es ≡ beside es h
find_beside [] h = refl
find_beside (e ∷ es) h = λ i. cond ((unsigned_tied h e.0 ∙ eqb_turned h e.0) i) (Some e.1) (find_beside es h i)

-- beside a guardian stands the dependency on it
pub beside_get : (deps : Deps) (h : ℕ) → beside (tree.entries deps) h ≡ tree.get deps h
beside_get deps h = sym (tree.get-entries deps h ∙ find_beside (tree.entries deps) h)
