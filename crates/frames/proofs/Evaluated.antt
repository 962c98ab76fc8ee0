-- What an int expression comes to, by its form.
use Rattle.std.proofs.Common.{Bool, IsTrue, List, Option, ap, arith, length, nat_lt, slice_get, sym, true, ◌∙◌, ◌≡◌, ◌<◌, ℕ, ℤ}
use Rattle.std.proofs.lemmas.Bool.Decides.{nat_tests}
use Rattle.script_model.specs.declared.expression.IntExpr.{IntExpr}
use Rattle.script_model.specs.declared.expression.IntExpr.TheVariants as int
use Rattle.script_model.specs.declared.expression.IntExpr.TheOpen.{IntExpr-F}
use Rattle.script_model.specs.declared.expression.IntExpr.TheFolds.{fold-roll-IntExpr}
use Rattle.script_model.specs.Resolved.{int_is_bound, int_step as asked_step}
use Rattle.frames.specs.Evaluating.{int_value, int_step}

-- a variable is what stands at its place
pub variable_value : (ints : List ℤ) (place : ℕ) → int_value ints (int.Variable place) ≡ slice_get ints place
variable_value ints place =
    ap (int_value ints) (sym (int.rolls-Variable place)) ∙ fold-roll-IntExpr (Option ℤ) (int_step ints) (IntExpr-F.Variable place)

variable_asks : (n place : ℕ) → int_is_bound n (int.Variable place) ≡ nat_lt place n
variable_asks n place =
    ap (int_is_bound n) (sym (int.rolls-Variable place)) ∙ fold-roll-IntExpr Bool (asked_step n) (IntExpr-F.Variable place)

below : (m n : ℕ) → nat_lt m n ≡ true → m < n
below m n h = grind (arith, nat_tests)

-- a variable that is bound has its place among the others
pub variable_within : (ints : List ℤ) (e : IntExpr) (place : ℕ) → e ≡ int.Variable place → IsTrue (int_is_bound (length ints) e)
    → place < length ints
variable_within ints e place is bound =
    below place (length ints) (sym (ap (int_is_bound (length ints)) is ∙ variable_asks (length ints) place) ∙ bound)
