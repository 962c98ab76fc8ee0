-- What expressions and conditions come to by the variables.
use Rattle.std.specs.Prelude.{ℕ, ℤ, pos, negsuc, ◌+ℤ◌, ◌-ℤ◌, ◌^◌, nat_lt, int_lt, Bool, List, if◌then◌else◌}
use Rattle.std.specs.Prelude.{Option, Some, None, option_map, slice_get}
use Rattle.std.specs.Ordering.{int_eq}
use Rattle.values.specs.declared.value.Value.{Value}
use Rattle.values.specs.declared.value.Value.TheVariants as value
use Rattle.values.specs.Words.{same_bytes}
use Rattle.script_model.specs.declared.expression.IntExpr.{IntExpr}
use Rattle.script_model.specs.declared.expression.IntExpr.TheOpen.{IntExpr-F}
use Rattle.script_model.specs.declared.expression.IntExpr.TheFolds.{fold-IntExpr}
use Rattle.script_model.specs.declared.expression.TextExpr.{TextExpr}
use Rattle.script_model.specs.declared.expression.TextExpr.TheVariants as text
use Rattle.script_model.specs.declared.expression.Expr.{Expr}
use Rattle.script_model.specs.declared.expression.Expr.TheVariants as expr
use Rattle.script_model.specs.declared.expression.Condition.{Condition}
use Rattle.script_model.specs.declared.expression.Condition.TheVariants as test
use Rattle.frames.specs.Bound.{Bound}

-- what two values give together; nothing where one of them is missing
abbrev pub together : {A B C : Type 0} → (A → B → C) → Option A → Option B → Option C
together f None y = None
together f (Some a) None = None
together f (Some a) (Some b) = Some (f a b)

-- whether a number is one of signed 64 bits, from -(2^63) to 2^63 - 1
abbrev pub is_64_bits : ℤ → Bool
is_64_bits (pos n) = nat_lt n (2 ^ 63)
is_64_bits (negsuc n) = nat_lt n (2 ^ 63)

-- the number, if there is one and it is within 64 bits
abbrev pub within_64_bits : Option ℤ → Option ℤ
within_64_bits None = None
within_64_bits (Some n) = if is_64_bits n then Some n else None

-- what an int expression comes to by what its parts come to: a variable is what stands at its place
abbrev pub int_step : List ℤ → IntExpr-F (Option ℤ) → Option ℤ
int_step ints (IntExpr-F.Literal n) = Some n
int_step ints (IntExpr-F.Variable place) = slice_get ints place
int_step ints (IntExpr-F.Sum x y) = within_64_bits (together ◌+ℤ◌ x y)
int_step ints (IntExpr-F.Difference x y) = within_64_bits (together ◌-ℤ◌ x y)

-- the value of an int expression; none where a sum or a difference in it is outside 64 bits
abbrev pub int_value : List ℤ → IntExpr → Option ℤ
int_value ints = fold-IntExpr (Option ℤ) (int_step ints)

-- the value of a text expression
abbrev pub text_value : List (List ℕ) → TextExpr → Option (List ℕ)
text_value texts (text.Literal s) = Some s
text_value texts (text.Variable place) = slice_get texts place

-- the value of an expression
abbrev pub value_of : Bound → Expr → Option Value
value_of b (expr.Int e) = option_map value.Int (int_value b.ints e)
value_of b (expr.Text e) = option_map value.Text (text_value b.texts e)

-- whether a condition holds; unknown where an int in it has no value
abbrev pub truth_of : Bound → Condition → Option Bool
truth_of b (test.SameInts x y) = together int_eq (int_value b.ints x) (int_value b.ints y)
truth_of b (test.SameTexts x y) = together same_bytes (text_value b.texts x) (text_value b.texts y)
truth_of b (test.Less x y) = together int_lt (int_value b.ints x) (int_value b.ints y)
truth_of b (test.Truth place) = slice_get b.truths place
