-- The operations and the arguments of handlers that a script asks for, computed by the variables.
use Rattle.std.specs.Prelude.{ℕ, ℤ, List, [], ◌∷◌, Option, Some, option_map, option_and_then}
use Rattle.values.specs.declared.value.Value.{Value}
use Rattle.atomic_types.specs.declared.operation.Arguments.{Arguments}
use Rattle.atomic_types.specs.declared.operation.Arguments.TheVariants as with
use Rattle.atomic_types.specs.Operations.{Op, arguments_of, name_of, operation_of}
use Rattle.script_model.specs.declared.expression.IntExpr.{IntExpr}
use Rattle.script_model.specs.declared.expression.Expr.{Expr}
use Rattle.script_model.specs.declared.statement.HandlerCall.{HandlerCall}
use Rattle.script_model.specs.Operations.{Operation}
use Rattle.frames.specs.Bound.{Bound}
use Rattle.frames.specs.Evaluating.{int_value, text_value, together, value_of}

-- an operation's arguments with the values of their expressions; none where one of them has no value
abbrev pub arguments_by : Bound → Arguments (List ℕ) IntExpr Expr
    → Option (Arguments (List ℕ) ℤ Value)
arguments_by b with.Nothing = Some with.Nothing
arguments_by b (with.Word w) = Some (with.Word w)
arguments_by b (with.WordValue w e) = option_map (with.WordValue w) (value_of b e)
arguments_by b (with.Index i) = option_map with.Index (int_value b.ints i)
arguments_by b (with.IndexValue i e) = together with.IndexValue (int_value b.ints i) (value_of b e)
arguments_by b (with.Value e) = option_map with.Value (value_of b e)

-- the operation of the same name with the values of its arguments
abbrev pub op_of : Bound → Operation → Option Op
op_of b o = option_and_then (operation_of (name_of o)) (arguments_by b (arguments_of o))

-- what each of them gives, in order; nothing where one of them gives nothing
abbrev pub each : {A B : Type 0} → (A → Option B) → List A → Option (List B)
each f [] = Some []
each f (x ∷ xs) = together ◌∷◌ (f x) (each f xs)

-- the variables with which a handler's body begins: the ints and the texts that the call gives, in order, and no truths
abbrev pub given : Bound → HandlerCall → Option Bound
given b call =
    together (λ ints texts. record { ints = ints; texts = texts; truths = [] })
    (each (int_value b.ints) call.ints) (each (text_value b.texts) call.texts)
