-- What a statement that returns is, by whether it returns a value.
use Rattle.std.proofs.Common.{◌≡◌, ℕ, List, Bool, true, false, not, ◌&&◌, is_some, Some, None, Ok, Err, codes, refl, ap}
use Rattle.serde_json.specs.Data.{Data, null, boolean, number, string, array, object}
use Rattle.serde_json.specs.Find.{as_null}
use Rattle.script_model.specs.declared.fault.FaultKind.TheVariants as is
use Rattle.script_model.specs.declared.expression.Expr.{Expr}
use Rattle.script_model.specs.declared.statement.Statement.{Statement}
use Rattle.script_model.specs.declared.statement.Statement.TheVariants.{Return}
use Rattle.script_model.specs.Reading.{Outcome, and_then, ask, step}
use Rattle.script_model.specs.Scopes.{Scope}
use Rattle.script_model.specs.ExpressionReading.{sort_of, value_expr}
use Rattle.script_model.specs.StatementReading.{Context, may_return, may_return_nothing, return_in}

pub return_in-null : (cx : Context) (scope : Scope) (d : Data) (place : List ℕ) → is_some (as_null d) ≡ true
    → return_in cx scope d place ≡ and_then (ask (not cx.in_top && may_return_nothing cx.gives) is.Flow place) (λ _. Ok (Return None))
return_in-null cx scope null place e = refl
return_in-null cx scope (boolean b) place e = cc
return_in-null cx scope (number n) place e = cc
return_in-null cx scope (string s) place e = cc
return_in-null cx scope (array ds) place e = cc
return_in-null cx scope (object ms) place e = cc

some_then : (r : Outcome Expr) → and_then (and_then r (λ e. Ok (Some e))) (λ e. Ok (Return e)) ≡ and_then r (λ e. Ok (Return (Some e)))
some_then (Ok e) = refl
some_then (Err e) = refl

after_asking : (fits : Bool) (place : List ℕ) (r : Outcome Expr)
    → and_then (ask fits is.Flow place) (λ _. and_then (and_then r (λ e. Ok (Some e))) (λ e. Ok (Return e)))
    ≡ and_then (ask fits is.Flow place) (λ _. and_then r (λ e. Ok (Return (Some e))))
after_asking fits place r = ap (λ (q : Outcome Statement). and_then (ask fits is.Flow place) (λ _. q)) (some_then r)

pub return_in-value : (cx : Context) (scope : Scope) (d : Data) (place : List ℕ) → is_some (as_null d) ≡ false
    → return_in cx scope d place
    ≡ and_then (ask (not cx.in_top && may_return cx.gives (sort_of scope d)) is.Flow place)
    (λ _. and_then (value_expr scope d (step place (codes "return"))) (λ e. Ok (Return (Some e))))
return_in-value cx scope null place e = cc
return_in-value cx scope (boolean b) place e = after_asking _ place (value_expr scope (boolean b) (step place (codes "return")))
return_in-value cx scope (number n) place e = after_asking _ place (value_expr scope (number n) (step place (codes "return")))
return_in-value cx scope (string s) place e = after_asking _ place (value_expr scope (string s) (step place (codes "return")))
return_in-value cx scope (array ds) place e = after_asking _ place (value_expr scope (array ds) (step place (codes "return")))
return_in-value cx scope (object ms) place e = after_asking _ place (value_expr scope (object ms) (step place (codes "return")))
