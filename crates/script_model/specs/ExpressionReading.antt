-- How expressions and conditions are read.
use Rattle.std.specs.Prelude.{Err, ℕ, ℤ, pos, List, [], length, Bool, ◌&&◌, ◌||◌, nat_le, is_some, codes, if◌then◌else◌, Option, Some, None, option_and_then}
use Rattle.serde_json.specs.Data.{Data, null, boolean, number, string, array, object, Items, no_items, item, Members, no_members, member}
use Rattle.serde_json.specs.Find.{as_i64, as_array}
use Rattle.values.specs.Words.{same_bytes, max_text}
use Rattle.values.specs.declared.value.Kind.{Kind}
use Rattle.values.specs.declared.value.Kind.TheVariants as kind
use Rattle.script_model.specs.declared.fault.FaultKind.TheVariants as is
use Rattle.script_model.specs.declared.fault.ScriptFault.{ScriptFault}
use Rattle.script_model.specs.declared.fault.ScriptFault.TheVariants.{Bad}
use Rattle.script_model.specs.declared.names.Sort.{Sort}
use Rattle.script_model.specs.declared.names.Sort.TheVariants.{Int, Text, Truth, Unknown}
use Rattle.script_model.specs.declared.expression.IntExpr.{IntExpr}
use Rattle.script_model.specs.declared.expression.IntExpr.TheVariants as int
use Rattle.script_model.specs.declared.expression.TextExpr.{TextExpr}
use Rattle.script_model.specs.declared.expression.TextExpr.TheVariants as text
use Rattle.script_model.specs.declared.expression.Expr.{Expr}
use Rattle.script_model.specs.declared.expression.Expr.TheVariants as expr
use Rattle.script_model.specs.declared.expression.Condition.{Condition}
use Rattle.script_model.specs.declared.expression.Condition.TheVariants as test
use Rattle.script_model.specs.Reading.{Read, step, reads, fault, ask, need, at, nth, ◌>>=◌, ◌>>◌}
use Rattle.script_model.specs.Shapes.{only_member, two_items, the_string, the_pair}
use Rattle.script_model.specs.Scopes.{Scope, Variable, find, agree, same_sort}

abbrev pub is_pair : Data → Bool
is_pair d = is_some (option_and_then two_items (as_array d))

abbrev pub is_sum : List ℕ → Bool
is_sum name = same_bytes name (codes "add") || same_bytes name (codes "sub")

-- a string that is short enough
abbrev pub short_text : List ℕ → Read (List ℕ)
short_text s = if nat_le (length s) max_text then reads s else fault is.Limit

-- ---- the sort of an expression, as it shows before its parts are read

abbrev pub sort_found : Option Variable → Sort
sort_found None = Unknown
sort_found (Some v) = v.sort

abbrev pub sort_of_variable : Scope → Data → Sort
sort_of_variable scope (string name) = sort_found (find scope name)
sort_of_variable scope _ = Unknown

abbrev pub sort_of_member : Scope → List ℕ → Data → Sort
sort_of_member scope name d =
    if same_bytes name (codes "var") then sort_of_variable scope d
    else (if is_sum name && is_pair d then Int else Unknown)

abbrev pub sort_of_only : Scope → Option (List ℕ × Data) → Sort
sort_of_only scope None = Unknown
sort_of_only scope (Some p) = sort_of_member scope p.0 p.1

abbrev pub sort_of : Scope → Data → Sort
sort_of scope (number n) = if is_some (as_i64 n) then Int else Unknown
sort_of scope (string s) = Text
sort_of scope d = sort_of_only scope (only_member d)

-- ---- variables

-- what `{"var": ..}` names
abbrev pub variable : Scope → Data → Read Variable
variable scope d = do
  name ← at (codes "var") (the_string d)
  need (find scope name) is.Unbound

-- A variable of unknown sort stands for any expression. What is read with it is never used, since a fault follows.
abbrev pub int_at : Sort → ℕ → Read IntExpr
int_at Int place = reads (int.Variable place)
int_at Unknown place = reads (int.Literal (pos 0))
int_at _ place = fault is.Kind

abbrev pub text_at : Sort → ℕ → Read TextExpr
text_at Text place = reads (text.Variable place)
text_at Unknown place = reads (text.Literal [])
text_at _ place = fault is.Kind

abbrev pub truth_at : Sort → ℕ → Read Condition
truth_at Truth place = reads (test.Truth place)
truth_at Unknown place = reads (test.Less (int.Literal (pos 0)) (int.Literal (pos 0)))
truth_at _ place = fault is.Kind

abbrev pub int_variable : Scope → Data → Read IntExpr
int_variable scope d = variable scope d >>= λ v. int_at v.sort v.place

abbrev pub text_variable : Scope → Data → Read TextExpr
text_variable scope d = variable scope d >>= λ v. text_at v.sort v.place

abbrev pub truth_variable : Scope → Data → Read Condition
truth_variable scope d = variable scope d >>= λ v. truth_at v.sort v.place

-- ---- expressions

abbrev pub sum_of : IntExpr × IntExpr → Read IntExpr
sum_of p = reads (int.Sum p.0 p.1)

abbrev pub difference_of : IntExpr × IntExpr → Read IntExpr
difference_of p = reads (int.Difference p.0 p.1)

abbrev pub int_literal : Option ℤ → Read IntExpr
int_literal None = fault is.Shape
int_literal (Some z) = reads (int.Literal z)

-- by the name of the one member: a variable, a sum or a difference
abbrev pub int_by_name : List ℕ → Read IntExpr → Read (IntExpr × IntExpr) → Read IntExpr
int_by_name name bound operands =
    if same_bytes name (codes "var") then bound
    else (if same_bytes name (codes "add") then (at (codes "add") operands >>= sum_of)
    else (if same_bytes name (codes "sub") then (at (codes "sub") operands >>= difference_of)
    else fault is.Shape))

-- an expression that is to give an int
abbrev mutual
  pub int_expr : Scope → Data → Read IntExpr
  int_expr scope null = fault is.Shape
  int_expr scope (boolean b) = fault is.Shape
  int_expr scope (number n) = int_literal (as_i64 n)
  int_expr scope (string s) = fault is.Kind
  int_expr scope (array ds) = fault is.Shape
  int_expr scope (object ms) = int_of_members scope ms

  pub int_of_members : Scope → Members → Read IntExpr
  int_of_members scope no_members = fault is.Shape
  int_of_members scope (member name d no_members) =
      int_by_name name (int_variable scope d) (int_operands scope d)
  int_of_members scope (member name d (member other e ms)) = fault is.Shape

  -- the two operands of a sum or a difference
  pub int_operands : Scope → Data → Read (IntExpr × IntExpr)
  int_operands scope null = fault is.Shape
  int_operands scope (boolean b) = fault is.Shape
  int_operands scope (number n) = fault is.Shape
  int_operands scope (string s) = fault is.Shape
  int_operands scope (array ds) = two_ints scope ds
  int_operands scope (object ms) = fault is.Shape

  pub two_ints : Scope → Items → Read (IntExpr × IntExpr)
  two_ints scope no_items = fault is.Shape
  two_ints scope (item d no_items) = fault is.Shape
  two_ints scope (item d (item e no_items)) = do
    x ← nth 0 (int_expr scope d)
    y ← nth 1 (int_expr scope e)
    reads (x, y)
  two_ints scope (item d (item e (item f ds))) = fault is.Shape

-- an expression that is to give a text
abbrev pub int_member : Scope → List ℕ → Data → Read IntExpr
int_member scope name d = int_by_name name (int_variable scope d) (int_operands scope d)

abbrev pub no_text : Bool → List ℕ → List ℕ → ScriptFault
no_text is_sum place inside = if is_sum then Bad is.Kind place else Bad is.Shape inside

abbrev pub text_member : Scope → List ℕ → Data → Read TextExpr
text_member scope name d =
    if same_bytes name (codes "var") then text_variable scope d
    else (if same_bytes name (codes "add")
    then (λ place. Err (no_text (is_pair d) place (step place (codes "add"))))
    else (if same_bytes name (codes "sub")
    then (λ place. Err (no_text (is_pair d) place (step place (codes "sub")))) else fault is.Shape))

abbrev pub text_of_only : Scope → Option (List ℕ × Data) → Read TextExpr
text_of_only scope None = fault is.Shape
text_of_only scope (Some p) = text_member scope p.0 p.1

abbrev pub text_expr : Scope → Data → Read TextExpr
text_expr scope (string s) = do
  short ← short_text s
  reads (text.Literal short)
text_expr scope (number n) = if is_some (as_i64 n) then fault is.Kind else fault is.Shape
text_expr scope d = text_of_only scope (only_member d)

abbrev pub expr_of_kind : Kind → Scope → Data → Read Expr
expr_of_kind kind.Int scope d = do
  e ← int_expr scope d
  reads (expr.Int e)
expr_of_kind kind.Text scope d = do
  e ← text_expr scope d
  reads (expr.Text e)

-- an expression that may give an int or a text
abbrev pub kind_wanted : Sort → Kind
kind_wanted Text = kind.Text
kind_wanted _ = kind.Int

abbrev pub value_expr : Scope → Data → Read Expr
value_expr scope d = expr_of_kind (kind_wanted (sort_of scope d)) scope d

-- ---- conditions

abbrev pub same_texts : Scope → Data × Data → Read Condition
same_texts scope p = do
  x ← nth 0 (text_expr scope p.0)
  y ← nth 1 (text_expr scope p.1)
  reads (test.SameTexts x y)

abbrev pub same_ints : Scope → Data × Data → Read Condition
same_ints scope p = do
  x ← nth 0 (int_expr scope p.0)
  y ← nth 1 (int_expr scope p.1)
  reads (test.SameInts x y)

-- both sides of an `eq` are of one kind, as far as it shows
abbrev pub equal : Scope → Data → Read Condition
equal scope d = do
  p ← at (codes "eq") (the_pair d)
  let s = sort_of scope p.0
  let t = sort_of scope p.1
  ask (agree s t) is.Kind
  at (codes "eq")
      (if same_sort s Text || same_sort t Text then same_texts scope p else same_ints scope p)

abbrev pub less : Scope → Data → Read Condition
less scope d = do
  p ← at (codes "lt") (int_operands scope d)
  reads (test.Less p.0 p.1)

abbrev pub condition_member : Scope → List ℕ → Data → Read Condition
condition_member scope name d =
    if same_bytes name (codes "var") then truth_variable scope d
    else (if same_bytes name (codes "eq") then equal scope d
    else (if same_bytes name (codes "lt") then less scope d else fault is.Shape))

abbrev pub condition_of_only : Scope → Option (List ℕ × Data) → Read Condition
condition_of_only scope None = fault is.Shape
condition_of_only scope (Some p) = condition_member scope p.0 p.1

abbrev pub condition : Scope → Data → Read Condition
condition scope d = condition_of_only scope (only_member d)
