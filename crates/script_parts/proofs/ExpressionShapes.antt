-- An expression that is an object, by its one member.
use Rattle.std.proofs.Common.{◌≡◌, ℕ, List, Some, Ok, refl}
use Rattle.serde_json.specs.Data.{Data, null, boolean, number, string, array, object, no_items, item, no_members, member}
use Rattle.script_parts.proofs.Pairs.{some_pair, ok_pair}
use Rattle.script_model.specs.Scopes.{Scope}
use Rattle.script_model.specs.Shapes.{only_member, the_pair}
use Rattle.script_model.specs.ExpressionReading.{int_expr, int_member, int_operands, two_ints, text_expr, text_member}

pub int_expr_only : (scope : Scope) (d : Data) (n : List ℕ) (e : Data) → only_member d ≡ Some (n, e) → int_expr scope d ≡ int_member scope n e
int_expr_only scope null n e is = cc
int_expr_only scope (boolean b) n e is = cc
int_expr_only scope (number x) n e is = cc
int_expr_only scope (string s) n e is = cc
int_expr_only scope (array ds) n e is = cc
int_expr_only scope (object no_members) n e is = cc
int_expr_only scope (object (member m d no_members)) n e is =
    let same = some_pair m n d e is in
    rw (← same.0, ← same.1) refl
int_expr_only scope (object (member m d (member l f ms))) n e is = cc

pub text_expr_only : (scope : Scope) (d : Data) (n : List ℕ) (e : Data) → only_member d ≡ Some (n, e) → text_expr scope d ≡ text_member scope n e
text_expr_only scope null n e is = cc
text_expr_only scope (boolean b) n e is = cc
text_expr_only scope (number x) n e is = cc
text_expr_only scope (string s) n e is = cc
text_expr_only scope (array ds) n e is = cc
text_expr_only scope (object no_members) n e is = cc
text_expr_only scope (object (member m d no_members)) n e is =
    let same = some_pair m n d e is in
    rw (← same.0, ← same.1) refl
text_expr_only scope (object (member m d (member l f ms))) n e is = cc

pub operands_pair : (scope : Scope) (d : Data) (place : List ℕ) (a b : Data) → the_pair d place ≡ Ok (a, b)
    → int_operands scope d place ≡ two_ints scope (item a (item b no_items)) place
operands_pair scope null place a b is = cc
operands_pair scope (boolean x) place a b is = cc
operands_pair scope (number n) place a b is = cc
operands_pair scope (string s) place a b is = cc
operands_pair scope (array no_items) place a b is = cc
operands_pair scope (array (item d no_items)) place a b is = cc
operands_pair scope (array (item d (item e no_items))) place a b is =
    let same = ok_pair d a e b is in
    rw (← same.0, ← same.1) refl
operands_pair scope (array (item d (item e (item f ds)))) place a b is = cc
operands_pair scope (object ms) place a b is = cc
