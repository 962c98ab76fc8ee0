-- What is read as an expression or a condition names bound variables alone, and is of the sort that it shows.
use Rattle.std.proofs.Common.{Bool, Err, List, None, Ok, Option, Some, ap, cond, false, is_some, refl, subst, sym, true, ℕ, ℤ, ◌&&◌, ◌<◌, ◌||◌, ◌∙◌, ◌≡◌, codes}
use Rattle.std.proofs.lemmas.Bool.{and_from, lt-ltb, false≢true}
use Rattle.std.proofs.lemmas.Option.{none-some, same_Some}
use Rattle.serde_json.specs.Data.{Data, null, boolean, number, string, array, object, Items, no_items, item, Members, no_members, member}
use Rattle.serde_json.specs.Find.{as_i64, as_str}
use Rattle.values.specs.Words.{same_bytes}
use Rattle.values.specs.declared.value.Kind.{Kind}
use Rattle.values.specs.declared.value.Kind.TheVariants as kind
use Rattle.script_model.specs.declared.fault.FaultKind.TheVariants as is
use Rattle.script_model.specs.declared.fault.ScriptFault.TheVariants.{Bad}
use Rattle.script_model.specs.declared.fault.ScriptFault.{ScriptFault}
use Rattle.script_model.specs.declared.names.Sort.{Sort}
use Rattle.script_model.specs.declared.names.Sort.TheVariants.{Int, Text, Truth, Unknown}
use Rattle.script_model.specs.declared.expression.IntExpr.{IntExpr}
use Rattle.script_model.specs.declared.expression.TextExpr.{TextExpr}
use Rattle.script_model.specs.declared.expression.TextExpr.TheVariants as text
use Rattle.script_model.specs.declared.expression.Expr.{Expr}
use Rattle.script_model.specs.declared.expression.Expr.TheVariants as expr
use Rattle.script_model.specs.declared.expression.Condition.{Condition}
use Rattle.script_model.specs.declared.expression.Condition.TheVariants as test
use Rattle.script_model.specs.Reading.{Read, step, at, nth, need, ask, reads, ◌>>=◌, ◌>>◌}
use Rattle.script_model.specs.Shapes.{the_string, the_pair, only_member}
use Rattle.script_model.specs.Scopes.{Scope, Variable, count_bound, find, agree, same_sort, sort_of_kind}
use Rattle.script_model.specs.ExpressionReading.{variable, int_at, int_variable, int_literal, int_expr, int_of_members, int_operands, two_ints, sum_of, difference_of, sort_of, sort_found, sort_of_variable, is_pair, text_at, text_variable, text_of_only, text_expr, no_text, short_text, expr_of_kind, kind_wanted, value_expr, truth_at, truth_variable, same_texts, same_ints, equal, less, condition_of_only, condition}
use Rattle.script_model.specs.Resolved.{int_is_bound, text_is_bound, expr_is_bound, expr_kind, condition_is_bound}
use Rattle.script_model.proofs.Steps.{needed_ok, no_fault, same_ok, then_read}
use Rattle.script_model.proofs.Asking.{literal_asks, variable_asks, sum_asks, difference_asks}
use Rattle.script_model.proofs.Scopes.{found_within, found_known, is_known, all_known, frames_of}

-- a variable that is read was found
pub variable_found : (scope : Scope) (d : Data) (place : List ℕ) (v : Variable) → variable scope d place ≡ Ok v
    → (name : List ℕ) × (as_str d ≡ Some name) × (find scope name ≡ Some v)
variable_found scope d place v h =
    let (name, p, q) = then_read (at (codes "var") (the_string d)) (λ name. need (find scope name) is.Unbound) place v h in
    (name, needed_ok (as_str d) is.Shape _ name p, needed_ok (find scope name) is.Unbound place v q)

-- ---- ints

-- the int expression names bound variables alone
abbrev pub IsBoundInt : Scope → IntExpr → Type 0
IsBoundInt scope e = int_is_bound (count_bound Int scope) e ≡ true

int_at_bound : (s : Sort) (p n : ℕ) (place : List ℕ) (e : IntExpr) → (s ≡ Int → p < n) → int_at s p place ≡ Ok e → int_is_bound n e ≡ true
int_at_bound Int p n place e w h = subst (λ x. int_is_bound n x ≡ true) (same_ok _ e h) (variable_asks n p ∙ lt-ltb p n (w refl))
int_at_bound Text p n place e w h = no_fault h
int_at_bound Truth p n place e w h = no_fault h
int_at_bound Unknown p n place e w h = subst (λ x. int_is_bound n x ≡ true) (same_ok _ e h) (literal_asks n _)

int_variable_bound : (scope : Scope) (d : Data) (place : List ℕ) (e : IntExpr) → int_variable scope d place ≡ Ok e → IsBoundInt scope e
int_variable_bound scope d place e h =
    let (v, p, q) = then_read (variable scope d) (λ v. int_at v.sort v.place) place e h in
    let (name, r, s) = variable_found scope d place v p in
    int_at_bound v.sort v.place (count_bound Int scope) place e
    (λ i. subst (λ x. v.place < count_bound x scope) i (found_within scope name v s)) q

literal_bound : (o : Option ℤ) (n : ℕ) (place : List ℕ) (e : IntExpr) → int_literal o place ≡ Ok e → int_is_bound n e ≡ true
literal_bound None n place e h = no_fault h
literal_bound (Some z) n place e h = subst (λ x. int_is_bound n x ≡ true) (same_ok _ e h) (literal_asks n z)

abbrev AreBound : ℕ → IntExpr × IntExpr → Type 0
AreBound n p = (int_is_bound n p.0 ≡ true) × (int_is_bound n p.1 ≡ true)

by_name_bound : (t u w : Bool) (n : ℕ) (bound : Read IntExpr) (operands : Read (IntExpr × IntExpr)) (place : List ℕ) (e : IntExpr)
    → ((place : List ℕ) (e : IntExpr) → bound place ≡ Ok e → int_is_bound n e ≡ true)
    → ((place : List ℕ) (p : IntExpr × IntExpr) → operands place ≡ Ok p → AreBound n p)
    → cond t bound (cond u (at (codes "add") operands >>= sum_of)
    (cond w (at (codes "sub") operands >>= difference_of) (λ p. Err (Bad is.Shape p)))) place ≡ Ok e
    → int_is_bound n e ≡ true
by_name_bound true u w n bound operands place e f g h = f place e h
by_name_bound false true w n bound operands place e f g h =
    let (p, q, r) = then_read (at (codes "add") operands) sum_of place e h in
    let (a, b) = g _ p q in
    subst (λ x. int_is_bound n x ≡ true) (same_ok _ e r) (sum_asks n p.0 p.1 ∙ and_from _ _ a b)
by_name_bound false false true n bound operands place e f g h =
    let (p, q, r) = then_read (at (codes "sub") operands) difference_of place e h in
    let (a, b) = g _ p q in
    subst (λ x. int_is_bound n x ≡ true) (same_ok _ e r) (difference_asks n p.0 p.1 ∙ and_from _ _ a b)
by_name_bound false false false n bound operands place e f g h = no_fault h

mutual
  pub int_bound : (scope : Scope) (d : Data) (place : List ℕ) (e : IntExpr) → int_expr scope d place ≡ Ok e → IsBoundInt scope e
  int_bound scope null place e h = no_fault h
  int_bound scope (boolean b) place e h = no_fault h
  int_bound scope (number n) place e h = literal_bound (as_i64 n) (count_bound Int scope) place e h
  int_bound scope (string s) place e h = no_fault h
  int_bound scope (array ds) place e h = no_fault h
  int_bound scope (object ms) place e h = members_bound scope ms place e h

  members_bound : (scope : Scope) (ms : Members) (place : List ℕ) (e : IntExpr) → int_of_members scope ms place ≡ Ok e → IsBoundInt scope e
  members_bound scope no_members place e h = no_fault h
  members_bound scope (member name d no_members) place e h =
      by_name_bound (same_bytes name (codes "var")) (same_bytes name (codes "add")) (same_bytes name (codes "sub")) (count_bound Int scope)
      (int_variable scope d) (int_operands scope d) place e (int_variable_bound scope d) (operands_bound scope d) h
  members_bound scope (member name d (member other x ms)) place e h = no_fault h

  pub operands_bound : (scope : Scope) (d : Data) (place : List ℕ) (p : IntExpr × IntExpr) → int_operands scope d place ≡ Ok p
      → AreBound (count_bound Int scope) p
  operands_bound scope null place p h = no_fault h
  operands_bound scope (boolean b) place p h = no_fault h
  operands_bound scope (number n) place p h = no_fault h
  operands_bound scope (string s) place p h = no_fault h
  operands_bound scope (array ds) place p h = two_ints_bound scope ds place p h
  operands_bound scope (object ms) place p h = no_fault h

  two_ints_bound : (scope : Scope) (ds : Items) (place : List ℕ) (p : IntExpr × IntExpr) → two_ints scope ds place ≡ Ok p
      → AreBound (count_bound Int scope) p
  two_ints_bound scope no_items place p h = no_fault h
  two_ints_bound scope (item d no_items) place p h = no_fault h
  two_ints_bound scope (item d (item e no_items)) place p h =
      let (x, a, b) = then_read (nth 0 (int_expr scope d)) (λ x. nth 1 (int_expr scope e) >>= λ y. reads (x, y)) place p h in
      let (y, c, q) = then_read (nth 1 (int_expr scope e)) (λ y. reads (x, y)) place p b in
      subst (AreBound (count_bound Int scope)) (same_ok (x, y) p q) (int_bound scope d _ x a, int_bound scope e _ y c)
  two_ints_bound scope (item d (item e (item f ds))) place p h = no_fault h

-- ---- the sort of what is read as an int

int_at_sort : (s : Sort) (p : ℕ) (place : List ℕ) (e : IntExpr) → is_known s ≡ true → int_at s p place ≡ Ok e → s ≡ Int
int_at_sort Int p place e k h = refl
int_at_sort Text p place e k h = no_fault h
int_at_sort Truth p place e k h = no_fault h
int_at_sort Unknown p place e k h = absurd (false≢true k)

sort_shown : (scope : Scope) (d : Data) (name : List ℕ) (v : Variable) → as_str d ≡ Some name → find scope name ≡ Some v
    → sort_of_variable scope d ≡ v.sort
sort_shown scope (string s) name v p q = ap (λ n. sort_found (find scope n)) (same_Some s name p) ∙ ap sort_found q
sort_shown scope null name v p q = absurd (none-some name p)
sort_shown scope (boolean b) name v p q = absurd (none-some name p)
sort_shown scope (number n) name v p q = absurd (none-some name p)
sort_shown scope (array ds) name v p q = absurd (none-some name p)
sort_shown scope (object ms) name v p q = absurd (none-some name p)

int_variable_sort : (scope : Scope) (d : Data) (place : List ℕ) (e : IntExpr) → all_known scope ≡ true → int_variable scope d place ≡ Ok e
    → sort_of_variable scope d ≡ Int
int_variable_sort scope d place e k h =
    let (v, p, q) = then_read (variable scope d) (λ v. int_at v.sort v.place) place e h in
    let (name, r, s) = variable_found scope d place v p in
    sort_shown scope d name v r s ∙ int_at_sort v.sort v.place place e (found_known scope name v k s) q

literal_sort : (o : Option ℤ) (place : List ℕ) (e : IntExpr) → int_literal o place ≡ Ok e → cond (is_some o) Int Unknown ≡ Int
literal_sort None place e h = no_fault h
literal_sort (Some z) place e h = refl

operands_pair : (scope : Scope) (d : Data) (place : List ℕ) (p : IntExpr × IntExpr) → int_operands scope d place ≡ Ok p → is_pair d ≡ true
operands_pair scope null place p h = no_fault h
operands_pair scope (boolean b) place p h = no_fault h
operands_pair scope (number n) place p h = no_fault h
operands_pair scope (string s) place p h = no_fault h
operands_pair scope (array no_items) place p h = no_fault h
operands_pair scope (array (item d no_items)) place p h = no_fault h
operands_pair scope (array (item d (item e no_items))) place p h = refl
operands_pair scope (array (item d (item e (item f ds)))) place p h = no_fault h
operands_pair scope (object ms) place p h = no_fault h

by_name_sort : (t u w pair : Bool) (s : Sort) (bound : Read IntExpr) (operands : Read (IntExpr × IntExpr)) (place : List ℕ) (e : IntExpr)
    → ((place : List ℕ) (e : IntExpr) → bound place ≡ Ok e → s ≡ Int)
    → ((place : List ℕ) (p : IntExpr × IntExpr) → operands place ≡ Ok p → pair ≡ true)
    → cond t bound (cond u (at (codes "add") operands >>= sum_of)
    (cond w (at (codes "sub") operands >>= difference_of) (λ p. Err (Bad is.Shape p)))) place ≡ Ok e
    → cond t s (cond ((u || w) && pair) Int Unknown) ≡ Int
by_name_sort true u w pair s bound operands place e f g h = f place e h
by_name_sort false true w pair s bound operands place e f g h =
    let (p, q, r) = then_read (at (codes "add") operands) sum_of place e h in
    ap (λ b. cond b Int Unknown) (g _ p q)
by_name_sort false false true pair s bound operands place e f g h =
    let (p, q, r) = then_read (at (codes "sub") operands) difference_of place e h in
    ap (λ b. cond b Int Unknown) (g _ p q)
by_name_sort false false false pair s bound operands place e f g h = no_fault h

-- what is read as an int shows that it is one
pub int_sort : (scope : Scope) (d : Data) (place : List ℕ) (e : IntExpr) → all_known scope ≡ true → int_expr scope d place ≡ Ok e
    → sort_of scope d ≡ Int
int_sort scope null place e k h = no_fault h
int_sort scope (boolean b) place e k h = no_fault h
int_sort scope (number n) place e k h = literal_sort (as_i64 n) place e h
int_sort scope (string s) place e k h = no_fault h
int_sort scope (array ds) place e k h = no_fault h
int_sort scope (object no_members) place e k h = no_fault h
int_sort scope (object (member name d no_members)) place e k h =
    by_name_sort (same_bytes name (codes "var")) (same_bytes name (codes "add")) (same_bytes name (codes "sub")) (is_pair d)
    (sort_of_variable scope d) (int_variable scope d) (int_operands scope d) place e (λ place e. int_variable_sort scope d place e k)
    (operands_pair scope d) h
int_sort scope (object (member name d (member other x ms))) place e k h = no_fault h

-- ---- texts

abbrev pub IsBoundText : Scope → TextExpr → Type 0
IsBoundText scope e = text_is_bound (count_bound Text scope) e ≡ true

text_at_bound : (s : Sort) (p n : ℕ) (place : List ℕ) (e : TextExpr) → (s ≡ Text → p < n) → text_at s p place ≡ Ok e
    → text_is_bound n e ≡ true
text_at_bound Int p n place e w h = no_fault h
text_at_bound Text p n place e w h = subst (λ x. text_is_bound n x ≡ true) (same_ok _ e h) (lt-ltb p n (w refl))
text_at_bound Truth p n place e w h = no_fault h
text_at_bound Unknown p n place e w h = subst (λ x. text_is_bound n x ≡ true) (same_ok _ e h) refl

text_variable_bound : (scope : Scope) (d : Data) (place : List ℕ) (e : TextExpr) → text_variable scope d place ≡ Ok e → IsBoundText scope e
text_variable_bound scope d place e h =
    let (v, p, q) = then_read (variable scope d) (λ v. text_at v.sort v.place) place e h in
    let (name, r, s) = variable_found scope d place v p in
    text_at_bound v.sort v.place (count_bound Text scope) place e
    (λ i. subst (λ x. v.place < count_bound x scope) i (found_within scope name v s)) q

-- of three tests only the first does not lead to a fault
only_first : {A : Type 0} (t u w : Bool) (r : Read A) (f g : List ℕ → ScriptFault) (place : List ℕ) (a : A)
    → cond t r (cond u (λ p. Err (f p)) (cond w (λ p. Err (g p)) (λ p. Err (Bad is.Shape p)))) place ≡ Ok a → r place ≡ Ok a
only_first true u w r f g place a h = h
only_first false true w r f g place a h = no_fault h
only_first false false true r f g place a h = no_fault h
only_first false false false r f g place a h = no_fault h

text_only_bound : (scope : Scope) (o : Option (List ℕ × Data)) (place : List ℕ) (e : TextExpr) → text_of_only scope o place ≡ Ok e
    → IsBoundText scope e
text_only_bound scope None place e h = no_fault h
text_only_bound scope (Some p) place e h =
    text_variable_bound scope p.1 place e
    (only_first (same_bytes p.0 (codes "var")) (same_bytes p.0 (codes "add")) (same_bytes p.0 (codes "sub")) (text_variable scope p.1)
    (λ place. no_text (is_pair p.1) place (step place (codes "add"))) (λ place. no_text (is_pair p.1) place (step place (codes "sub")))
    place e h)

no_number : {B : Type 0} (t : Bool) (place : List ℕ) (e : TextExpr)
    → cond {A = Read TextExpr} t (λ p. Err (Bad is.Kind p)) (λ p. Err (Bad is.Shape p)) place ≡ Ok e → B
no_number true place e h = no_fault h
no_number false place e h = no_fault h

pub text_bound : (scope : Scope) (d : Data) (place : List ℕ) (e : TextExpr) → text_expr scope d place ≡ Ok e → IsBoundText scope e
text_bound scope (string s) place e h =
    let (short, p, q) = then_read (short_text s) (λ short. reads (text.Literal short)) place e h in
    subst (IsBoundText scope) (same_ok (text.Literal short) e q) refl
text_bound scope (number n) place e h = no_number (is_some (as_i64 n)) place e h
text_bound scope null place e h = no_fault h
text_bound scope (boolean b) place e h = no_fault h
text_bound scope (array ds) place e h = no_fault h
text_bound scope (object ms) place e h = text_only_bound scope (only_member (object ms)) place e h

-- ---- ints and texts

abbrev pub IsBoundExpr : Scope → Expr → Type 0
IsBoundExpr scope e = expr_is_bound (frames_of scope) e ≡ true

-- what is read as a value of a kind is of it
pub expr_bound : (k : Kind) (scope : Scope) (d : Data) (place : List ℕ) (e : Expr) → expr_of_kind k scope d place ≡ Ok e
    → (expr_kind e ≡ k) × IsBoundExpr scope e
expr_bound kind.Int scope d place e h =
    let (x, p, q) = then_read (int_expr scope d) (λ x. reads (expr.Int x)) place e h in
    subst (λ y. (expr_kind y ≡ kind.Int) × IsBoundExpr scope y) (same_ok (expr.Int x) e q) (refl, int_bound scope d place x p)
expr_bound kind.Text scope d place e h =
    let (x, p, q) = then_read (text_expr scope d) (λ x. reads (expr.Text x)) place e h in
    subst (λ y. (expr_kind y ≡ kind.Text) × IsBoundExpr scope y) (same_ok (expr.Text x) e q) (refl, text_bound scope d place x p)

-- what is read as a value is of the sort that it shows
pub value_sort : (scope : Scope) (d : Data) (place : List ℕ) (e : Expr) → all_known scope ≡ true → value_expr scope d place ≡ Ok e
    → sort_of scope d ≡ sort_of_kind (expr_kind e)
value_sort scope d place e k h = by_sort (sort_of scope d) refl h
  where
    as_int : expr_of_kind kind.Int scope d place ≡ Ok e → sort_of scope d ≡ sort_of_kind (expr_kind e)
    as_int g =
        let (x, p, q) = then_read (int_expr scope d) (λ x. reads (expr.Int x)) place e g in
        int_sort scope d place x k p ∙ sym (ap sort_of_kind (expr_bound kind.Int scope d place e g).0)

    by_sort : (s : Sort) → sort_of scope d ≡ s → expr_of_kind (kind_wanted s) scope d place ≡ Ok e
        → sort_of scope d ≡ sort_of_kind (expr_kind e)
    by_sort Text is' g = is' ∙ sym (ap sort_of_kind (expr_bound kind.Text scope d place e g).0)
    by_sort Int is' g = as_int g
    by_sort Truth is' g = as_int g
    by_sort Unknown is' g = as_int g

pub value_bound : (scope : Scope) (d : Data) (place : List ℕ) (e : Expr) → value_expr scope d place ≡ Ok e → IsBoundExpr scope e
value_bound scope d place e h = (expr_bound (kind_wanted (sort_of scope d)) scope d place e h).1

-- ---- conditions

abbrev pub IsBoundTest : Scope → Condition → Type 0
IsBoundTest scope c = condition_is_bound (frames_of scope) c ≡ true

truth_at_bound : (s : Sort) (p : ℕ) (scope : Scope) (place : List ℕ) (c : Condition) → (s ≡ Truth → p < count_bound Truth scope)
    → truth_at s p place ≡ Ok c → IsBoundTest scope c
truth_at_bound Int p scope place c w h = no_fault h
truth_at_bound Text p scope place c w h = no_fault h
truth_at_bound Truth p scope place c w h = subst (IsBoundTest scope) (same_ok _ c h) (lt-ltb p (count_bound Truth scope) (w refl))
truth_at_bound Unknown p scope place c w h = subst (IsBoundTest scope) (same_ok _ c h) (and_from _ _ (literal_asks _ _) (literal_asks _ _))

truth_variable_bound : (scope : Scope) (d : Data) (place : List ℕ) (c : Condition) → truth_variable scope d place ≡ Ok c
    → IsBoundTest scope c
truth_variable_bound scope d place c h =
    let (v, p, q) = then_read (variable scope d) (λ v. truth_at v.sort v.place) place c h in
    let (name, r, s) = variable_found scope d place v p in
    truth_at_bound v.sort v.place scope place c (λ i. subst (λ x. v.place < count_bound x scope) i (found_within scope name v s)) q

same_texts_bound : (scope : Scope) (p : Data × Data) (place : List ℕ) (c : Condition) → same_texts scope p place ≡ Ok c
    → IsBoundTest scope c
same_texts_bound scope p place c h =
    let (x, a, b) = then_read (nth 0 (text_expr scope p.0)) (λ x. nth 1 (text_expr scope p.1) >>= λ y. reads (test.SameTexts x y))
    place c h in
    let (y, e, q) = then_read (nth 1 (text_expr scope p.1)) (λ y. reads (test.SameTexts x y)) place c b in
    subst (IsBoundTest scope) (same_ok (test.SameTexts x y) c q) (and_from _ _ (text_bound scope p.0 _ x a) (text_bound scope p.1 _ y e))

same_ints_bound : (scope : Scope) (p : Data × Data) (place : List ℕ) (c : Condition) → same_ints scope p place ≡ Ok c → IsBoundTest scope c
same_ints_bound scope p place c h =
    let (x, a, b) = then_read (nth 0 (int_expr scope p.0)) (λ x. nth 1 (int_expr scope p.1) >>= λ y. reads (test.SameInts x y)) place c
    h in
    let (y, e, q) = then_read (nth 1 (int_expr scope p.1)) (λ y. reads (test.SameInts x y)) place c b in
    subst (IsBoundTest scope) (same_ok (test.SameInts x y) c q) (and_from _ _ (int_bound scope p.0 _ x a) (int_bound scope p.1 _ y e))

sides_bound : (t : Bool) (scope : Scope) (p : Data × Data) (place : List ℕ) (c : Condition)
    → cond t (same_texts scope p) (same_ints scope p) place ≡ Ok c → IsBoundTest scope c
sides_bound true scope p place c h = same_texts_bound scope p place c h
sides_bound false scope p place c h = same_ints_bound scope p place c h

abbrev sides : Scope → Data × Data → Read Condition
sides scope p =
    at (codes "eq") (cond (same_sort (sort_of scope p.0) Text || same_sort (sort_of scope p.1) Text) (same_texts scope p)
    (same_ints scope p))

equal_bound : (scope : Scope) (d : Data) (place : List ℕ) (c : Condition) → equal scope d place ≡ Ok c → IsBoundTest scope c
equal_bound scope d place c h =
    let (p, a, b) = then_read (at (codes "eq") (the_pair d))
    (λ p. ask (agree (sort_of scope p.0) (sort_of scope p.1)) is.Kind >> sides scope p) place c h in
    let (u, e, q) = then_read (ask (agree (sort_of scope p.0) (sort_of scope p.1)) is.Kind) (λ _. sides scope p) place c b in
    sides_bound (same_sort (sort_of scope p.0) Text || same_sort (sort_of scope p.1) Text) scope p _ c q

less_bound : (scope : Scope) (d : Data) (place : List ℕ) (c : Condition) → less scope d place ≡ Ok c → IsBoundTest scope c
less_bound scope d place c h =
    let (p, a, b) = then_read (at (codes "lt") (int_operands scope d)) (λ p. reads (test.Less p.0 p.1)) place c h in
    let (x, y) = operands_bound scope d _ p a in
    subst (IsBoundTest scope) (same_ok (test.Less p.0 p.1) c b) (and_from _ _ x y)

member_bound : (t u w : Bool) (scope : Scope) (d : Data) (place : List ℕ) (c : Condition)
    → cond t (truth_variable scope d) (cond u (equal scope d) (cond w (less scope d) (λ p. Err (Bad is.Shape p)))) place ≡ Ok c
    → IsBoundTest scope c
member_bound true u w scope d place c h = truth_variable_bound scope d place c h
member_bound false true w scope d place c h = equal_bound scope d place c h
member_bound false false true scope d place c h = less_bound scope d place c h
member_bound false false false scope d place c h = no_fault h

condition_only_bound : (scope : Scope) (o : Option (List ℕ × Data)) (place : List ℕ) (c : Condition)
    → condition_of_only scope o place ≡ Ok c
    → IsBoundTest scope c
condition_only_bound scope None place c h = no_fault h
condition_only_bound scope (Some p) place c h =
    member_bound (same_bytes p.0 (codes "var")) (same_bytes p.0 (codes "eq")) (same_bytes p.0 (codes "lt")) scope p.1 place c h

pub condition_bound : (scope : Scope) (d : Data) (place : List ℕ) (c : Condition) → condition scope d place ≡ Ok c → IsBoundTest scope c
condition_bound scope d place c h = condition_only_bound scope (only_member d) place c h
