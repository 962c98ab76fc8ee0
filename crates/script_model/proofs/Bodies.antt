-- What is read as a body is resolved where it stands.
use Rattle.std.proofs.Common.{Bool, List, None, Ok, Option, Some, [], ap, arith, codes, cond, false, is_some, map, not, option_map, refl, slice_get, subst, sym, true, suc, zero, ℕ, ℤ, ◌&&◌, ◌-◌, ◌≤◌, ◌∙◌, ◌∷◌, ◌≡◌, eq-eqb, le-leb}
use Rattle.std.proofs.lemmas.Bool.{and_from, and_parts, false≢true, not_from_false}
use Rattle.serde_json.specs.Data.{Data, null, boolean, number, string, array, object, Items, no_items, item, Members}
use Rattle.serde_json.specs.Find.{get_member}
use Rattle.values.specs.declared.value.Kind.{Kind}
use Rattle.values.specs.declared.value.Kind.TheVariants as kind
use Rattle.values.specs.Values.{same_kind}
use Rattle.script_model.specs.declared.fault.FaultKind.TheVariants as is
use Rattle.script_model.specs.declared.names.Gives.{Gives}
use Rattle.script_model.specs.declared.names.Gives.TheVariants.{Anything, Nothing, Value}
use Rattle.script_model.specs.declared.names.Sort.{Sort}
use Rattle.script_model.specs.declared.expression.Expr.{Expr}
use Rattle.script_model.specs.declared.expression.Condition.{Condition}
use Rattle.script_model.specs.declared.statement.Binding.{Binding}
use Rattle.script_model.specs.declared.statement.ObjectCall.{ObjectCall}
use Rattle.script_model.specs.declared.statement.HandlerCall.{HandlerCall}
use Rattle.script_model.specs.declared.statement.Statement.{Statement}
use Rattle.script_model.specs.declared.statement.Statement.TheVariants.{Op, Call, Coenter, TopAction, If, Repeat, Abort, Return}
use Rattle.script_model.specs.declared.statement.Arm.{Arm}
use Rattle.script_model.specs.declared.statement.Arm.TheOpen.{Statement-F}
use Rattle.script_model.specs.declared.checked.Handler.{Handler}
use Rattle.script_model.specs.Reading.{Read, ask, at, each, fault, need, nth, reads, step, ◌>>=◌}
use Rattle.script_model.specs.Shapes.{the_array, the_int, the_list, the_object, the_pair, the_triple, the_two}
use Rattle.script_model.specs.Scopes.{Scope, agree, sort_of_kind}
use Rattle.script_model.specs.ExpressionReading.{condition, sort_of, value_expr}
use Rattle.script_model.specs.OperationReading.{Typed, op_gives_nothing, operation}
use Rattle.script_model.specs.StatementReading.{Body, BodyReading, CallParts, Context, abort_in, arm_in, arm_of, ask_value, bind, body_at, call_gives_nothing, call_sorted, call_statement, coenter, if_in, in_top_action, is_null, is_top_arm, is_true, may_return, may_return_nothing, op_statement, or_empty, repeat_in, return_in, returned, signals, signals_in, statement, statement_of, statements, top_action, turns_of}
use Rattle.limits.specs.Limits.{max_arms}
use Rattle.script_model.specs.Resolved.{Asked, Frames, Surroundings, all_hold, asked, asked_step, body_holds, call_is_resolved, expr_kind, handler_takes, is_resolved_body, object_has, op_is_resolved, result_is, returned_is_bound, returns_as, signals_hold}
use Rattle.script_model.proofs.Steps.{asked_ok, no_fault, same_ok, then_read}
use Rattle.script_model.proofs.Scopes.{all_known, frames_of, known_kind}
use Rattle.script_model.proofs.Asking.{abort_asks, arm_asked, body_asks, call_asks, coenter_asks, if_asks, op_asks, repeat_asks, return_asks, sub_asks, top_arm_asks, top_asks}
use Rattle.script_model.proofs.Expressions.{condition_bound, value_bound, value_sort}
use Rattle.script_model.proofs.Bindings.{IsBoundBy, bind_bound, fits_sort, kind_fits, known_if_any}
use Rattle.script_model.proofs.Operations.{IsOperation, operation_typed}
use Rattle.script_model.proofs.Calls.{AreNumbered, IsCall, call_is}
use Rattle.script_model.proofs.Statements.{read_by, by_op, by_call, by_coenter, by_top, by_if, by_repeat, by_abort, by_return, unbound}

-- the surroundings of a body that is read in this context
abbrev pub around : Context → List Handler → Surroundings
around cx hs = record { objects = cx.objects; handlers = hs; gives = cx.gives; in_top = cx.in_top }

-- what this reads is resolved
abbrev pub Resolves : List Handler → Items → BodyReading → Type 0
Resolves hs guardians inner = (cx : Context) (scope : Scope) (d : Data) (place : List ℕ) (body : Body) → cx.guardians ≡ guardians
    → all_known scope ≡ true → inner cx scope d place ≡ Ok body → is_resolved_body (around cx hs) (frames_of scope) body ≡ true

-- what is asked of the statement holds, and the scope after it has the frames after it
pub record IsResolvedIn (hs : List Handler) (cx : Context) (scope : Scope) (r : Statement × Scope) : Type 0 where
  pub holds : (asked r.0).holds (around cx hs) (frames_of scope) ≡ true
  pub after : frames_of r.1 ≡ (asked r.0).after (frames_of scope)
  pub known : all_known r.1 ≡ true

from_asked : (hs : List Handler) (cx : Context) (scope : Scope) (r : Statement × Scope) (x : Asked) → asked r.0 ≡ x
    → x.holds (around cx hs) (frames_of scope) ≡ true → frames_of r.1 ≡ x.after (frames_of scope) → all_known r.1 ≡ true
    → IsResolvedIn hs cx scope r
from_asked hs cx scope r x is' holds after known = record {
  holds = ap (λ (y : Asked). y.holds (around cx hs) (frames_of scope)) is' ∙ holds;
  after = after ∙ sym (ap (λ (y : Asked). y.after (frames_of scope)) is');
  known = known;
}

-- ---- one object, one call, one returned value

one_on : (n : ℕ) (i : ℕ) → n ≡ suc i → (1 ≤ n) × (n - 1 ≡ i)
one_on n i e = (omega (arith, e), omega (arith, e))

op_resolved : (at : Surroundings) (scope : Scope) (o : ℕ × Typed) (b : Binding × Scope) (m : Bool) → IsOperation at.objects scope o
    → IsBoundBy scope o.1.1 m b → op_is_resolved at (frames_of scope) (record { object = o.0; operation = o.1.0; binding = b.0 }) ≡ true
op_resolved at scope o b m is' bound =
    let number = one_on o.0 is'.numbered.index is'.numbered.number in
    let there = ap (slice_get at.objects) number.1 ∙ is'.numbered.there in
    and_from _ _ (le-leb _ _ number.0)
    (and_from _ _ (ap (λ c. object_has c o.1.0 b.0) there ∙ is'.typed.has b.0 bound.fits) (and_from _ _ is'.typed.bound bound.bound))

result_fits : (k : Option Kind) (sort : Option Sort) (b : Binding) → sort ≡ option_map sort_of_kind k → fits_sort sort b ≡ true
    → result_is k b ≡ true
result_fits None sort b is' h = sym (ap (λ s. fits_sort s b) is') ∙ h
result_fits (Some k) sort b is' h = kind_fits k b (sym (ap (λ s. fits_sort s b) is') ∙ h)

result_known : (k : Option Kind) (sort : Option Sort) → sort ≡ option_map sort_of_kind k → known_if_any sort ≡ true
result_known None sort is' = ap known_if_any is'
result_known (Some k) sort is' = ap known_if_any is' ∙ known_kind k

abbrev made_call : CallParts → Binding → HandlerCall
made_call c b = record { handler = c.handler; ints = c.arguments.ints; texts = c.arguments.texts; binding = b }

call_resolved : (at : Surroundings) (scope : Scope) (c : CallParts) (b : Binding × Scope) (m : Bool) → IsCall at.handlers scope c
    → IsBoundBy scope c.sort m b
    → call_is_resolved at (frames_of scope) (made_call c b.0) ≡ true
call_resolved at scope c b m is' bound =
    let call = made_call c b.0 in
    let takes : handler_takes (Some is'.handler) call ≡ true =
    and_from _ _ (eq-eqb _ _ is'.ints) (and_from _ _ (eq-eqb _ _ is'.texts)
    (result_fits is'.handler.gives c.sort b.0 is'.sort bound.fits)) in
    and_from _ _ (ap (λ h. handler_takes h call) is'.there ∙ takes)
    (and_from _ _ is'.ints_bound (and_from _ _ is'.texts_bound bound.bound))

agreed_kinds : (k j : Kind) → agree (sort_of_kind k) (sort_of_kind j) ≡ true → same_kind k j ≡ true
agreed_kinds kind.Int kind.Int h = refl
agreed_kinds kind.Text kind.Text h = refl
agreed_kinds kind.Int kind.Text h = absurd (false≢true h)
agreed_kinds kind.Text kind.Int h = absurd (false≢true h)

abbrev IsReturned : Gives → Scope → Option Expr → Type 0
IsReturned g scope e = (returns_as g e ≡ true) × (returned_is_bound (frames_of scope) e ≡ true)

value_returned : (g : Gives) (scope : Scope) (d : Data) (place : List ℕ) (e : Option Expr) → all_known scope ≡ true
    → may_return g (sort_of scope d) ≡ true → (value_expr scope d >>= (λ e. reads (Some e))) place ≡ Ok e → IsReturned g scope e
value_returned g scope d place e k may h =
    let (x, p, q) = then_read (value_expr scope d) (λ e. reads (Some e)) place e h in
    subst (IsReturned g scope) (same_ok (Some x) e q) (as_given g x may (value_sort scope d place x k p), value_bound scope d place x p)
  where
    as_given : (g : Gives) (x : Expr) → may_return g (sort_of scope d) ≡ true → sort_of scope d ≡ sort_of_kind (expr_kind x)
        → returns_as g (Some x) ≡ true
    as_given Anything x may is' = refl
    as_given Nothing x may is' = absurd (false≢true may)
    as_given (Value j) x may is' = agreed_kinds j (expr_kind x) (sym (ap (agree (sort_of_kind j)) is') ∙ may)

nothing_returned : (g : Gives) → may_return_nothing g ≡ true → returns_as g None ≡ true
nothing_returned Anything h = refl
nothing_returned Nothing h = refl
nothing_returned (Value k) h = absurd (false≢true h)

is_returned : (g : Gives) (scope : Scope) (d : Data) (place : List ℕ) (e : Option Expr) → all_known scope ≡ true
    → cond (is_null d) (may_return_nothing g) (may_return g (sort_of scope d)) ≡ true → returned scope d place ≡ Ok e
    → IsReturned g scope e
is_returned g scope null place e k may h = subst (IsReturned g scope) (same_ok None e h) (nothing_returned g may, refl)
is_returned g scope (boolean b) place e k may h = value_returned g scope (boolean b) place e k may h
is_returned g scope (number n) place e k may h = value_returned g scope (number n) place e k may h
is_returned g scope (string s) place e k may h = value_returned g scope (string s) place e k may h
is_returned g scope (array ds) place e k may h = value_returned g scope (array ds) place e k may h
is_returned g scope (object ms) place e k may h = value_returned g scope (object ms) place e k may h

-- ---- statements

module _ (hs : List Handler) (guardians : Items) (numbered : AreNumbered guardians hs) (inner : BodyReading)
    (sound : Resolves hs guardians inner)
    (cx : Context) (same : cx.guardians ≡ guardians) (scope : Scope) (known : all_known scope ≡ true) where
  in_body : (c : Context) (d : Data) (place : List ℕ) (body : Body) → c.guardians ≡ guardians → inner c scope d place ≡ Ok body
      → body_holds (map asked body) (around c hs) (frames_of scope) ≡ true
  in_body c d place body s h = body_asks body (around c hs) (frames_of scope) ∙ sound c scope d place body s known h

  on_signal : (sort : Option Sort) (o : Option Data) (b : Binding × Scope) (place : List ℕ) (s : Option Body)
      → IsBoundBy scope sort (is_some o) b
      → signals_in (inner cx b.1) o place ≡ Ok s → signals_hold b.0 (option_map (map asked) s) (around cx hs) (frames_of scope) ≡ true
  on_signal sort None b place s bound h =
      subst (λ x. signals_hold b.0 (option_map (map asked) x) (around cx hs) (frames_of scope) ≡ true) (same_ok None s h) refl
  on_signal sort (Some d) b place s bound h =
      let (body, p, q) = then_read (at (codes "signals") (inner cx b.1 d)) (λ b. reads (Some b)) place s h in
      let still = bound.still refl in
      let here = subst (λ sc. inner cx sc d (step place (codes "signals")) ≡ Ok body) still.0 p in
      subst (λ x. signals_hold b.0 (option_map (map asked) x) (around cx hs) (frames_of scope) ≡ true) (same_ok (Some body) s q)
      (and_from _ _ (not_from_false _ still.1) (in_body cx d (step place (codes "signals")) body same here))

  op_in : (ms : Members) (d : Data) (place : List ℕ) (r : Statement × Scope) → op_statement inner cx scope ms d place ≡ Ok r
      → IsResolvedIn hs cx scope r
  op_in ms d place r h =
      let (u, p0, h0) = then_read (ask_value ms (op_gives_nothing d)) (λ _. after_ask) place r h in
      let (o, p1, h1) = then_read (at (codes "op") (operation cx.objects scope d)) after_op place r h0 in
      let (b, p2, h2) = then_read (bind scope o.1.1 ms) (after_bind o) place r h1 in
      let (s, p3, h3) = then_read (signals inner cx b.1 ms) (λ s. reads (made o b s)) place r h2 in
      let typed = operation_typed cx.objects scope d (step place (codes "op")) o p1 in
      let bound = bind_bound scope o.1.1 ms place b typed.typed.known known p2 in
      let call : ObjectCall = record { object = o.0; operation = o.1.0; binding = b.0 } in
      let whole = from_asked hs cx scope (made o b s) (asked_step (Statement-F.Op call (option_map (map asked) s))) (op_asks call s)
      (and_from _ _ (op_resolved (around cx hs) scope o b _ typed bound)
      (on_signal o.1.1 (get_member (codes "signals") ms) b place s bound p3))
      bound.after bound.known in
      subst (IsResolvedIn hs cx scope) (same_ok (made o b s) r h3) whole
    where
      made : ℕ × Typed → Binding × Scope → Option Body → Statement × Scope
      made o b s = (Op (record { object = o.0; operation = o.1.0; binding = b.0 }) s, b.1)

      after_bind : ℕ × Typed → Binding × Scope → Read (Statement × Scope)
      after_bind o b = signals inner cx b.1 ms >>= λ s. reads (made o b s)

      after_op : ℕ × Typed → Read (Statement × Scope)
      after_op o = bind scope o.1.1 ms >>= after_bind o

      after_ask : Read (Statement × Scope)
      after_ask = at (codes "op") (operation cx.objects scope d) >>= after_op

  call_in : (ms : Members) (d : Data) (place : List ℕ) (r : Statement × Scope) → call_statement inner cx scope ms d place ≡ Ok r
      → IsResolvedIn hs cx scope r
  call_in ms d place r h =
      let (u, p0, h0) = then_read (ask_value ms (call_gives_nothing cx.guardians d)) (λ _. after_ask) place r h in
      let (c, p1, h1) = then_read (at (codes "call") (call_sorted cx.guardians scope d)) after_call place r h0 in
      let (b, p2, h2) = then_read (bind scope c.sort ms) (after_bind c) place r h1 in
      let (s, p3, h3) = then_read (signals inner cx b.1 ms) (λ s. reads (made c b s)) place r h2 in
      let is' = call_is hs guardians scope d (step place (codes "call")) c numbered
      (subst (λ g. call_sorted g scope d (step place (codes "call")) ≡ Ok c) same p1) in
      let bound = bind_bound scope c.sort ms place b (result_known is'.handler.gives c.sort is'.sort) known p2 in
      let call = made_call c b.0 in
      let whole = from_asked hs cx scope (made c b s) (asked_step (Statement-F.Call call (option_map (map asked) s))) (call_asks call s)
      (and_from _ _ (call_resolved (around cx hs) scope c b _ is' bound)
      (on_signal c.sort (get_member (codes "signals") ms) b place s bound p3))
      bound.after bound.known in
      subst (IsResolvedIn hs cx scope) (same_ok (made c b s) r h3) whole
    where
      made : CallParts → Binding × Scope → Option Body → Statement × Scope
      made c b s = (Call (made_call c b.0) s, b.1)

      after_bind : CallParts → Binding × Scope → Read (Statement × Scope)
      after_bind c b = signals inner cx b.1 ms >>= λ s. reads (made c b s)

      after_call : CallParts → Read (Statement × Scope)
      after_call c = bind scope c.sort ms >>= after_bind c

      after_ask : Read (Statement × Scope)
      after_ask = at (codes "call") (call_sorted cx.guardians scope d) >>= after_call

  abbrev Arms : Arm → Type 0
  Arms a = arm_asked a (around cx hs) (frames_of scope) ≡ true

  arm_by : (is_top : Bool) (d : Data) (place : List ℕ) (body : Body) → inner (cond is_top (in_top_action cx) cx) scope d place ≡ Ok body
      → Arms (arm_of is_top body)
  arm_by true d place body h =
      ap (λ f. f (around cx hs) (frames_of scope)) (top_arm_asks body) ∙ in_body (in_top_action cx) d place body same h
  arm_by false d place body h = ap (λ f. f (around cx hs) (frames_of scope)) (sub_asks body) ∙ in_body cx d place body same h

  arm_holds : (d : Data) (place : List ℕ) (a : Arm) → arm_in inner cx scope d place ≡ Ok a → Arms a
  arm_holds d place a h =
      let (parts, p0, h0) = then_read (the_two (codes "arm") (codes "body") d) by_parts place a h in
      let (is_top, p1, h1) = then_read (at (codes "arm") (need (is_top_arm parts.0) is.Shape)) (by_top parts) place a h0 in
      let (body, p2, h2) = then_read (at (codes "body") (inner (cond is_top (in_top_action cx) cx) scope parts.1))
      (λ body. reads (arm_of is_top body)) place a h1 in
      subst Arms (same_ok (arm_of is_top body) a h2) (arm_by is_top parts.1 (step place (codes "body")) body p2)
    where
      by_top : Data × Data → Bool → Read Arm
      by_top parts is_top =
          at (codes "body") (inner (cond is_top (in_top_action cx) cx) scope parts.1) >>= λ body. reads (arm_of is_top body)

      by_parts : Data × Data → Read Arm
      by_parts parts = at (codes "arm") (need (is_top_arm parts.0) is.Shape) >>= by_top parts

  arms_hold : (i : ℕ) (ds : Items) (place : List ℕ) (arms : List Arm) → each (arm_in inner cx scope) i ds place ≡ Ok arms
      → all_hold (map arm_asked arms) (around cx hs) (frames_of scope) ≡ true
  arms_hold i no_items place arms h =
      subst (λ as'. all_hold (map arm_asked as') (around cx hs) (frames_of scope) ≡ true) (same_ok [] arms h) refl
  arms_hold i (item d ds) place arms h =
      let (a, p, q) = then_read (nth i (arm_in inner cx scope d))
      (λ a. each (arm_in inner cx scope) (suc i) ds >>= λ as'. reads (a ∷ as')) place arms h in
      let (rest, r, s) = then_read (each (arm_in inner cx scope) (suc i) ds) (λ as'. reads (a ∷ as')) place arms q in
      subst (λ as'. all_hold (map arm_asked as') (around cx hs) (frames_of scope) ≡ true) (same_ok (a ∷ rest) arms s)
      (and_from _ _ (arm_holds d _ a p) (arms_hold (suc i) ds place rest r))

  -- a statement after which the frames are the same
  plain_in : (s : Statement) (r : Statement × Scope) (holds : Surroundings → Frames → Bool) → (s, scope) ≡ r
      → asked s ≡ record { holds = holds; after = λ frames. frames } → holds (around cx hs) (frames_of scope) ≡ true
      → IsResolvedIn hs cx scope r
  plain_in s r holds is' as' h = subst (IsResolvedIn hs cx scope) is' (from_asked hs cx scope (s, scope) _ as' h refl known)

  coenter_resolved : (d : Data) (place : List ℕ) (s : Statement) (r : Statement × Scope) → (s, scope) ≡ r
      → coenter inner cx scope d place ≡ Ok s
      → IsResolvedIn hs cx scope r
  coenter_resolved d place s r is' h =
      let (ds, p, q) = then_read (the_list 1 max_arms d) (λ ds. each (arm_in inner cx scope) 0 ds >>= λ arms. reads (Coenter arms))
      place s h in
      let (arms, t, u) = then_read (each (arm_in inner cx scope) 0 ds) (λ arms. reads (Coenter arms)) place s q in
      plain_in (Coenter arms) r _ (ap (λ x. (x, scope)) (same_ok (Coenter arms) s u) ∙ is') (coenter_asks arms)
      (arms_hold 0 ds place arms t)

  body_on_signal : (o : Option Data) (place : List ℕ) (s : Option Body) → signals_in (inner cx scope) o place ≡ Ok s
      → body_holds (map asked (or_empty s)) (around cx hs) (frames_of scope) ≡ true
  body_on_signal None place s h =
      subst (λ x. body_holds (map asked (or_empty x)) (around cx hs) (frames_of scope) ≡ true) (same_ok None s h) refl
  body_on_signal (Some d) place s h =
      let (body, p, q) = then_read (at (codes "signals") (inner cx scope d)) (λ b. reads (Some b)) place s h in
      subst (λ x. body_holds (map asked (or_empty x)) (around cx hs) (frames_of scope) ≡ true) (same_ok (Some body) s q)
      (in_body cx d (step place (codes "signals")) body same p)

  top_resolved : (ms : Members) (d : Data) (place : List ℕ) (s : Statement) (r : Statement × Scope) → (s, scope) ≡ r
      → top_action inner cx scope ms d place ≡ Ok s → IsResolvedIn hs cx scope r
  top_resolved ms d place s r is' h =
      let (body, p, q) = then_read (at (codes "topaction") (inner (in_top_action cx) scope d))
      (λ body. signals inner cx scope ms >>= λ s. reads (TopAction body (or_empty s))) place s h in
      let (on, t, u) = then_read (signals inner cx scope ms) (λ s. reads (TopAction body (or_empty s))) place s q in
      plain_in (TopAction body (or_empty on)) r _ (ap (λ x. (x, scope)) (same_ok (TopAction body (or_empty on)) s u) ∙ is')
      (top_asks body (or_empty on))
      (and_from _ _ (in_body (in_top_action cx) d (step place (codes "topaction")) body same p)
      (body_on_signal (get_member (codes "signals") ms) place on t))

  if_resolved : (d : Data) (place : List ℕ) (s : Statement) (r : Statement × Scope) → (s, scope) ≡ r → if_in inner cx scope d place ≡ Ok s
      → IsResolvedIn hs cx scope r
  if_resolved d place s r is' h =
      let (parts, p0, h0) = then_read (the_triple d) by_parts place s h in
      let (test, p1, h1) = then_read (nth 0 (condition scope parts.0)) (by_test parts) place s h0 in
      let (first, p2, h2) = then_read (nth 1 (inner cx scope parts.1)) (by_first parts test) place s h1 in
      let (second, p3, h3) = then_read (nth 2 (inner cx scope parts.2)) (λ second. reads (If test first second)) place s h2 in
      plain_in (If test first second) r _ (ap (λ x. (x, scope)) (same_ok (If test first second) s h3) ∙ is') (if_asks test first second)
      (and_from _ _ (condition_bound scope parts.0 _ test p1)
      (and_from _ _ (in_body cx parts.1 _ first same p2) (in_body cx parts.2 _ second same p3)))
    where
      by_first : Data × Data × Data → Condition → Body → Read Statement
      by_first parts test first = nth 2 (inner cx scope parts.2) >>= λ second. reads (If test first second)

      by_test : Data × Data × Data → Condition → Read Statement
      by_test parts test = nth 1 (inner cx scope parts.1) >>= by_first parts test

      by_parts : Data × Data × Data → Read Statement
      by_parts parts = nth 0 (condition scope parts.0) >>= by_test parts

  repeat_resolved : (d : Data) (place : List ℕ) (s : Statement) (r : Statement × Scope) → (s, scope) ≡ r
      → repeat_in inner cx scope d place ≡ Ok s
      → IsResolvedIn hs cx scope r
  repeat_resolved d place s r is' h =
      let (parts, p0, h0) = then_read (the_pair d) by_parts place s h in
      let (z, p1, h1) = then_read (nth 0 (the_int parts.0)) (by_int parts) place s h0 in
      let (n, p2, h2) = then_read (nth 0 (need (turns_of z) is.Limit)) (by_turns parts) place s h1 in
      let (body, p3, h3) = then_read (nth 1 (inner cx scope parts.1)) (λ body. reads (Repeat n body)) place s h2 in
      plain_in (Repeat n body) r _ (ap (λ x. (x, scope)) (same_ok (Repeat n body) s h3) ∙ is') (repeat_asks n body)
      (in_body cx parts.1 _ body same p3)
    where
      by_turns : Data × Data → ℕ → Read Statement
      by_turns parts n = nth 1 (inner cx scope parts.1) >>= λ body. reads (Repeat n body)

      by_int : Data × Data → ℤ → Read Statement
      by_int parts z = nth 0 (need (turns_of z) is.Limit) >>= by_turns parts

      by_parts : Data × Data → Read Statement
      by_parts parts = nth 0 (the_int parts.0) >>= by_int parts

  abort_resolved : (d : Data) (place : List ℕ) (s : Statement) (r : Statement × Scope) → (s, scope) ≡ r → abort_in d place ≡ Ok s
      → IsResolvedIn hs cx scope r
  abort_resolved d place s r is' h =
      let (u, p, q) = then_read (ask (is_true d) is.Shape) (λ _. reads Abort) place s h in
      plain_in Abort r _ (ap (λ x. (x, scope)) (same_ok Abort s q) ∙ is') abort_asks refl

  return_resolved : (d : Data) (place : List ℕ) (s : Statement) (r : Statement × Scope) → (s, scope) ≡ r
      → return_in cx scope d place ≡ Ok s
      → IsResolvedIn hs cx scope r
  return_resolved d place s r is' h =
      let test = not cx.in_top && cond (is_null d) (may_return_nothing cx.gives) (may_return cx.gives (sort_of scope d)) in
      let (u, p0, h0) = then_read (ask test is.Flow) (λ _. at (codes "return") (returned scope d) >>= λ e. reads (Return e)) place s h in
      let (e, p1, h1) = then_read (at (codes "return") (returned scope d)) (λ e. reads (Return e)) place s h0 in
      let may = and_parts (not cx.in_top) _ (asked_ok test is.Flow place u p0) in
      let (as', bound) = is_returned cx.gives scope d (step place (codes "return")) e known may.1 p1 in
      plain_in (Return e) r _ (ap (λ x. (x, scope)) (same_ok (Return e) s h1) ∙ is') (return_asks e)
      (and_from _ _ may.0 (and_from _ _ as' bound))

  statement_resolved : (d : Data) (place : List ℕ) (r : Statement × Scope) → statement inner cx scope d place ≡ Ok r
      → IsResolvedIn hs cx scope r
  statement_resolved d place r h =
      let (ms, p, q) = then_read (the_object d) (statement_of inner cx scope) place r h in
      elim (read_by inner cx scope ms place r q) [
        | by_op u ↦ op_in ms u.0 place r u.3
        | by_call u ↦ call_in ms u.0 place r u.3
        | by_coenter u ↦
            let (s, t, e) = unbound scope (at (codes "coenter") (coenter inner cx scope u.0)) place r u.3 in
            coenter_resolved u.0 (step place (codes "coenter")) s r e t
        | by_top u ↦ let (s, t, e) = unbound scope (top_action inner cx scope ms u.0) place r u.3 in top_resolved ms u.0 place s r e t
        | by_if u ↦
            let (s, t, e) = unbound scope (at (codes "if") (if_in inner cx scope u.0)) place r u.3 in
            if_resolved u.0 (step place (codes "if")) s r e t
        | by_repeat u ↦
            let (s, t, e) = unbound scope (at (codes "repeat") (repeat_in inner cx scope u.0)) place r u.3 in
            repeat_resolved u.0 (step place (codes "repeat")) s r e t
        | by_abort u ↦
            let (s, t, e) = unbound scope (at (codes "abort") (abort_in u.0)) place r u.3 in
            abort_resolved u.0 (step place (codes "abort")) s r e t
        | by_return u ↦ let (s, t, e) = unbound scope (return_in cx scope u.0) place r u.3 in return_resolved u.0 place s r e t
      ]

-- ---- bodies

statements_resolved : (hs : List Handler) (guardians : Items) (numbered : AreNumbered guardians hs) (inner : BodyReading)
    → Resolves hs guardians inner
    → (cx : Context) (i : ℕ) (scope : Scope) (ds : Items) (place : List ℕ) (body : Body) → cx.guardians ≡ guardians
    → all_known scope ≡ true
    → statements inner cx i scope ds place ≡ Ok body → is_resolved_body (around cx hs) (frames_of scope) body ≡ true
statements_resolved hs guardians numbered inner sound cx i scope no_items place body same known h =
    subst (λ b. is_resolved_body (around cx hs) (frames_of scope) b ≡ true) (same_ok [] body h) refl
statements_resolved hs guardians numbered inner sound cx i scope (item d ds) place body same known h =
    let (s, p, q) = then_read (nth i (statement inner cx scope d))
    (λ s. statements inner cx (suc i) s.1 ds >>= λ rest. reads (s.0 ∷ rest)) place body h in
    let (rest, t, u) = then_read (statements inner cx (suc i) s.1 ds) (λ rest. reads (s.0 ∷ rest)) place body q in
    let one = statement_resolved hs guardians numbered inner sound cx same scope known d _ s p in
    let more = statements_resolved hs guardians numbered inner sound cx (suc i) s.1 ds place rest same one.known t in
    subst (λ b. is_resolved_body (around cx hs) (frames_of scope) b ≡ true) (same_ok (s.0 ∷ rest) body u)
    (and_from _ _ one.holds (subst (λ f. is_resolved_body (around cx hs) f rest ≡ true) one.after more))

pub bodies_resolve : (hs : List Handler) (guardians : Items) (numbered : AreNumbered guardians hs) (levels : ℕ)
    → Resolves hs guardians (body_at levels)
bodies_resolve hs guardians numbered zero cx scope d place body same known h =
    let (ds, p, q) = then_read (the_array d) (λ _. fault is.Limit) place body h in no_fault q
bodies_resolve hs guardians numbered (suc levels) cx scope d place body same known h =
    let (ds, p, q) = then_read (the_array d) (statements (body_at levels) cx 0 scope) place body h in
    statements_resolved hs guardians numbered (body_at levels) (bodies_resolve hs guardians numbered levels) cx 0 scope ds place body
    same known q
