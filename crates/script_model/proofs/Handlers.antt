-- What is read as a handler is resolved, and takes and gives what its document says.
use Rattle.std.proofs.Common.{Bool, List, Ok, Some, [], ap, ap₂, arith, codes, cond, false, is_some, length, nat_lt, not, option_and_then, option_map, refl, slice_get, subst, sym, true, suc, unwrap_or, zero, ℕ, ◌&&◌, ◌+◌, ◌-◌, ◌<◌, ◌≤◌, ◌∙◌, ◌∷◌, ◌≡◌}
use Rattle.std.proofs.lemmas.Bool.{and_from, false≢true, ltb-true}
use Rattle.std.proofs.lemmas.Option.{none-some, same_Some}
use Rattle.std.specs.List.{list_all}
use Rattle.serde_json.specs.Data.{Data, Items, no_items, item, Members, no_members, member}
use Rattle.serde_json.specs.Events.{members_len}
use Rattle.serde_json.specs.Find.{as_array, as_object, as_str, get_member}
use Rattle.values.specs.Words.{same_bytes}
use Rattle.values.specs.declared.value.Kind.{Kind}
use Rattle.values.specs.declared.value.Kind.TheVariants as kind
use Rattle.script_model.specs.declared.fault.FaultKind.TheVariants as is
use Rattle.script_model.specs.declared.names.Gives.{Gives}
use Rattle.script_model.specs.declared.names.Gives.TheVariants.{Anything, Nothing, Value}
use Rattle.script_model.specs.declared.names.Sort.TheVariants.{Int, Text, Truth}
use Rattle.script_model.specs.declared.checked.Handler.{Handler}
use Rattle.script_model.specs.declared.checked.Checked.{Checked}
use Rattle.script_model.specs.Reading.{Read, ask, at, fault, need, nth, reads, step, ◌>>=◌, ◌>>◌}
use Rattle.script_model.specs.Shapes.{kind_in, kind_named, the_array, the_list, the_pair, the_three, three_members, two_items}
use Rattle.script_model.specs.Scopes.{Scope, count_bound, sort_of_kind}
use Rattle.script_model.specs.Signatures.{gives_in, gives_named, max_handlers, param_kind, place_among, sort_given}
use Rattle.script_model.specs.StatementReading.{Body, body_at, body_in, max_nesting, statements, the_name}
use Rattle.script_model.specs.ScriptReading.{Site, context_at, ends, handler, handlers_from, is_repeated_in, kind_given, max_params, may_lack_value, parameter, parameters, parameters_from, the_gives}
use Rattle.script_model.specs.Resolved.{body_ends, is_resolved_at, is_resolved_body, is_resolved_handler, objects_at, what_gives}
use Rattle.script_model.proofs.Steps.{asked_ok, needed_ok, no_fault, same_ok, then_read}
use Rattle.script_model.proofs.Scopes.{all_known, frames_of}
use Rattle.script_model.proofs.Calls.{AreNumbered, IsHandlerOf, count_params, have_kinds, one_of}
use Rattle.script_model.proofs.Members.{and_then_some, get_first, map_some, three_there}
use Rattle.script_model.proofs.Bodies.{around, bodies_resolve}
use Rattle.script_model.proofs.Endings.{bodies_end}

-- ---- parameters

pub record AreBound (ds : Items) (before after : Scope) : Type 0 where
  pub kinds : have_kinds ds ≡ true
  pub ints : count_bound Int after ≡ count_params kind.Int ds + count_bound Int before
  pub texts : count_bound Text after ≡ count_params kind.Text ds + count_bound Text before
  pub truths : count_bound Truth after ≡ count_bound Truth before
  pub known : all_known before ≡ true → all_known after ≡ true

abbrev with_name : List ℕ → Kind → Scope → Scope
with_name name k scope = record { name = name; sort = sort_of_kind k } ∷ scope

more_bound : (k : Kind) (name : List ℕ) (d : Data) (ds : Items) (before after : Scope) → param_kind d ≡ Some k
    → AreBound ds (with_name name k before) after → AreBound (item d ds) before after
more_bound kind.Int name d ds before after is' b = record {
  kinds = and_from _ _ (ap is_some is') b.kinds;
  ints = omega (arith, b.ints, ap (one_of kind.Int) is');
  texts = omega (arith, b.texts, ap (one_of kind.Text) is');
  truths = b.truths;
  known = λ k. b.known k;
}
more_bound kind.Text name d ds before after is' b = record {
  kinds = and_from _ _ (ap is_some is') b.kinds;
  ints = omega (arith, b.ints, ap (one_of kind.Int) is');
  texts = omega (arith, b.texts, ap (one_of kind.Text) is');
  truths = b.truths;
  known = λ k. b.known k;
}

parameter_bound : (scope : Scope) (d : Data) (place : List ℕ) (after : Scope) → parameter scope d place ≡ Ok after
    → (name : List ℕ) × (k : Kind) × (param_kind d ≡ Some k) × (with_name name k scope ≡ after)
parameter_bound scope d place after h =
    let (p, p0, h0) = then_read (the_pair d) by_pair place after h in
    let (u, p1, h1) = then_read (ask (not (is_repeated_in scope p.0)) is.Shape) (λ _. by_name p) place after h0 in
    let (name, p2, h2) = then_read (nth 0 (the_name p.0)) (by_kind p) place after h1 in
    let (k, p3, h3) = then_read (nth 1 (need (kind_in p.1) is.Shape)) (λ k. reads (with_name name k scope)) place after h2 in
    let pair = needed_ok (option_and_then two_items (as_array d)) is.Shape place p p0 in (
      name,
      k,
      ap (option_and_then (λ (q : Data × Data). kind_in q.1)) pair ∙ needed_ok (kind_in p.1) is.Shape _ k p3,
      same_ok
          (with_name name k scope) after h3,
    )
  where
    by_kind : Data × Data → List ℕ → Read Scope
    by_kind p name = nth 1 (need (kind_in p.1) is.Shape) >>= λ k. reads (with_name name k scope)

    by_name : Data × Data → Read Scope
    by_name p = nth 0 (the_name p.0) >>= by_kind p

    by_pair : Data × Data → Read Scope
    by_pair p = ask (not (is_repeated_in scope p.0)) is.Shape >> by_name p

parameters_bound : (i : ℕ) (scope : Scope) (ds : Items) (place : List ℕ) (after : Scope) → parameters_from i scope ds place ≡ Ok after
    → AreBound ds scope after
parameters_bound i scope no_items place after h =
    subst (AreBound no_items scope) (same_ok scope after h)
    (record { kinds = refl; ints = omega arith; texts = omega arith; truths = refl; known = λ k. k })
parameters_bound i scope (item d ds) place after h =
    let (next, p, q) = then_read (nth i (parameter scope d)) (λ next. parameters_from (suc i) next ds) place after h in
    let (name, k, is', same) = parameter_bound scope d _ next p in
    more_bound k name d ds scope after is' (subst (λ s. AreBound ds s after) (sym same) (parameters_bound (suc i) next ds place after q))

-- a list is an array
pub list_is : (least most : ℕ) (d : Data) (place : List ℕ) (ds : Items) → the_list least most d place ≡ Ok ds → as_array d ≡ Some ds
list_is least most d place ds h =
    let (xs, p, q) = then_read (the_array d) (λ xs. ask _ is.Limit >> reads xs) place ds h in
    let (u, r, s) = then_read (ask _ is.Limit) (λ _. reads xs) place ds q in
    needed_ok (as_array d) is.Shape place xs p ∙ ap Some (same_ok xs ds s)

-- ---- what is given

abbrev IsSaid : Gives → Type 0
IsSaid g = (sort_given g ≡ option_map sort_of_kind (kind_given g)) × (g ≡ what_gives (kind_given g))

named_said : (name : List ℕ) (g : Gives) → gives_named name ≡ Some g → IsSaid g
named_said name g h = by_case (same_bytes name (codes "none")) h
  where
    by_case : (t : Bool) → cond t (Some Nothing) (option_map Value (kind_named name)) ≡ Some g → IsSaid g
    by_case true e = subst IsSaid (same_Some Nothing g e) (refl, refl)
    by_case false e = let (k, p, q) = map_some Value (kind_named name) g e in subst IsSaid q (refl, refl)

gives_said : (d : Data) (g : Gives) → gives_in d ≡ Some g → IsSaid g
gives_said d g h = let (name, p, q) = and_then_some gives_named (as_str d) g h in named_said name g q

-- ---- the body

body_is_list : (levels : ℕ) (site : Site) (g : Gives) (scope : Scope) (d : Data) (place : List ℕ) (body : Body)
    → body_at levels (context_at site g) scope d place ≡ Ok body → is_some (as_array d) ≡ true
body_is_list zero site g scope d place body h = let (ds, p, q) = then_read (the_array d) (λ _. fault is.Limit) place body h in no_fault q
body_is_list (suc levels) site g scope d place body h =
    let (ds, p, q) = then_read (the_array d) (statements (body_at levels) (context_at site g) 0 scope) place body h in
    ap is_some (needed_ok (as_array d) is.Shape place ds p)

must_end : (a e : Bool) → a ≡ true → not (a && not e) ≡ true → e ≡ true
must_end true true p h = refl
must_end true false p h = absurd (false≢true h)
must_end false e p h = absurd (false≢true p)

ends_with_value : (g : Gives) (d : Data) (body : Body) → is_some (as_array d) ≡ true → not (may_lack_value (Some g) d) ≡ true
    → (ends d ≡ true → body_ends body ≡ true) → cond (is_some (kind_given g)) (body_ends body) true ≡ true
ends_with_value Anything d body a h end = refl
ends_with_value Nothing d body a h end = refl
ends_with_value (Value k) d body a h end = end (must_end (is_some (as_array d)) (ends d) a h)

-- ---- handlers

pub record IsReadAs (site : Site) (n : ℕ) (d : Data) (h : Handler) : Type 0 where
  pub below : n < max_handlers
  pub is_of : IsHandlerOf h d
  pub guardian : h.guardian ≡ site.guardian
  pub resolved : (hs : List Handler) → AreNumbered site.guardians hs
      → is_resolved_body (record { objects = site.objects; handlers = hs; gives = what_gives h.gives; in_top = false })
      (record { ints = h.ints; texts = h.texts; truths = 0 }) h.body ≡ true
  pub ends : cond (is_some h.gives) (body_ends h.body) true ≡ true

abbrev made : Site → List ℕ → Scope → Gives → Body → Handler
made site name scope gives body = record {
  name = name;
  guardian = site.guardian;
  ints = count_bound Int scope;
  texts = count_bound Text scope;
  gives = kind_given gives;
  body = body;
}

pub handler_read : (site : Site) (n : ℕ) (name : List ℕ) (d : Data) (place : List ℕ) (h : Handler) → handler site n name d place ≡ Ok h
    → IsReadAs site n d h
handler_read site n name d place h r =
    let (parts, p0, h0) = then_read (the_three (codes "params") (codes "gives") (codes "body") d) by_parts place h r in
    let (u, p1, h1) = then_read (ask (nat_lt n max_handlers) is.Limit) (λ _. after_limit parts) place h h0 in
    let (v, p2, h2) = then_read (ask (not (may_lack_value (gives_in parts.1) parts.2)) is.Flow) (λ _. after_flow parts) place h h1 in
    let (scope, p3, h3) = then_read (at (codes "params") (parameters parts.0)) (by_scope parts) place h h2 in
    let (gives, p4, h4) = then_read (at (codes "gives") (the_gives parts.1)) (by_gives parts scope) place h h3 in
    let (body, p5, h5) = then_read (at (codes "body") (body_in (context_at site gives) scope parts.2))
    (λ body. reads (made site name scope gives body)) place h h4 in
    let there = three_there (codes "params") (codes "gives") (codes "body") d parts
    (needed_ok (option_and_then (three_members (codes "params") (codes "gives") (codes "body")) (as_object d)) is.Shape place parts p0) in
    let says = needed_ok (gives_in parts.1) is.Shape _ gives p4 in
    let said = gives_said parts.1 gives says in
    let (ds, p6, h6) = then_read (the_list 0 max_params parts.0) (parameters_from 0 []) (step place (codes "params")) scope p3 in
    let bound = parameters_bound 0 [] ds _ scope h6 in
    let flow = asked_ok (not (may_lack_value (gives_in parts.1) parts.2)) is.Flow place v p2 in
    subst (IsReadAs site n d) (same_ok (made site name scope gives body) h h5)
    (record {
      below = ltb-true n max_handlers (asked_ok (nat_lt n max_handlers) is.Limit place u p1);
      is_of = record {
        params = ds;
        are = ap (option_and_then as_array) there.0 ∙ list_is 0 max_params parts.0 _ ds p6;
        kinds = bound.kinds;
        ints = omega (arith, bound.ints);
        texts = omega (arith, bound.texts);
        gives = ap (λ o. sort_given (unwrap_or o Anything)) (ap (option_and_then gives_in) there.1 ∙ says) ∙ said.0;
      };
      guardian = refl;
      resolved = λ hs numbered. as_said scope gives body hs said.1 bound.truths
          (bodies_resolve hs site.guardians numbered max_nesting (context_at site gives) scope parts.2
          (step place (codes "body")) body refl (bound.known refl) p5);
      ends = ends_with_value gives parts.2 body (body_is_list max_nesting site gives scope parts.2 _ body p5)
          (sym (ap (λ o. not (may_lack_value o parts.2)) says) ∙ flow)
          (bodies_end max_nesting (context_at site gives) scope parts.2 _ body p5);
    })
  where
    by_gives : Data × Data × Data → Scope → Gives → Read Handler
    by_gives parts scope gives =
        at (codes "body") (body_in (context_at site gives) scope parts.2) >>= λ body. reads (made site name scope gives body)

    by_scope : Data × Data × Data → Scope → Read Handler
    by_scope parts scope = at (codes "gives") (the_gives parts.1) >>= by_gives parts scope

    after_flow : Data × Data × Data → Read Handler
    after_flow parts = at (codes "params") (parameters parts.0) >>= by_scope parts

    after_limit : Data × Data × Data → Read Handler
    after_limit parts = ask (not (may_lack_value (gives_in parts.1) parts.2)) is.Flow >> after_flow parts

    by_parts : Data × Data × Data → Read Handler
    by_parts parts = ask (nat_lt n max_handlers) is.Limit >> after_limit parts

    as_said : (scope : Scope) (gives : Gives) (body : Body) (hs : List Handler) → gives ≡ what_gives (kind_given gives)
        → count_bound Truth scope ≡ 0
        → is_resolved_body (around (context_at site gives) hs) (frames_of scope) body ≡ true
        → is_resolved_body (record { objects = site.objects; handlers = hs; gives = what_gives (kind_given gives); in_top = false })
        (record { ints = count_bound Int scope; texts = count_bound Text scope; truths = 0 }) body ≡ true
    as_said scope gives body hs g t e =
        sym (ap₂ (λ x y. is_resolved_body (record { objects = site.objects; handlers = hs; gives = x; in_top = false })
        (record { ints = count_bound Int scope; texts = count_bound Text scope; truths = y }) body) g t) ∙ e

-- ---- the handlers of a guardian

handler_resolved : (site : Site) (n : ℕ) (d : Data) (c : Checked) (h : Handler) → objects_at c site.guardian ≡ Some site.objects
    → AreNumbered site.guardians c.handlers → IsReadAs site n d h → is_resolved_handler c h ≡ true
handler_resolved site n d c h objects numbered is' =
    let there = ap (objects_at c) is'.guardian ∙ objects in
    and_from _ _
    (ap (λ o. is_resolved_at o c (what_gives h.gives)
    (record { ints = h.ints; texts = h.texts; truths = 0 }) h.body) there ∙ is'.resolved c.handlers numbered)
    is'.ends

abbrev rest_of : Site → ℕ → Members → Handler → Read (List Handler)
rest_of site n ms h = handlers_from site (suc n) ms >>= λ rest. reads (h ∷ rest)

pub handlers_resolved : (site : Site) (n : ℕ) (ms : Members) (place : List ℕ) (hs : List Handler) (c : Checked)
    → objects_at c site.guardian ≡ Some site.objects → AreNumbered site.guardians c.handlers → handlers_from site n ms place ≡ Ok hs
    → list_all (is_resolved_handler c) hs ≡ true
handlers_resolved site n no_members place hs c objects numbered h =
    subst (λ x. list_all (is_resolved_handler c) x ≡ true) (same_ok [] hs h) refl
handlers_resolved site n (member name d ms) place hs c objects numbered h =
    let (one, p, q) = then_read (at name (handler site n name d)) (rest_of site n ms) place hs h in
    let (rest, r, s) = then_read (handlers_from site (suc n) ms) (λ rest. reads (one ∷ rest)) place hs q in
    subst (λ x. list_all (is_resolved_handler c) x ≡ true) (same_ok (one ∷ rest) hs s)
    (and_from _ _ (handler_resolved site n d c one objects numbered (handler_read site n name d _ one p))
    (handlers_resolved site (suc n) ms place rest c objects numbered r))

-- there are as many as members, and no more than a script may have
pub handlers_counted : (site : Site) (n : ℕ) (ms : Members) (place : List ℕ) (hs : List Handler) → handlers_from site n ms place ≡ Ok hs
    → (length hs ≡ members_len ms) × (members_len ms ≤ max_handlers - n)
handlers_counted site n no_members place hs h = (sym (ap length (same_ok [] hs h)), omega arith)
handlers_counted site n (member name d ms) place hs h =
    let (one, p, q) = then_read (at name (handler site n name d)) (rest_of site n ms) place hs h in
    let (rest, r, s) = then_read (handlers_from site (suc n) ms) (λ rest. reads (one ∷ rest)) place hs q in
    let below = (handler_read site n name d _ one p).below in
    let more = handlers_counted site (suc n) ms place rest r in
    (sym (ap length (same_ok (one ∷ rest) hs s)) ∙ ap suc more.0, omega (arith, below, more.1))

pub handlers_found : (site : Site) (n : ℕ) (ms : Members) (place : List ℕ) (hs : List Handler) (most : ℕ) (name : List ℕ) (d : Data)
    → handlers_from site n ms place ≡ Ok hs → members_len ms ≤ most → get_member name ms ≡ Some d
    → (h : Handler) × (slice_get hs (place_among most name ms) ≡ Some h) × IsHandlerOf h d
handlers_found site n no_members place hs most name d h few g = absurd (none-some d g)
handlers_found site n (member l x ms) place hs zero name d h few g = absurd (omega (arith, few))
handlers_found site n (member l x ms) place hs (suc most) name d h few g =
    let (one, p, q) = then_read (at l (handler site n l x)) (rest_of site n ms) place hs h in
    let (rest, r, s) = then_read (handlers_from site (suc n) ms) (λ rest. reads (one ∷ rest)) place hs q in
    let fewer : members_len ms ≤ most = omega (arith, few) in
    subst (λ y. (z : Handler) × (slice_get y (place_among (suc most) name (member l x ms)) ≡ Some z) × IsHandlerOf z d)
    (same_ok (one ∷ rest) hs s)
    (by_case one rest (same_bytes l name) (sym (get_first name l x ms) ∙ g) (handler_read site n l x _ one p).is_of
    (λ e. handlers_found site (suc n) ms place rest most name d r fewer e))
  where
    by_case : (one : Handler) (rest : List Handler) (t : Bool) → cond t (Some x) (get_member name ms) ≡ Some d → IsHandlerOf one x
        → (get_member name ms ≡ Some d → (z : Handler) × (slice_get rest (place_among most name ms) ≡ Some z) × IsHandlerOf z d)
        → (z : Handler) × (slice_get (one ∷ rest) (cond t 0 (suc (place_among most name ms))) ≡ Some z) × IsHandlerOf z d
    by_case one rest true e is' more = (one, refl, subst (IsHandlerOf one) (same_Some x d e) is')
    by_case one rest false e is' more = more e
