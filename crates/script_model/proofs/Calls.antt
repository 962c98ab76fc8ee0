-- What is read as a call names a handler that is there, with as many arguments of each kind as it takes.
use Rattle.std.proofs.Common.{Bool, List, None, Ok, Option, Some, ap, arith, is_some, length, option_and_then, option_map, refl, slice_get, subst, sym, true, suc, unwrap_or, ℕ, ◌&&◌, ◌+◌, ◌==◌, ◌∙◌, ◌≡◌}
use Rattle.std.proofs.lemmas.Bool.{and_from, and_parts, eqb-true, false≢true}
use Rattle.std.specs.List.{list_all}
use Rattle.serde_json.specs.Data.{Data, Items, no_items, item}
use Rattle.serde_json.specs.Events.{items_len}
use Rattle.serde_json.specs.Find.{get_item}
use Rattle.values.specs.declared.value.Kind.{Kind}
use Rattle.values.specs.declared.value.Kind.TheVariants as kind
use Rattle.values.specs.Values.{same_kind}
use Rattle.script_model.specs.declared.fault.FaultKind.TheVariants as is
use Rattle.script_model.specs.declared.names.Sort.TheVariants.{Int, Text}
use Rattle.script_model.specs.declared.expression.Expr.{Expr}
use Rattle.script_model.specs.declared.expression.Expr.TheVariants as expr
use Rattle.script_model.specs.declared.checked.Handler.{Handler}
use Rattle.script_model.specs.Reading.{Read, ask, need, nth, reads, ◌>>=◌, ◌>>◌}
use Rattle.script_model.specs.Shapes.{the_array, the_string, the_triple}
use Rattle.script_model.specs.Scopes.{Scope, count_bound, sort_of_kind}
use Rattle.script_model.specs.Signatures.{handler_found, handler_gives, handler_number, param_kind, params_in, sort_given, takes_count, wanted_kind}
use Rattle.script_model.specs.StatementReading.{Arguments, CallParts, argument_in, arguments_from, arguments_in, call_in, call_sorted, the_guardian, with_argument}
use Rattle.script_model.specs.Resolved.{expr_kind, int_is_bound, text_is_bound}
use Rattle.script_model.proofs.Steps.{asked_ok, needed_ok, same_ok, then_read}
use Rattle.script_model.proofs.Expressions.{IsBoundExpr, expr_bound}

-- ---- what a handler takes and gives

-- whether each parameter has a kind, and how many are of one
abbrev pub have_kinds : Items → Bool
have_kinds no_items = true
have_kinds (item d ds) = is_some (param_kind d) && have_kinds ds

abbrev pub one_of : Kind → Option Kind → ℕ
one_of k None = 0
one_of kind.Int (Some kind.Int) = 1
one_of kind.Int (Some kind.Text) = 0
one_of kind.Text (Some kind.Int) = 0
one_of kind.Text (Some kind.Text) = 1

abbrev pub count_params : Kind → Items → ℕ
count_params k no_items = 0
count_params k (item d ds) = one_of k (param_kind d) + count_params k ds

-- the handler takes and gives what its document says
pub record IsHandlerOf (h : Handler) (d : Data) : Type 0 where
  pub params : Items
  pub are : params_in d ≡ Some params
  pub kinds : have_kinds params ≡ true
  pub ints : h.ints ≡ count_params kind.Int params
  pub texts : h.texts ≡ count_params kind.Text params
  pub gives : sort_given (handler_gives d) ≡ option_map sort_of_kind h.gives

-- each handler that is found by its name has its number among these
abbrev pub AreNumbered : Items → List Handler → Type 0
AreNumbered guardians hs = (n : ℕ) (name : List ℕ) (d : Data) → handler_found guardians n name ≡ Some d
    → (h : Handler) × (slice_get hs (handler_number guardians n name) ≡ Some h) × IsHandlerOf h d

-- ---- arguments

pub record AreArguments (scope : Scope) (params : Items) (a : Arguments) : Type 0 where
  pub ints : length a.ints ≡ count_params kind.Int params
  pub texts : length a.texts ≡ count_params kind.Text params
  pub ints_bound : list_all (int_is_bound (count_bound Int scope)) a.ints ≡ true
  pub texts_bound : list_all (text_is_bound (count_bound Text scope)) a.texts ≡ true

apart : {B : Type 0} → kind.Text ≡ kind.Int → B
apart e = absurd (false≢true (ap (same_kind kind.Int) e))

with_int : (scope : Scope) (e : Expr) (p : Data) (ps : Items) (rest : Arguments) → param_kind p ≡ Some kind.Int → expr_kind e ≡ kind.Int
    → IsBoundExpr scope e → AreArguments scope ps rest → AreArguments scope (item p ps) (with_argument e rest)
with_int scope (expr.Int x) p ps rest is' same bound are = record {
  ints = omega (arith, are.ints, ap (one_of kind.Int) is');
  texts = omega (arith, are.texts, ap (one_of kind.Text) is');
  ints_bound = and_from _ _ bound are.ints_bound;
  texts_bound = are.texts_bound;
}
with_int scope (expr.Text x) p ps rest is' same bound are = apart same

with_text : (scope : Scope) (e : Expr) (p : Data) (ps : Items) (rest : Arguments) → param_kind p ≡ Some kind.Text → expr_kind e ≡ kind.Text
    → IsBoundExpr scope e → AreArguments scope ps rest → AreArguments scope (item p ps) (with_argument e rest)
with_text scope (expr.Text x) p ps rest is' same bound are = record {
  ints = omega (arith, are.ints, ap (one_of kind.Int) is');
  texts = omega (arith, are.texts, ap (one_of kind.Text) is');
  ints_bound = are.ints_bound;
  texts_bound = and_from _ _ bound are.texts_bound;
}
with_text scope (expr.Int x) p ps rest is' same bound are = apart (sym same)

with_one : (scope : Scope) (o : Option Kind) (d : Data) (place : List ℕ) (e : Expr) (p : Data) (ps : Items) (rest : Arguments)
    → param_kind p ≡ o → is_some o ≡ true → argument_in scope o d place ≡ Ok e → AreArguments scope ps rest
    → AreArguments scope (item p ps) (with_argument e rest)
with_one scope None d place e p ps rest is' some h are = absurd (false≢true some)
with_one scope (Some kind.Int) d place e p ps rest is' some h are =
    let b = expr_bound kind.Int scope d place e h in with_int scope e p ps rest is' b.0 b.1 are
with_one scope (Some kind.Text) d place e p ps rest is' some h are =
    let b = expr_bound kind.Text scope d place e h in with_text scope e p ps rest is' b.0 b.1 are

wanted_at : (handler : Data) (params : Items) (i : ℕ) (p : Data) → params_in handler ≡ Some params → get_item i params ≡ Some p
    → wanted_kind handler i ≡ param_kind p
wanted_at handler params i p are here =
    ap (option_and_then (λ ds. option_and_then param_kind (get_item i ds))) are ∙ ap (option_and_then param_kind) here

arguments_are : (scope : Scope) (handler : Data) (params : Items) (i : ℕ) (ps ds : Items) (place : List ℕ) (a : Arguments)
    → params_in handler ≡ Some params → have_kinds ps ≡ true → ((j : ℕ) → get_item (j + i) params ≡ get_item j ps)
    → items_len ds ≡ items_len ps
    → arguments_from scope handler i ds place ≡ Ok a → AreArguments scope ps a
arguments_are scope handler params i no_items no_items place a are kinds from' same h =
    subst (AreArguments scope no_items) (same_ok _ a h) (record { ints = refl; texts = refl; ints_bound = refl; texts_bound = refl })
arguments_are scope handler params i no_items (item d ds) place a are kinds from' same h = absurd (omega (arith, same))
arguments_are scope handler params i (item p ps) no_items place a are kinds from' same h = absurd (omega (arith, same))
arguments_are scope handler params i (item p ps) (item d ds) place a are kinds from' same h =
    let (e, r, s) = then_read (nth i (argument_in scope (wanted_kind handler i) d))
    (λ e. arguments_from scope handler (suc i) ds >>= λ rest. reads (with_argument e rest)) place a h in
    let (rest, t, q) = then_read (arguments_from scope handler (suc i) ds) (λ rest. reads (with_argument e rest)) place a s in
    let zero_on : 0 + i ≡ i = omega arith in
    let here = wanted_at handler params i p are (sym (ap (λ m. get_item m params) zero_on) ∙ from' 0) in
    let later = λ (j : ℕ). (let on : j + suc i ≡ suc j + i = omega arith in ap (λ m. get_item m params) on ∙ from' (suc j)) in
    let shorter : items_len ds ≡ items_len ps = omega (arith, same) in
    let after = arguments_are scope handler params (suc i) ps ds place rest are (and_parts _ _ kinds).1 later shorter t in
    subst (AreArguments scope (item p ps)) (same_ok (with_argument e rest) a q)
    (with_one scope (wanted_kind handler i) d _ e p ps rest (sym here) (ap is_some here ∙ (and_parts _ _ kinds).0) r after)

-- ---- calls

pub record IsCall (hs : List Handler) (scope : Scope) (c : CallParts) : Type 0 where
  pub handler : Handler
  pub there : slice_get hs c.handler ≡ Some handler
  pub ints : length c.arguments.ints ≡ handler.ints
  pub texts : length c.arguments.texts ≡ handler.texts
  pub ints_bound : list_all (int_is_bound (count_bound Int scope)) c.arguments.ints ≡ true
  pub texts_bound : list_all (text_is_bound (count_bound Text scope)) c.arguments.texts ≡ true
  pub sort : c.sort ≡ option_map sort_of_kind handler.gives

count_taken : (handler : Data) (params : Items) (n : ℕ) → params_in handler ≡ Some params → takes_count handler n ≡ true
    → n ≡ items_len params
count_taken handler params n are h =
    sym (eqb-true (items_len params) n (sym (ap (λ o. unwrap_or (option_map (λ ds. items_len ds == n) o) true) are) ∙ h))

arguments_fit : (scope : Scope) (handler : Data) (params : Items) (d : Data) (place : List ℕ) (a : Arguments)
    → params_in handler ≡ Some params → have_kinds params ≡ true → arguments_in scope handler d place ≡ Ok a → AreArguments scope params a
arguments_fit scope handler params d place a are kinds h =
    let (ds, p, q) = then_read (the_array d)
    (λ ds. ask (takes_count handler (items_len ds)) is.Arguments >> arguments_from scope handler 0 ds) place a h in
    let (u, r, s) = then_read (ask (takes_count handler (items_len ds)) is.Arguments) (λ _. arguments_from scope handler 0 ds) place a q in
    let count = count_taken handler params (items_len ds) are (asked_ok (takes_count handler (items_len ds)) is.Arguments place u r) in
    let same = λ (j : ℕ). (let on : j + 0 ≡ j = omega arith in ap (λ m. get_item m params) on) in
    arguments_are scope handler params 0 params ds place a are kinds same count s

abbrev Called : Type 0
Called = ℕ × Data × Arguments

abbrev sorted : Called → CallParts
sorted c = record { handler = c.0; arguments = c.2; sort = sort_given (handler_gives c.1) }

call_in_is : (hs : List Handler) (guardians : Items) (scope : Scope) (d : Data) (place : List ℕ) (c : Called) → AreNumbered guardians hs
    → call_in guardians scope d place ≡ Ok c → IsCall hs scope (sorted c)
call_in_is hs guardians scope d place c known h =
    let (parts, p0, h0) = then_read (the_triple d) by_parts place c h in
    let (n, p1, h1) = then_read (nth 0 (the_guardian guardians parts.0)) (λ n. by_guardian parts n) place c h0 in
    let (name, p2, h2) = then_read (nth 1 (the_string parts.1)) (λ name. by_name parts n name) place c h1 in
    let (handler, p3, h3) = then_read (nth 1 (need (handler_found guardians n name) is.Handler))
    (λ handler. by_handler parts n name handler) place c h2 in
    let (arguments, p4, h4) = then_read (nth 2 (arguments_in scope handler parts.2))
    (λ arguments. reads (handler_number guardians n name, handler, arguments)) place c h3 in
    let (found, there, of) = known n name handler (needed_ok (handler_found guardians n name) is.Handler _ handler p3) in
    let fit = arguments_fit scope handler of.params parts.2 _ arguments of.are of.kinds p4 in
    subst (λ (x : Called). IsCall hs scope (sorted x)) (same_ok (handler_number guardians n name, handler, arguments) c h4)
    (record {
      handler = found;
      there = there;
      ints = fit.ints ∙ sym of.ints;
      texts = fit.texts ∙ sym of.texts;
      ints_bound = fit.ints_bound;
      texts_bound = fit.texts_bound;
      sort = of.gives;
    })
  where
    by_handler : Data × Data × Data → ℕ → List ℕ → Data → Read Called
    by_handler parts n name handler =
        nth 2 (arguments_in scope handler parts.2) >>= λ arguments. reads (handler_number guardians n name, handler, arguments)

    by_name : Data × Data × Data → ℕ → List ℕ → Read Called
    by_name parts n name = nth 1 (need (handler_found guardians n name) is.Handler) >>= λ handler. by_handler parts n name handler

    by_guardian : Data × Data × Data → ℕ → Read Called
    by_guardian parts n = nth 1 (the_string parts.1) >>= λ name. by_name parts n name

    by_parts : Data × Data × Data → Read Called
    by_parts parts = nth 0 (the_guardian guardians parts.0) >>= λ n. by_guardian parts n

pub call_is : (hs : List Handler) (guardians : Items) (scope : Scope) (d : Data) (place : List ℕ) (c : CallParts)
    → AreNumbered guardians hs
    → call_sorted guardians scope d place ≡ Ok c → IsCall hs scope c
call_is hs guardians scope d place c known h =
    let (x, p, q) = then_read (call_in guardians scope d) (λ x. reads (sorted x)) place c h in
    subst (IsCall hs scope) (same_ok (sorted x) c q) (call_in_is hs guardians scope d place x known p)
