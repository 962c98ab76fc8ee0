-- A body whose document shows that it ends by a `return` or an `abort` does so.
use Rattle.std.proofs.Common.{Bool, List, Ok, Some, [], ap, ap₂, codes, cond, false, is_some, not, option_and_then, refl, subst, sym, true, suc, zero, ℕ, ◌&&◌, ◌||◌, ◌∙◌, ◌∷◌, ◌≡◌}
use Rattle.std.proofs.lemmas.Bool.{and_from, and_parts, false≢true, or_from}
use Rattle.std.proofs.lemmas.Option.{none-some, same_Some}
use Rattle.serde_json.specs.Data.{Data, null, boolean, number, string, array, object, Items, no_items, item, Members, no_members, member}
use Rattle.serde_json.specs.Find.{as_array, as_object, get_member}
use Rattle.values.specs.Words.{same_bytes}
use Rattle.script_model.specs.declared.fault.FaultKind.TheVariants as is
use Rattle.script_model.specs.declared.expression.Condition.{Condition}
use Rattle.script_model.specs.declared.statement.Statement.{Statement}
use Rattle.script_model.specs.declared.statement.Statement.TheVariants.{If, Abort, Return}
use Rattle.script_model.specs.Reading.{Read, ask, at, fault, nth, reads, step, ◌>>=◌}
use Rattle.script_model.specs.Shapes.{has_only, is_among, the_array, the_object, the_triple, three_items}
use Rattle.script_model.specs.Scopes.{Scope}
use Rattle.script_model.specs.ExpressionReading.{condition, sort_of}
use Rattle.script_model.specs.StatementReading.{Body, BodyReading, Context, abort_in, body_at, if_in, is_null, is_true, may_return, may_return_nothing, return_in, returned, statement, statement_of, statements}
use Rattle.script_model.specs.ScriptReading.{branches_end, ends, first_if_ends, is_end, last_ends}
use Rattle.script_model.specs.Resolved.{body_ends, statement_ends}
use Rattle.script_model.proofs.Steps.{needed_ok, no_fault, same_ok, then_read}
use Rattle.script_model.proofs.Members.{absent, get_first, same_is}
use Rattle.script_model.proofs.Asking.{abort_ends, body_ends_by, if_ends, return_ends}
use Rattle.script_model.proofs.Statements.{call_names, op_names, top_names, read_by, by_op, by_call, by_coenter, by_top, by_if, by_repeat, by_abort, by_return, unbound}

-- where this reads a document that ends, the body ends
abbrev pub Ends : BodyReading → Type 0
Ends inner = (cx : Context) (scope : Scope) (d : Data) (place : List ℕ) (body : Body) → inner cx scope d place ≡ Ok body → ends d ≡ true
    → body_ends body ≡ true

-- ---- whether an object shows an end

abbrev shows_end : Members → Bool
shows_end ms = (is_some (get_member (codes "return") ms) || is_some (get_member (codes "abort") ms)) || first_if_ends ms

shown : (d : Data) (ms : Members) → as_object d ≡ Some ms → is_end d ≡ shows_end ms
shown (object x) ms h = ap shows_end (same_Some x ms h)
shown null ms h = absurd (none-some ms h)
shown (boolean b) ms h = absurd (none-some ms h)
shown (number n) ms h = absurd (none-some ms h)
shown (string s) ms h = absurd (none-some ms h)
shown (array ds) ms h = absurd (none-some ms h)

without_if : (names : List (List ℕ)) (ms : Members) → has_only names ms ≡ true → is_among names (codes "if") ≡ false
    → first_if_ends ms ≡ false
without_if names no_members h n = refl
without_if names (member l d ms) h n = by_case (same_bytes l (codes "if")) refl ∙ without_if names ms (and_parts _ _ h).1 n
  where
    by_case : (t : Bool) → same_bytes l (codes "if") ≡ t → cond t (branches_end d) (first_if_ends ms) ≡ first_if_ends ms
    by_case true e = absurd (false≢true (sym n ∙ sym (ap (is_among names) (same_is l (codes "if") e)) ∙ (and_parts _ _ h).0))
    by_case false e = refl

no_end : {B : Type 0} (names : List (List ℕ)) (ms : Members) → has_only names ms ≡ true → is_among names (codes "return") ≡ false
    → is_among names (codes "abort") ≡ false → is_among names (codes "if") ≡ false → shows_end ms ≡ true → B
no_end names ms h r a i e =
    absurd (false≢true (sym (or_from _ _ (or_from _ _ (ap is_some (absent names (codes "return") ms h r))
    (ap is_some (absent names (codes "abort") ms h a)))
    (without_if names ms h i)) ∙ e))

first_if : (ms : Members) (d : Data) → get_member (codes "if") ms ≡ Some d → first_if_ends ms ≡ branches_end d
first_if no_members d h = absurd (none-some d h)
first_if (member l x ms) d h = by_case (same_bytes l (codes "if")) (sym (get_first (codes "if") l x ms) ∙ h) (first_if ms d)
  where
    by_case : (t : Bool) → cond t (Some x) (get_member (codes "if") ms) ≡ Some d
        → (get_member (codes "if") ms ≡ Some d → first_if_ends ms ≡ branches_end d)
        → cond t (branches_end x) (first_if_ends ms) ≡ branches_end d
    by_case true g more = ap branches_end (same_Some x d g)
    by_case false g more = more g

if_shows : (ms : Members) (d : Data) → has_only (codes "if" ∷ []) ms ≡ true → get_member (codes "if") ms ≡ Some d → shows_end ms ≡ true
    → branches_end d ≡ true
if_shows ms d h g e =
    sym (first_if ms d g)
    ∙ sym (ap₂ (λ r a. (is_some r || is_some a) || first_if_ends ms) (absent (codes "if" ∷ []) (codes "return") ms h refl)
    (absent (codes "if" ∷ []) (codes "abort") ms h refl))
    ∙ e

-- ---- statements

branches : (d : Data) (parts : Data × Data × Data) → option_and_then three_items (as_array d) ≡ Some parts
    → branches_end d ≡ (ends parts.1 && ends parts.2)
branches (array no_items) parts h = absurd (none-some parts h)
branches (array (item x no_items)) parts h = absurd (none-some parts h)
branches (array (item x (item y no_items))) parts h = absurd (none-some parts h)
branches (array (item x (item y (item z no_items)))) parts h =
    ap (λ (p : Data × Data × Data). ends p.1 && ends p.2) (same_Some (x, y, z) parts h)
branches (array (item x (item y (item z (item w ds))))) parts h = absurd (none-some parts h)
branches null parts h = absurd (none-some parts h)
branches (boolean b) parts h = absurd (none-some parts h)
branches (number n) parts h = absurd (none-some parts h)
branches (string s) parts h = absurd (none-some parts h)
branches (object ms) parts h = absurd (none-some parts h)

module _ (inner : BodyReading) (sound : Ends inner) (cx : Context) (scope : Scope) where
  if_end : (d : Data) (place : List ℕ) (s : Statement) → if_in inner cx scope d place ≡ Ok s → branches_end d ≡ true
      → statement_ends s ≡ true
  if_end d place s h e =
      let (parts, p0, h0) = then_read (the_triple d) by_parts place s h in
      let (test, p1, h1) = then_read (nth 0 (condition scope parts.0)) (by_test parts) place s h0 in
      let (first, p2, h2) = then_read (nth 1 (inner cx scope parts.1)) (by_first parts test) place s h1 in
      let (second, p3, h3) = then_read (nth 2 (inner cx scope parts.2)) (λ second. reads (If test first second)) place s h2 in
      let (a, b) = and_parts (ends parts.1) (ends parts.2)
      (sym (branches d parts (needed_ok (option_and_then three_items (as_array d)) is.Shape place parts p0)) ∙ e) in
      subst (λ x. statement_ends x ≡ true) (same_ok (If test first second) s h3)
      (if_ends test first second ∙ and_from _ _ (body_ends_by first ∙ sound cx scope parts.1 _ first p2 a)
      (body_ends_by second ∙ sound cx scope parts.2 _ second p3 b))
    where
      by_first : Data × Data × Data → Condition → Body → Read Statement
      by_first parts test first = nth 2 (inner cx scope parts.2) >>= λ second. reads (If test first second)

      by_test : Data × Data × Data → Condition → Read Statement
      by_test parts test = nth 1 (inner cx scope parts.1) >>= by_first parts test

      by_parts : Data × Data × Data → Read Statement
      by_parts parts = nth 0 (condition scope parts.0) >>= by_test parts

  abort_end : (d : Data) (place : List ℕ) (s : Statement) → abort_in d place ≡ Ok s → statement_ends s ≡ true
  abort_end d place s h =
      let (u, p, q) = then_read (ask (is_true d) is.Shape) (λ _. reads Abort) place s h in
      subst (λ x. statement_ends x ≡ true) (same_ok Abort s q) abort_ends

  return_end : (d : Data) (place : List ℕ) (s : Statement) → return_in cx scope d place ≡ Ok s → statement_ends s ≡ true
  return_end d place s h =
      let test = not cx.in_top && cond (is_null d) (may_return_nothing cx.gives) (may_return cx.gives (sort_of scope d)) in
      let (u, p0, h0) = then_read (ask test is.Flow) (λ _. at (codes "return") (returned scope d) >>= λ e. reads (Return e)) place s h in
      let (e, p1, h1) = then_read (at (codes "return") (returned scope d)) (λ e. reads (Return e)) place s h0 in
      subst (λ x. statement_ends x ≡ true) (same_ok (Return e) s h1) (return_ends e)

  abbrev EndsAt : Statement × Scope → Type 0
  EndsAt r = statement_ends r.0 ≡ true

  statement_end : (d : Data) (place : List ℕ) (r : Statement × Scope) → statement inner cx scope d place ≡ Ok r → is_end d ≡ true
      → EndsAt r
  statement_end d place r h e =
      let (ms, p, q) = then_read (the_object d) (statement_of inner cx scope) place r h in
      let end = sym (shown d ms (needed_ok (as_object d) is.Shape place ms p)) ∙ e in
      elim (read_by inner cx scope ms place r q) [
        | by_op u ↦ no_end op_names ms u.2 refl refl refl end
        | by_call u ↦ no_end call_names ms u.2 refl refl refl end
        | by_coenter u ↦ no_end (codes "coenter" ∷ []) ms u.2 refl refl refl end
        | by_top u ↦ no_end top_names ms u.2 refl refl refl end
        | by_if u ↦
            let (s, t, is') = unbound scope (at (codes "if") (if_in inner cx scope u.0)) place r u.3 in
            subst EndsAt is' (if_end u.0 (step place (codes "if")) s t (if_shows ms u.0 u.2 u.1 end))
        | by_repeat u ↦ no_end (codes "repeat" ∷ []) ms u.2 refl refl refl end
        | by_abort u ↦
            let (s, t, is') = unbound scope (at (codes "abort") (abort_in u.0)) place r u.3 in
            subst EndsAt is' (abort_end u.0 (step place (codes "abort")) s t)
        | by_return u ↦ let (s, t, is') = unbound scope (return_in cx scope u.0) place r u.3 in subst EndsAt is' (return_end u.0 place s t)
      ]

-- ---- bodies

ends_later : (s : Statement) (ss : List Statement) → body_ends ss ≡ true → body_ends (s ∷ ss) ≡ true
ends_later s [] h = absurd (false≢true h)
ends_later s (t ∷ ss) h = h

statements_end : (inner : BodyReading) → Ends inner → (cx : Context) (i : ℕ) (scope : Scope) (ds : Items) (place : List ℕ) (body : Body)
    → statements inner cx i scope ds place ≡ Ok body → last_ends ds ≡ true → body_ends body ≡ true
statements_end inner sound cx i scope no_items place body h e = absurd (false≢true e)
statements_end inner sound cx i scope (item d no_items) place body h e =
    let (s, p, q) = then_read (nth i (statement inner cx scope d))
    (λ s. statements inner cx (suc i) s.1 no_items >>= λ rest. reads (s.0 ∷ rest)) place body h in
    subst (λ b. body_ends b ≡ true) (same_ok (s.0 ∷ []) body q) (statement_end inner sound cx scope d _ s p e)
statements_end inner sound cx i scope (item d (item x ds)) place body h e =
    let (s, p, q) = then_read (nth i (statement inner cx scope d))
    (λ s. statements inner cx (suc i) s.1 (item x ds) >>= λ rest. reads (s.0 ∷ rest)) place body h in
    let (rest, t, u) = then_read (statements inner cx (suc i) s.1 (item x ds)) (λ rest. reads (s.0 ∷ rest)) place body q in
    subst (λ b. body_ends b ≡ true) (same_ok (s.0 ∷ rest) body u)
    (ends_later s.0 rest (statements_end inner sound cx (suc i) s.1 (item x ds) place rest t e))

ends_as : (d : Data) (ds : Items) → as_array d ≡ Some ds → ends d ≡ last_ends ds
ends_as (array x) ds h = ap last_ends (same_Some x ds h)
ends_as null ds h = absurd (none-some ds h)
ends_as (boolean b) ds h = absurd (none-some ds h)
ends_as (number n) ds h = absurd (none-some ds h)
ends_as (string s) ds h = absurd (none-some ds h)
ends_as (object ms) ds h = absurd (none-some ds h)

pub bodies_end : (levels : ℕ) → Ends (body_at levels)
bodies_end zero cx scope d place body h e = let (ds, p, q) = then_read (the_array d) (λ _. fault is.Limit) place body h in no_fault q
bodies_end (suc levels) cx scope d place body h e =
    let (ds, p, q) = then_read (the_array d) (statements (body_at levels) cx 0 scope) place body h in
    statements_end (body_at levels) (bodies_end levels) cx 0 scope ds place body q
    (sym (ends_as d ds (needed_ok (as_array d) is.Shape place ds p)) ∙ e)
