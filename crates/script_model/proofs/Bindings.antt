-- What a reply is bound to: a place of its sort, that of a bound variable or the next; and what is bound after it.
use Rattle.std.proofs.Common.{Bool, List, None, Ok, Option, Some, ap, arith, cond, false, is_some, not, refl, subst, sym, true, suc, ℕ, ◌<◌, ◌==◌, ◌≤◌, ◌∙◌, ◌∷◌, ◌≡◌, codes, eq-eqb, ne_eqb, le-leb}
use Rattle.std.proofs.lemmas.Bool.{and_from, false≢true, not-true}
use Rattle.serde_json.specs.Data.{Data, Members}
use Rattle.serde_json.specs.Find.{get_member}
use Rattle.values.specs.declared.value.Kind.{Kind}
use Rattle.values.specs.declared.value.Kind.TheVariants as kind
use Rattle.script_model.specs.declared.fault.FaultKind.TheVariants as is
use Rattle.script_model.specs.declared.names.Sort.{Sort}
use Rattle.script_model.specs.declared.names.Sort.TheVariants.{Int, Text, Truth, Unknown}
use Rattle.script_model.specs.declared.statement.Binding.{Binding}
use Rattle.script_model.specs.declared.statement.Binding.TheVariants as binding
use Rattle.script_model.specs.Reading.{ask, reads, step}
use Rattle.script_model.specs.Scopes.{Scope, Variable, agree, binding_again, binding_of, count_bound, find, same_sort, sort_of_kind}
use Rattle.script_model.specs.StatementReading.{bind, bound_to, into_in, the_name}
use Rattle.script_model.specs.Resolved.{Frames, binding_is_bound, binds_newly, frames_after, is_int, is_nothing, is_of_kind, is_truth}
use Rattle.script_model.proofs.Steps.{asked_ok, same_ok, then_read}
use Rattle.script_model.proofs.Scopes.{agreed, all_known, found_known, found_within, frames_of, is_known}

-- whether a binding is of the sort of a reply
abbrev pub fits_sort : Option Sort → Binding → Bool
fits_sort None b = is_nothing b
fits_sort (Some Int) b = is_of_kind kind.Int b
fits_sort (Some Text) b = is_of_kind kind.Text b
fits_sort (Some Truth) b = is_truth b
fits_sort (Some Unknown) b = false

-- a reply is of a known sort, or is no value
abbrev pub known_if_any : Option Sort → Bool
known_if_any None = true
known_if_any (Some s) = is_known s

pub kind_fits : (k : Kind) (b : Binding) → fits_sort (Some (sort_of_kind k)) b ≡ true → is_of_kind k b ≡ true
kind_fits kind.Int b h = h
kind_fits kind.Text b h = h

pub int_fits : (b : Binding) → is_of_kind kind.Int b ≡ true → is_int b ≡ true
int_fits (binding.Int p) h = refl
int_fits binding.Nothing h = absurd (false≢true h)
int_fits (binding.Text p) h = absurd (false≢true h)
int_fits (binding.Truth p) h = absurd (false≢true h)

-- ---- one binding

pub record IsBoundBy (scope : Scope) (sort : Option Sort) (may_signal : Bool) (r : Binding × Scope) : Type 0 where
  pub fits : fits_sort sort r.0 ≡ true
  pub bound : binding_is_bound (frames_of scope) r.0 ≡ true
  pub after : frames_of r.1 ≡ frames_after (frames_of scope) r.0
  pub known : all_known r.1 ≡ true
  pub still : may_signal ≡ true → (r.1 ≡ scope) × (binds_newly (frames_of scope) r.0 ≡ false)

fits_of : (s : Sort) (p : Option ℕ) → is_known s ≡ true → fits_sort (Some s) (binding_of s p) ≡ true
fits_of Int p k = refl
fits_of Text p k = refl
fits_of Truth p k = refl
fits_of Unknown p k = absurd (false≢true k)

bound_of : (s : Sort) (p : ℕ) (scope : Scope) → p ≤ count_bound s scope → binding_is_bound (frames_of scope) (binding_of s (Some p)) ≡ true
bound_of Int p scope h = le-leb _ _ h
bound_of Text p scope h = le-leb _ _ h
bound_of Truth p scope h = le-leb _ _ h
bound_of Unknown p scope h = refl

-- no place
without : (s : Sort) (scope : Scope) (may_signal : Bool) → is_known s ≡ true → all_known scope ≡ true
    → IsBoundBy scope (Some s) may_signal (binding_of s None, scope)
without Int scope m k a = record { fits = refl; bound = refl; after = refl; known = a; still = λ _. (refl, refl) }
without Text scope m k a = record { fits = refl; bound = refl; after = refl; known = a; still = λ _. (refl, refl) }
without Truth scope m k a = record { fits = refl; bound = refl; after = refl; known = a; still = λ _. (refl, refl) }
without Unknown scope m k a = absurd (false≢true k)

less_differs : (p n : ℕ) → p < n → (p == n) ≡ false
less_differs p n h = ne_eqb p n (λ e. omega arith)

-- the frames, with one variable more of a sort where the test holds
abbrev ints_on : Scope → Bool → Frames
ints_on scope b = record (frames_of scope) { ints = cond b (suc (count_bound Int scope)) (count_bound Int scope) }

abbrev texts_on : Scope → Bool → Frames
texts_on scope b = record (frames_of scope) { texts = cond b (suc (count_bound Text scope)) (count_bound Text scope) }

abbrev truths_on : Scope → Bool → Frames
truths_on scope b = record (frames_of scope) { truths = cond b (suc (count_bound Truth scope)) (count_bound Truth scope) }

-- the place of a variable that is bound
after_again : (s : Sort) (p : ℕ) (scope : Scope) → p < count_bound s scope
    → frames_of scope ≡ frames_after (frames_of scope) (binding_of s (Some p))
after_again Int p scope h = ap (ints_on scope) (sym (less_differs p (count_bound Int scope) h))
after_again Text p scope h = ap (texts_on scope) (sym (less_differs p (count_bound Text scope) h))
after_again Truth p scope h = ap (truths_on scope) (sym (less_differs p (count_bound Truth scope) h))
after_again Unknown p scope h = refl

old_again : (s : Sort) (p : ℕ) (scope : Scope) → p < count_bound s scope → binds_newly (frames_of scope) (binding_of s (Some p)) ≡ false
old_again Int p scope h = less_differs p (count_bound Int scope) h
old_again Text p scope h = less_differs p (count_bound Text scope) h
old_again Truth p scope h = less_differs p (count_bound Truth scope) h
old_again Unknown p scope h = refl

again : (s : Sort) (p : ℕ) (scope : Scope) (may_signal : Bool) → is_known s ≡ true → all_known scope ≡ true → p < count_bound s scope
    → IsBoundBy scope (Some s) may_signal (binding_of s (Some p), scope)
again s p scope m k a h = record {
  fits = fits_of s (Some p) k;
  bound = bound_of s p scope (omega (arith, h));
  after = after_again s p scope h;
  known = a;
  still = λ _. (refl, old_again s p scope h);
}

-- the next place
abbrev with_name : List ℕ → Sort → Scope → Scope
with_name name s scope = record { name = name; sort = s } ∷ scope

after_new : (s : Sort) (name : List ℕ) (scope : Scope) → is_known s ≡ true
    → frames_of (with_name name s scope) ≡ frames_after (frames_of scope) (binding_of s (Some (count_bound s scope)))
after_new Int name scope k = ap (ints_on scope) (sym (eq-eqb (count_bound Int scope) (count_bound Int scope) refl))
after_new Text name scope k = ap (texts_on scope) (sym (eq-eqb (count_bound Text scope) (count_bound Text scope) refl))
after_new Truth name scope k = ap (truths_on scope) (sym (eq-eqb (count_bound Truth scope) (count_bound Truth scope) refl))
after_new Unknown name scope k = absurd (false≢true k)

new : (s : Sort) (name : List ℕ) (scope : Scope) (may_signal : Bool) → is_known s ≡ true → all_known scope ≡ true → may_signal ≡ false
    → IsBoundBy scope (Some s) may_signal (binding_of s (Some (count_bound s scope)), with_name name s scope)
new s name scope m k a n = record {
  fits = fits_of s (Some (count_bound s scope)) k;
  bound = bound_of s (count_bound s scope) scope (omega arith);
  after = after_new s name scope k;
  known = and_from _ _ k a;
  still = λ e. absurd (false≢true (sym n ∙ e));
}

again_known : (s : Sort) (v : Variable) → is_known v.sort ≡ true → binding_again s v ≡ binding_of s (Some v.place)
again_known s v k = by_sort v.sort k
  where
    by_sort : (t : Sort) → is_known t ≡ true
        → cond (same_sort t Unknown) (binding_of s None) (binding_of s (Some v.place)) ≡ binding_of s (Some v.place)
    by_sort Int k = refl
    by_sort Text k = refl
    by_sort Truth k = refl
    by_sort Unknown k = absurd (false≢true k)

to_bound : (scope : Scope) (may_signal : Bool) (s : Sort) (name : List ℕ) (place : List ℕ) (r : Binding × Scope) (o : Option Variable)
    → find scope name ≡ o → is_known s ≡ true → all_known scope ≡ true
    → bound_to scope may_signal s name o place ≡ Ok r → IsBoundBy scope (Some s) may_signal r
to_bound scope m s name place r (Some v) f k a h =
    let (u, p, q) = then_read (ask (agree v.sort s) is.Rebound) (λ _. reads (binding_again s v, scope)) place r h in
    let known = found_known scope name v a f in
    let same = agreed v.sort s known k (asked_ok (agree v.sort s) is.Rebound place u p) in
    let within = subst (λ t. v.place < count_bound t scope) same (found_within scope name v f) in
    subst (IsBoundBy scope (Some s) m) (ap (λ b. (b, scope)) (sym (again_known s v known)) ∙ same_ok (binding_again s v, scope) r q)
    (again s v.place scope m k a within)
to_bound scope m s name place r None f k a h =
    let (u, p, q) = then_read (ask (not m) is.Unbound) (λ _. reads (binding_of s (Some (count_bound s scope)), with_name name s scope))
    place r h in
    subst (IsBoundBy scope (Some s) m) (same_ok _ r q) (new s name scope m k a (not-true m (asked_ok (not m) is.Unbound place u p)))

into_bound : (scope : Scope) (may_signal : Bool) (sort : Option Sort) (into : Option Data) (place : List ℕ) (r : Binding × Scope)
    → known_if_any sort ≡ true → all_known scope ≡ true → into_in scope may_signal sort into place ≡ Ok r
    → IsBoundBy scope sort may_signal r
into_bound scope m None into place r k a h =
    subst (IsBoundBy scope None m) (same_ok (binding.Nothing, scope) r h)
    (record { fits = refl; bound = refl; after = refl; known = a; still = λ _. (refl, refl) })
into_bound scope m (Some s) None place r k a h =
    subst (IsBoundBy scope (Some s) m) (same_ok (binding_of s None, scope) r h) (without s scope m k a)
into_bound scope m (Some s) (Some d) place r k a h =
    let (name, p, q) = then_read (the_name d) (λ name. bound_to scope m s name (find scope name)) (step place (codes "into")) r h in
    to_bound scope m s name (step place (codes "into")) r (find scope name) refl k a q

pub bind_bound : (scope : Scope) (sort : Option Sort) (ms : Members) (place : List ℕ) (r : Binding × Scope)
    → known_if_any sort ≡ true → all_known scope ≡ true → bind scope sort ms place ≡ Ok r
    → IsBoundBy scope sort (is_some (get_member (codes "signals") ms)) r
bind_bound scope sort ms place r k a h =
    into_bound scope (is_some (get_member (codes "signals") ms)) sort (get_member (codes "into") ms) place r k a h
