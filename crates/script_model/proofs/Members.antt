-- The members of an object by their names, of which the first of a name counts.
use Rattle.std.proofs.Common.{Bool, Equal, Greater, Less, List, None, Option, Ordering, Some, ap, cond, false, is_eq, nat_cmp, option_and_then, option_map, refl, sym, true, ℕ, ◌∙◌, ◌≡◌}
use Rattle.std.proofs.lemmas.Bool.{and_parts, false_from_ne_true, false≢true}
use Rattle.std.proofs.lemmas.Map.Text.{is_eq-slice_cmp}
use Rattle.std.proofs.lemmas.Option.{none-some, option_and_then_some, same_Some}
use Rattle.std.proofs.lemmas.Slice.Eq.{bytes_eq-Decides}
use Rattle.std.specs.Cmp.Lexicographic.{slice_cmp}
use Rattle.std.specs.Ordering.{match_ordering}
use Rattle.serde_json.specs.Data.{Data, Members, no_members, member, object, array, null, boolean, number, string}
use Rattle.serde_json.specs.Find.{as_object, get, get_member}
use Rattle.values.specs.Words.{same_bytes}
use Rattle.script_model.specs.Shapes.{has_only, is_among, three_members, two_members}

-- ---- options

pub and_then_some : {A B : Type 0} (f : A → Option B) (o : Option A) (y : B) → option_and_then f o ≡ Some y
    → (x : A) × (o ≡ Some x) × (f x ≡ Some y)
and_then_some f o y h = option_and_then_some f o y h (λ x p q. (x, p, q))

pub map_some : {A B : Type 0} (f : A → B) (o : Option A) (y : B) → option_map f o ≡ Some y → (x : A) × (o ≡ Some x) × (f x ≡ y)
map_some f None y h = absurd (none-some y h)
map_some f (Some x) y h = (x, refl, same_Some (f x) y h)

pub where_true : {A : Type 0} (t : Bool) (o : Option A) (y : A) → cond t o None ≡ Some y → (t ≡ true) × (o ≡ Some y)
where_true true o y h = (refl, h)
where_true false o y h = absurd (none-some y h)

-- ---- names

pub same_is : (a b : List ℕ) → same_bytes a b ≡ true → a ≡ b
same_is a b h = (bytes_eq-Decides a b).0 h

pub is_same : (a b : List ℕ) → a ≡ b → same_bytes a b ≡ true
is_same a b e = (bytes_eq-Decides a b).1 e

pub same_turned : (a b : List ℕ) → same_bytes a b ≡ same_bytes b a
same_turned a b = by_case (same_bytes a b) refl
  where
    by_case : (t : Bool) → same_bytes a b ≡ t → t ≡ same_bytes b a
    by_case true e = sym (is_same b a (sym (same_is a b e)))
    by_case false e = sym (false_from_ne_true (same_bytes b a) (λ h. false≢true (sym e ∙ is_same a b (sym (same_is b a h)))))

-- the first member is the one of this name, or it is among the others
pub get_first : (k l : List ℕ) (d : Data) (ms : Members) → get_member k (member l d ms) ≡ cond (same_bytes l k) (Some d) (get_member k ms)
get_first k l d ms = by_order (slice_cmp nat_cmp k l) ∙ ap (λ t. cond t (Some d) (get_member k ms)) (is_eq-slice_cmp k l ∙ same_turned k l)
  where
    by_order : (o : Ordering) → match_ordering o (get_member k ms) (Some d) (get_member k ms) ≡ cond (is_eq o) (Some d) (get_member k ms)
    by_order Less = refl
    by_order Equal = refl
    by_order Greater = refl

-- a name that is not among those that an object may have
pub absent : (names : List (List ℕ)) (k : List ℕ) (ms : Members) → has_only names ms ≡ true → is_among names k ≡ false
    → get_member k ms ≡ None
absent names k no_members h n = refl
absent names k (member l d ms) h n =
    get_first k l d ms ∙ by_case (same_bytes l k) refl ∙ absent names k ms (and_parts _ _ h).1 n
  where
    by_case : (t : Bool) → same_bytes l k ≡ t → cond t (Some d) (get_member k ms) ≡ get_member k ms
    by_case true e = absurd (false≢true (sym n ∙ sym (ap (is_among names) (same_is l k e)) ∙ (and_parts _ _ h).0))
    by_case false e = refl

-- ---- objects with given members

get_in : (k : List ℕ) (d : Data) (ms : Members) → as_object d ≡ Some ms → get k d ≡ get_member k ms
get_in k (object x) ms h = ap (get_member k) (same_Some x ms h)
get_in k null ms h = absurd (none-some ms h)
get_in k (boolean b) ms h = absurd (none-some ms h)
get_in k (number n) ms h = absurd (none-some ms h)
get_in k (string s) ms h = absurd (none-some ms h)
get_in k (array ds) ms h = absurd (none-some ms h)

pub two_there : (m n : List ℕ) (d : Data) (p : Data × Data) → option_and_then (two_members m n) (as_object d) ≡ Some p
    → (get m d ≡ Some p.0) × (get n d ≡ Some p.1)
two_there m n d p h =
    let (ms, as', two) = and_then_some (two_members m n) (as_object d) p h in
    let found = (where_true _ _ p two).1 in
    let (x, gx, more) = and_then_some (λ d. option_map (λ (e : Data). (d, e)) (get_member n ms)) (get_member m ms) p found in
    let (y, gy, is') = map_some (λ (e : Data). (x, e)) (get_member n ms) p more in
    (get_in m d ms as' ∙ gx ∙ ap (λ (q : Data × Data). Some q.0) is', get_in n d ms as' ∙ gy ∙ ap (λ (q : Data × Data). Some q.1) is')

pub three_there : (l m n : List ℕ) (d : Data) (p : Data × Data × Data) → option_and_then (three_members l m n) (as_object d) ≡ Some p
    → (get l d ≡ Some p.0) × (get m d ≡ Some p.1) × (get n d ≡ Some p.2)
three_there l m n d p h =
    let (ms, as', three) = and_then_some (three_members l m n) (as_object d) p h in
    let found = (where_true _ _ p three).1 in
    let (x, gx, more) = and_then_some (λ d. option_and_then (λ (e : Data). option_map (λ (f : Data). (d, e, f)) (get_member n ms))
    (get_member m ms))
    (get_member l ms) p found in
    let (y, gy, rest) = and_then_some (λ (e : Data). option_map (λ (f : Data). (x, e, f)) (get_member n ms)) (get_member m ms) p more in
    let (z, gz, is') = map_some (λ (f : Data). (x, y, f)) (get_member n ms) p rest in (
      get_in l d ms as' ∙ gx ∙ ap (λ (q : Data × Data × Data). Some q.0) is',
      get_in m d ms as' ∙ gy ∙ ap (λ (q : Data × Data × Data). Some q.1) is',
      get_in n d ms as' ∙ gz ∙ ap (λ (q : Data × Data × Data). Some q.2) is',
    )
