-- An action and its descendants stand next to each other in the order of names, from the action on.
use Rattle.std.proofs.Common.{◌≡◌, ℕ, zero, suc, ◌+◌, ◌<◌, Bool, true, false, not, ◌&&◌, ◌||◌, ◌==◌, List, [], ◌∷◌, ◌++◌, length, take, drop, filter, refl, sym, ap, ◌∙◌, subst, arith}
use Rattle.std.specs.Prelude.{cond}
use Rattle.std.proofs.lemmas.Bool.{true≢false, false≢true, eqb-true, eq-eqb, ne_eqb}
use Rattle.std.proofs.lemmas.Cmp.{ranked}
use Rattle.std.proofs.lemmas.List.{drop-drop}
use Rattle.std.proofs.lemmas.List.Folds.{length-prefix_len}
use Rattle.std.proofs.lemmas.List.Sums.{take_while-cons}
use Rattle.std.specs.Cmp.{nat_cmp_is}
use Rattle.std.specs.List.{list_any, prefix_len, remove_range, take_while}
use Rattle.std.specs.List.Sorted.{IsStrictlySortedBy}
use Rattle.std.specs.Ordering.{nat_cmp, ordering_then, is_eq, is_le}
use Rattle.std.specs.declared.cmp.Ordering.{Ordering}
use Rattle.std.specs.declared.cmp.Ordering.TheVariants.{Less, Equal, Greater}
use Rattle.std.specs.declared.ops.Bound.TheVariants.{Included, Unbounded}
use Rattle.std.specs.BTreeMap.{is_at}
use Rattle.std.specs.BTreeMap.Range.{entries_between}
use Rattle.std.specs.Map.{keys_of, remove_entry}
use Rattle.action_names.specs.Names.{Name, same_name, is_prefix, is_ancestor, name_cmp}
use Rattle.action_names.specs.Comparison.{name_cmp-total}
use Rattle.action_names.proofs.Ancestry.{both, same_is}
use Rattle.holders.specs.Places.{IsStartAt}
use Rattle.holders.proofs.Sorted.{StandBehind, at_name}

-- a beginning of a name stands not behind it
prefix_first : (a b : Name) → is_prefix a b ≡ true → is_le (name_cmp a b) ≡ true
prefix_first [] [] h = refl
prefix_first [] (n ∷ b) h = refl
prefix_first (m ∷ a) [] h = absurd (false≢true h)
prefix_first (m ∷ a) (n ∷ b) h =
    let p = both (m == n) (is_prefix a b) h in
    ap (λ o. is_le (ordering_then o (name_cmp a b))) (sym (nat_cmp_is m n Equal (eqb-true m n p.0))) ∙ prefix_first a b p.1

-- behind a name that does not begin with a, and stands not before it, no name begins with a
prefix_ends : (a m n : Name) → name_cmp m n ≡ Less → is_le (name_cmp a m) ≡ true → is_prefix a m ≡ false → is_prefix a n ≡ false
prefix_ends [] m n up le other = absurd (true≢false other)
prefix_ends (x ∷ a) [] n up le other = absurd (false≢true le)
prefix_ends (x ∷ a) (y ∷ m) [] up le other = refl
prefix_ends (x ∷ a) (y ∷ m) (z ∷ n) up le other = by_case (λ le' up' o. prefix_ends a m n up' le' o) (nat_cmp x y) refl (nat_cmp y z) refl le up where
  both_end : (t : Bool) {r : Bool} → r ≡ false → t && r ≡ false
  both_end true e = e
  both_end false e = refl

  apart : x < z → (x == z) && is_prefix a n ≡ false
  apart below = ap (λ t. t && is_prefix a n) (ne_eqb x z (λ same. omega arith))

  by_case : (is_le (name_cmp a m) ≡ true → name_cmp m n ≡ Less → is_prefix a m ≡ false → is_prefix a n ≡ false)
      → (o : Ordering) → nat_cmp x y ≡ o → (u : Ordering) → nat_cmp y z ≡ u → is_le (ordering_then o (name_cmp a m)) ≡ true → ordering_then u (name_cmp m n) ≡ Less
      → (x == z) && is_prefix a n ≡ false
  by_case later Less k Less l le up = let p = ranked x y Less (sym k) in let q = ranked y z Less (sym l) in apart (omega (arith, p, q))
  by_case later Less k Equal l le up = let p = ranked x y Less (sym k) in let q = ranked y z Equal (sym l) in apart (omega (arith, p, q))
  by_case later Equal k Less l le up = let p = ranked x y Equal (sym k) in let q = ranked y z Less (sym l) in apart (omega (arith, p, q))
  by_case later Equal k Equal l le up = both_end (x == z) (later le up (rw (eq-eqb x y (ranked x y Equal (sym k))) at other))
  by_case later o k Greater l le up = cc
  by_case later Greater k u l le up = absurd (false≢true le)

descendant_first : (a b : Name) → is_ancestor a b ≡ true → is_le (name_cmp a b) ≡ true
descendant_first [] b h = absurd (false≢true h)
descendant_first (m ∷ a) b h = prefix_first (m ∷ a) b h

descendants_end : (a m n : Name) → name_cmp m n ≡ Less → is_le (name_cmp a m) ≡ true → is_ancestor a m ≡ false → is_ancestor a n ≡ false
descendants_end [] m n up le other = refl
descendants_end (x ∷ a) m n up le other = prefix_ends (x ∷ a) m n up le other

-- none of the names behind one that is no descendant, but stands not before a, is a descendant
none_behind : {X : Type 0} (a m : Name) (rs : List (Name × X)) → StandBehind m (keys_of rs) → is_le (name_cmp a m) ≡ true → is_ancestor a m ≡ false
    → filter (λ r. is_ancestor a r.0) rs ≡ []
none_behind a m [] h le other = refl
none_behind a m (r ∷ rs) h le other = simp (descendants_end a m r.0 h.0 le other) (none_behind a m rs h.1 le other)

-- the rows of the action and its descendants are the first from the action on
pub first_from : {X : Type 0} (a : Name) (rs : List (Name × X)) → IsStrictlySortedBy name_cmp (keys_of rs)
    → take_while (λ r. is_ancestor a r.0) (entries_between name_cmp (Included a) Unbounded rs) ≡ filter (λ r. is_ancestor a r.0) rs
unfolding IsStrictlySortedBy
first_from a [] s = refl
first_from {X} a (r ∷ rs) s = by_case (first_from a rs s.1) (is_le (name_cmp a r.0)) refl (is_ancestor a r.0) refl where
  from : List (Name × X) → List (Name × X)
  from es = entries_between name_cmp (Included a) Unbounded es

  below : Name × X → Bool
  below r = is_ancestor a r.0

  first : is_le (name_cmp a r.0) ≡ true → take_while below (from (r ∷ rs)) ≡ cond (below r) (r ∷ take_while below (from rs)) []
  first d = ap (λ b. take_while below (cond (b && true) (r ∷ from rs) (from rs))) d ∙ take_while-cons below r (from rs)

  by_case : take_while (λ r. is_ancestor a r.0) (from rs) ≡ filter (λ r. is_ancestor a r.0) rs → (t : Bool) → is_le (name_cmp a r.0) ≡ t → (u : Bool) → is_ancestor a r.0 ≡ u
      → take_while (λ r. is_ancestor a r.0) (from (r ∷ rs)) ≡ filter (λ r. is_ancestor a r.0) (r ∷ rs)
  by_case later true d true e = first d ∙ ap (λ b. cond b (r ∷ take_while below (from rs)) []) e ∙ rw e (ap (λ es. r ∷ es) later)
  by_case later true d false e = first d ∙ ap (λ b. cond b (r ∷ take_while below (from rs)) []) e ∙ rw e (sym (none_behind a r.0 rs s.0 d e))
  by_case later false d true e = absurd (true≢false (sym (descendant_first a r.0 e) ∙ d))
  by_case later false d false e = ap (λ b. take_while below (cond (b && true) (r ∷ from rs) (from rs))) d ∙ later ∙ rw e refl

-- rows that pass two tests, found among those that pass the one
pub any_in : {X : Type 0} (p q : X → Bool) (rs : List X) → list_any q (filter p rs) ≡ list_any (λ r. q r && p r) rs
any_in p q [] = refl
any_in p q (r ∷ rs) = by_case (any_in p q rs) (p r) refl (q r) refl where
  by_case : list_any q (filter p rs) ≡ list_any (λ r. q r && p r) rs → (t : Bool) → p r ≡ t → (u : Bool) → q r ≡ u
      → list_any q (filter p (r ∷ rs)) ≡ (q r && p r) || list_any (λ r. q r && p r) rs
  by_case later true d true e = simp (d, e) refl
  by_case later true d false e = simp (d, e) later
  by_case later false d true e = simp (d, e) later
  by_case later false d false e = simp (d, e) later

none_from : {X : Type 0} (a : Name) (rs : List (Name × X)) → IsStrictlySortedBy name_cmp (keys_of rs)
    → take_while (λ r. is_ancestor a r.0) (entries_between name_cmp (Included a) Unbounded rs) ≡ [] → list_any (λ r. is_ancestor a r.0) rs ≡ false
none_from {X} a rs s e =
    let below : Name × X → Bool = λ r. is_ancestor a r.0 in
    sym (any_in below (λ r. true) rs) ∙ ap (list_any (λ r. true)) (sym (first_from a rs s) ∙ e)

-- there is no row from the action on
pub none_at_end : {X : Type 0} (a : Name) (rs from : List (Name × X)) → IsStrictlySortedBy name_cmp (keys_of rs)
    → from ≡ entries_between name_cmp (Included a) Unbounded rs → from ≡ [] → list_any (λ r. is_ancestor a r.0) rs ≡ false
none_at_end a rs from s is e = none_from a rs s (ap (take_while (λ r. is_ancestor a r.0)) (sym is ∙ e))

-- the first row from the action on is no descendant's
pub none_at_other : {X : Type 0} (a : Name) (rs from : List (Name × X)) (r : Name × X) (rest : List (Name × X)) → IsStrictlySortedBy name_cmp (keys_of rs)
    → from ≡ entries_between name_cmp (Included a) Unbounded rs → from ≡ r ∷ rest → is_ancestor a r.0 ≡ false → list_any (λ r. is_ancestor a r.0) rs ≡ false
none_at_other {X} a rs from r rest s is e other =
    let below : Name × X → Bool = λ r. is_ancestor a r.0 in
    none_from a rs s (ap (take_while below) (sym is ∙ e) ∙ take_while-cons below r rest ∙ ap (λ b. cond b (r ∷ take_while below rest) []) other)

-- where none is below the action, all stay
pub all_stay : {X : Type 0} (p : X → Bool) (rs : List X) → list_any p rs ≡ false → filter (λ r. not (p r)) rs ≡ rs
all_stay p [] e = refl
all_stay p (r ∷ rs) e = by_case (all_stay p rs) (p r) refl e where
  by_case : (list_any p rs ≡ false → filter (λ r. not (p r)) rs ≡ rs) → (t : Bool) → p r ≡ t → p r || list_any p rs ≡ false → filter (λ r. not (p r)) (r ∷ rs) ≡ r ∷ rs
  by_case later true d e = absurd (true≢false (rw d at e))
  by_case later false d e = simp d (ap (λ es. r ∷ es) (later (rw d at e)))

-- a row of a descendant taken out
pub others_stay : {X : Type 0} (a n : Name) (rs : List (Name × X)) → is_ancestor a n ≡ true
    → filter (λ r. not (is_ancestor a r.0)) (remove_entry (is_at (name_cmp n)) rs) ≡ filter (λ r. not (is_ancestor a r.0)) rs
others_stay a n [] below = refl
others_stay {X} a n (r ∷ rs) below = by_case (others_stay a n rs below) (same_name r.0 n) refl (is_ancestor a r.0) refl where
  kept : List (Name × X) → List (Name × X)
  kept es = filter (λ r. not (is_ancestor a r.0)) es

  by_case : kept (remove_entry (is_at (name_cmp n)) rs) ≡ kept rs → (t : Bool) → same_name r.0 n ≡ t → (u : Bool) → is_ancestor a r.0 ≡ u
      → kept (remove_entry (is_at (name_cmp n)) (r ∷ rs)) ≡ kept (r ∷ rs)
  by_case later true d true e = simp (at_name n r.0 ∙ d, e) refl
  by_case later true d false e = absurd (true≢false (sym (subst (λ x. is_ancestor a x ≡ true) (sym (same_is r.0 n d)) below) ∙ e))
  by_case later false d true e = simp (at_name n r.0 ∙ d, e) later
  by_case later false d false e = simp (at_name n r.0 ∙ d, e) (ap (λ es. r ∷ es) later)

-- ---- rows from a place on

not_below : (a n : Name) → name_cmp a n ≡ Greater → is_ancestor a n ≡ false
not_below a n k = of (is_ancestor a n) refl where
  of : (t : Bool) → is_ancestor a n ≡ t → is_ancestor a n ≡ false
  of true e = absurd (true≢false (sym (descendant_first a n e) ∙ ap is_le k))
  of false e = e

-- a name behind one that is not before a
still_from : (a m n : Name) → is_le (name_cmp a m) ≡ true → name_cmp m n ≡ Less → is_le (name_cmp a n) ≡ true
still_from a m n le up = of (name_cmp a m) refl le where
  of : (o : Ordering) → name_cmp a m ≡ o → is_le o ≡ true → is_le (name_cmp a n) ≡ true
  of Less k h = ap is_le (name_cmp-total.trans a m n k up)
  of Equal k h = ap is_le (subst (λ x. name_cmp x n ≡ Less) (same_is m a (sym (at_name a m) ∙ ap is_eq k)) up)
  of Greater k h = absurd (false≢true h)

start_behind : {X : Type 0} (a m : Name) (rs : List (Name × X)) → is_le (name_cmp a m) ≡ true → StandBehind m (keys_of rs) → IsStartAt rs a 0
start_behind a m [] le h = tt
start_behind a m (r ∷ rs) le h = still_from a m r.0 le h.0

-- those of the action and its descendants come first
run_first : {X : Type 0} (a : Name) (rs : List (Name × X)) → IsStrictlySortedBy name_cmp (keys_of rs) → IsStartAt rs a 0
    → take_while (λ r. is_ancestor a r.0) rs ≡ filter (λ r. is_ancestor a r.0) rs
unfolding IsStrictlySortedBy
run_first a [] s le = refl
run_first {X} a (r ∷ rs) s le =
    take_while-cons below r rs ∙ by_case (run_first a rs s.1 (start_behind a r.0 rs le s.0)) (is_ancestor a r.0) refl where
      below : Name × X → Bool
      below q = is_ancestor a q.0

      by_case : take_while (λ q. is_ancestor a q.0) rs ≡ filter (λ q. is_ancestor a q.0) rs → (t : Bool) → is_ancestor a r.0 ≡ t
          → cond (is_ancestor a r.0) (r ∷ take_while (λ q. is_ancestor a q.0) rs) [] ≡ filter (λ q. is_ancestor a q.0) (r ∷ rs)
      by_case later true e = rw e (ap (λ es. r ∷ es) later)
      by_case later false e = rw e (sym (none_behind a r.0 rs s.0 le e))

-- and then the others
run_rest : {X : Type 0} (a : Name) (rs : List (Name × X)) → IsStrictlySortedBy name_cmp (keys_of rs) → IsStartAt rs a 0
    → drop (prefix_len (λ r. is_ancestor a r.0) rs) rs ≡ filter (λ r. not (is_ancestor a r.0)) rs
unfolding IsStrictlySortedBy
run_rest a [] s le = refl
run_rest {X} a (r ∷ rs) s le = by_case (run_rest a rs s.1 (start_behind a r.0 rs le s.0)) (is_ancestor a r.0) refl where
  below : Name × X → Bool
  below q = is_ancestor a q.0

  others : List (Name × X) → List (Name × X)
  others es = filter (λ q. not (is_ancestor a q.0)) es

  first : ℕ
  first = prefix_len (λ q. is_ancestor a q.0) rs

  next : 1 + first ≡ suc first
  next = omega arith

  none : is_ancestor a r.0 ≡ false → list_any (λ q. is_ancestor a q.0) (r ∷ rs) ≡ false
  none e = rw e (sym (any_in (λ q. is_ancestor a q.0) (λ q. true) rs) ∙ ap (list_any (λ q. true)) (none_behind a r.0 rs s.0 le e))

  by_case : drop first rs ≡ others rs → (t : Bool) → is_ancestor a r.0 ≡ t → drop (cond (is_ancestor a r.0) (1 + first) 0) (r ∷ rs) ≡ others (r ∷ rs)
  by_case later true e = rw e (ap (λ n. drop n (r ∷ rs)) next ∙ later)
  by_case later false e = ap (λ t. drop (cond t (1 + first) 0) (r ∷ rs)) e ∙ sym (all_stay (λ q. is_ancestor a q.0) (r ∷ rs) (none e))

-- the rows of the action and its descendants are the first from its place on
pub run_from : {X : Type 0} (a : Name) (rs : List (Name × X)) (i : ℕ) → IsStrictlySortedBy name_cmp (keys_of rs) → IsStartAt rs a i
    → take_while (λ r. is_ancestor a r.0) (drop i rs) ≡ filter (λ r. is_ancestor a r.0) rs
unfolding IsStrictlySortedBy
run_from a [] zero s here = refl
run_from a [] (suc i) s here = refl
run_from a (r ∷ rs) zero s here = run_first a (r ∷ rs) s here
run_from a (r ∷ rs) (suc i) s here = run_from a rs i s.1 here.1 ∙ rw (not_below a r.0 here.0) refl

-- the rows before that place, and those behind these, are the others
pub run_others : {X : Type 0} (a : Name) (rs : List (Name × X)) (i : ℕ) → IsStrictlySortedBy name_cmp (keys_of rs) → IsStartAt rs a i
    → take i rs ++ drop (prefix_len (λ r. is_ancestor a r.0) (drop i rs)) (drop i rs) ≡ filter (λ r. not (is_ancestor a r.0)) rs
unfolding IsStrictlySortedBy
run_others a [] zero s here = refl
run_others a [] (suc i) s here = refl
run_others a (r ∷ rs) zero s here = run_rest a (r ∷ rs) s here
run_others a (r ∷ rs) (suc i) s here = ap (λ es. r ∷ es) (run_others a rs i s.1 here.1) ∙ rw (not_below a r.0 here.0) refl

-- what is left once those were taken out
pub run_out : {X : Type 0} (a : Name) (rs new tail : List (Name × X)) (i n : ℕ) → IsStrictlySortedBy name_cmp (keys_of rs) → IsStartAt rs a i → tail ≡ drop i rs
    → n ≡ length (take_while (λ r. is_ancestor a r.0) tail) → new ≡ remove_range rs i (i + n) → new ≡ filter (λ r. not (is_ancestor a r.0)) rs
run_out {X} a rs new tail i n s here rest count is =
    let below : Name × X → Bool = λ r. is_ancestor a r.0 in
    let many : n ≡ prefix_len below (drop i rs) = count ∙ ap (λ es. length (take_while below es)) rest ∙ length-prefix_len below (drop i rs) in
    is ∙ ap (λ es. take i rs ++ es) (sym (drop-drop n i rs) ∙ ap (λ m. drop m (drop i rs)) many) ∙ run_others a rs i s here

-- what passes at the front is as long as it is
taken_while : {X : Type 0} (p : X → Bool) (xs : List X) → take (length (take_while p xs)) xs ≡ take_while p xs
taken_while p [] = refl
taken_while {X} p (x ∷ xs) = rw (take_while-cons p x xs) (of (p x) (taken_while p xs)) where
  of : (t : Bool) → take (length (take_while p xs)) xs ≡ take_while p xs
      → take (length (cond t (x ∷ take_while p xs) [])) (x ∷ xs) ≡ cond t (x ∷ take_while p xs) []
  of true later = ap (λ ys. x ∷ ys) later
  of false later = refl

-- and these are just they
pub run_in : {X : Type 0} (a : Name) (rs tail : List (Name × X)) (i n : ℕ) → IsStrictlySortedBy name_cmp (keys_of rs) → IsStartAt rs a i → tail ≡ drop i rs
    → n ≡ length (take_while (λ r. is_ancestor a r.0) tail) → take n tail ≡ filter (λ r. is_ancestor a r.0) rs
run_in {X} a rs tail i n s here rest count =
    let below : Name × X → Bool = λ r. is_ancestor a r.0 in
    ap (λ m. take m tail) count ∙ taken_while below tail ∙ ap (take_while below) rest ∙ run_from a rs i s here
