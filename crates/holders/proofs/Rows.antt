-- Rows by name, of which some are empty.
use Rattle.std.proofs.Common.{◌≡◌, Bool, true, false, cond, not, ◌&&◌, ◌||◌, map, filter, List, [], ◌∷◌, ◌++◌, length, refl, sym, ap, arith, ◌∙◌, subst}
use Rattle.std.specs.Prelude.{Option, Some, None, is_some}
use Rattle.std.proofs.lemmas.Bool.{true≢false, false≢true}
use Rattle.std.proofs.lemmas.List.Kept.{IsStrictlySortedBy-filter}
use Rattle.std.specs.List.{list_any}
use Rattle.std.specs.List.Sorted.{IsStrictlySortedBy}
use Rattle.std.specs.Ordering.{is_eq}
use Rattle.std.specs.declared.cmp.Ordering.{Ordering}
use Rattle.std.specs.declared.cmp.Ordering.TheVariants.{Less, Equal, Greater}
use Rattle.std.specs.BTreeMap.{is_at, insert_entry}
use Rattle.std.specs.BTreeSet.{insert_key}
use Rattle.std.specs.Map.{keys_of, lookup, remove_entry, set_value}
use Rattle.action_names.specs.Names.{Name, same_name, has_name, name_cmp, is_ancestor}
use Rattle.action_names.proofs.Ancestry.{same_is}
use Rattle.holders.specs.Held.{Rows, value_at, names_of, with_value, without, with_row, held_in}
use Rattle.holders.proofs.Sorted.{at_name, StandBehind, other_than, behind_same, behind, greater, in_rest, known, first_out, other_out}

-- a row that may be there and may be empty
abbrev pub flat : {V : Type 0} → Option (Option V) → Option V
flat None = None
flat (Some o) = o

-- what rows show
abbrev pub shown : {V : Type 0} → List (Name × Option V) → Rows V
shown rs = record { held = held_in rs; room = keys_of rs }

-- where there are no rows, nobody holds anything
pub none_held : {V : Type 0} (rs : List (Name × Option V)) → length rs ≡ 0 → held_in rs ≡ []
none_held [] e = refl
none_held (r ∷ rs) e = grind (arith, e)

-- nothing is held by a name before which none stands
pub none_behind : {V : Type 0} (a : Name) (rs : List (Name × Option V)) → StandBehind a (keys_of rs) → value_at (held_in rs) a ≡ None
none_behind a [] h = refl
none_behind {V} a (r ∷ rs) h = past r.1 (none_behind a rs h.1) where
  past : (o : Option V) → value_at (held_in rs) a ≡ None → value_at (with_row r.0 o (held_in rs)) a ≡ None
  past None e = e
  past (Some v) e = simp (other_than a r.0 h.0) e

-- a row is found by its name
pub lookup_held : {V : Type 0} (a : Name) (rs : List (Name × Option V)) → IsStrictlySortedBy name_cmp (keys_of rs)
    → flat (lookup (is_at (name_cmp a)) rs) ≡ value_at (held_in rs) a
unfolding IsStrictlySortedBy
lookup_held a [] s = refl
lookup_held {V} a (r ∷ rs) s = by_case (lookup_held a rs s.1) (same_name r.0 a) refl r.1 where
  by_case : flat (lookup (is_at (name_cmp a)) rs) ≡ value_at (held_in rs) a → (t : Bool) → same_name r.0 a ≡ t → (o : Option V)
      → flat (lookup (is_at (name_cmp a)) ((r.0, o) ∷ rs)) ≡ value_at (with_row r.0 o (held_in rs)) a
  by_case later true d None = simp (at_name a r.0 ∙ d) (sym (none_behind a rs (behind_same r.0 a (keys_of rs) d s.0)))
  by_case later true d (Some v) = simp (at_name a r.0 ∙ d, d) refl
  by_case later false d None = simp (at_name a r.0 ∙ d) later
  by_case later false d (Some v) = simp (at_name a r.0 ∙ d, d) later

pub found_at : {V : Type 0} (s : Rows V) (rs : List (Name × Option V)) (a : Name) → shown rs ≡ s → IsStrictlySortedBy name_cmp (keys_of rs)
    → (o : Option (Option V)) → o ≡ lookup (is_at (name_cmp a)) rs → flat o ≡ value_at s.held a
found_at {V} s rs a e k o q = ap flat q ∙ lookup_held a rs k ∙ ap (λ (x : Rows V). value_at x.held a) e

-- one that holds something is among those that hold
pub holds_some : {V : Type 0} (hs : List (Name × V)) (a : Name) → is_some (value_at hs a) ≡ has_name (names_of hs) a
holds_some [] a = refl
holds_some (h ∷ hs) a = by_case (holds_some hs a) (same_name h.0 a) refl where
  by_case : is_some (value_at hs a) ≡ has_name (names_of hs) a → (t : Bool) → same_name h.0 a ≡ t → is_some (value_at (h ∷ hs) a) ≡ same_name h.0 a || has_name (names_of hs) a
  by_case later true d = simp d refl
  by_case later false d = simp d later

-- a row is found where its name is there
pub has_row : {X : Type 0} (a : Name) (rs : List (Name × X)) → is_some (lookup (is_at (name_cmp a)) rs) ≡ has_name (keys_of rs) a
has_row a [] = refl
has_row a (r ∷ rs) = by_case (has_row a rs) (same_name r.0 a) refl where
  by_case : is_some (lookup (is_at (name_cmp a)) rs) ≡ has_name (keys_of rs) a → (t : Bool) → same_name r.0 a ≡ t
      → is_some (lookup (is_at (name_cmp a)) (r ∷ rs)) ≡ same_name r.0 a || has_name (keys_of rs) a
  by_case later true d = simp (at_name a r.0 ∙ d, d) refl
  by_case later false d = simp (at_name a r.0 ∙ d, d) later

-- a new row that is empty holds nothing
pub room_held : {V : Type 0} (a : Name) (rs : List (Name × Option V)) → has_name (keys_of rs) a ≡ false → held_in (insert_entry name_cmp rs a None) ≡ held_in rs
room_held a [] e = refl
room_held {V} a (r ∷ rs) e = by_case (room_held a rs) (same_name r.0 a) refl e (name_cmp a r.0) refl where
  by_case : (has_name (keys_of rs) a ≡ false → held_in (insert_entry name_cmp rs a None) ≡ held_in rs) → (t : Bool) → same_name r.0 a ≡ t
      → same_name r.0 a || has_name (keys_of rs) a ≡ false → (o : Ordering) → name_cmp a r.0 ≡ o
      → held_in (insert_entry name_cmp (r ∷ rs) a None) ≡ with_row r.0 r.1 (held_in rs)
  by_case later true d e o k = absurd (true≢false (rw d at e))
  by_case later false d e Less k = simp k refl
  by_case later false d e Equal k = absurd (true≢false (sym (ap is_eq k) ∙ at_name a r.0 ∙ d))
  by_case later false d e Greater k = simp k (ap (with_row r.0 r.1) (later (rw d at e)))

-- a value put into its row leaves the names
pub keys_set : {X : Type 0} (p : Name → Bool) (x : X) (rs : List (Name × X)) → keys_of (set_value p rs x) ≡ keys_of rs
keys_set p x [] = refl
keys_set {X} p x (r ∷ rs) = by_case (keys_set p x rs) (p r.0) where
  by_case : keys_of (set_value p rs x) ≡ keys_of rs → (t : Bool) → keys_of (cond t ((r.0, x) ∷ rs) (r ∷ set_value p rs x)) ≡ r.0 ∷ keys_of rs
  by_case later true = refl
  by_case later false = ap (λ ns. r.0 ∷ ns) later

-- the names once there is a row for one
pub has_put : {X : Type 0} (a b : Name) (x : X) (rs : List (Name × X)) → has_name (keys_of (insert_entry name_cmp rs a x)) b ≡ same_name a b || has_name (keys_of rs) b
has_put a b x [] = refl
has_put a b x (r ∷ rs) = by_case (has_put a b x rs) (name_cmp a r.0) refl where
  again : (s t : Bool) → s || t ≡ s || (s || t)
  again true t = refl
  again false t = refl

  turned : (s t u : Bool) → t || (s || u) ≡ s || (t || u)
  turned true true u = refl
  turned true false u = refl
  turned false true u = refl
  turned false false u = refl

  by_case : has_name (keys_of (insert_entry name_cmp rs a x)) b ≡ same_name a b || has_name (keys_of rs) b → (o : Ordering) → name_cmp a r.0 ≡ o
      → has_name (keys_of (insert_entry name_cmp (r ∷ rs) a x)) b ≡ same_name a b || (same_name r.0 b || has_name (keys_of rs) b)
  by_case later Less k = simp k refl
  by_case later Equal k =
      let same : r.0 ≡ a = same_is r.0 a (sym (at_name a r.0) ∙ ap is_eq k) in
      simp k (again (same_name r.0 b) (has_name (keys_of rs) b) ∙ ap (λ y. same_name y b || (same_name r.0 b || has_name (keys_of rs) b)) same)
  by_case later Greater k =
      simp k (ap (λ t. same_name r.0 b || t) later ∙ turned (same_name a b) (same_name r.0 b) (has_name (keys_of rs) b))

-- a value whose holder stands before all others goes to the front
pub put_first : {V : Type 0} (a : Name) (v : V) (rs : List (Name × Option V)) → StandBehind a (keys_of rs) → insert_entry name_cmp (held_in rs) a v ≡ (a, v) ∷ held_in rs
put_first a v [] h = refl
put_first {V} a v (r ∷ rs) h = past r.1 (put_first a v rs h.1) where
  past : (o : Option V) → insert_entry name_cmp (held_in rs) a v ≡ (a, v) ∷ held_in rs
      → insert_entry name_cmp (with_row r.0 o (held_in rs)) a v ≡ (a, v) ∷ with_row r.0 o (held_in rs)
  past None e = e
  past (Some w) e = simp h.0 refl

-- a value put into its row
pub put_held : {V : Type 0} (a : Name) (v : V) (rs : List (Name × Option V)) → IsStrictlySortedBy name_cmp (keys_of rs) → has_name (keys_of rs) a ≡ true
    → held_in (set_value (is_at (name_cmp a)) rs (Some v)) ≡ with_value (held_in rs) a v
unfolding IsStrictlySortedBy
put_held a v [] s e = absurd (false≢true e)
put_held {V} a v (r ∷ rs) s e = by_case (put_held a v rs s.1) (same_name r.0 a) refl e r.1 where
  by_case : (has_name (keys_of rs) a ≡ true → held_in (set_value (is_at (name_cmp a)) rs (Some v)) ≡ insert_entry name_cmp (held_in rs) a v)
      → (t : Bool) → same_name r.0 a ≡ t → same_name r.0 a || has_name (keys_of rs) a ≡ true → (o : Option V)
      → held_in (set_value (is_at (name_cmp a)) ((r.0, o) ∷ rs) (Some v)) ≡ insert_entry name_cmp (with_row r.0 o (held_in rs)) a v
  by_case later true d e None =
      simp (at_name a r.0 ∙ d) (ap (λ x. (x, v) ∷ held_in rs) (same_is r.0 a d) ∙ sym (put_first a v rs (behind_same r.0 a (keys_of rs) d s.0)))
  by_case later true d e (Some w) = let k : name_cmp a r.0 ≡ Equal = equal (name_cmp a r.0) (at_name a r.0 ∙ d) in simp k refl where
    equal : (o : Ordering) → is_eq o ≡ true → o ≡ Equal
    equal Less e = absurd (false≢true e)
    equal Equal e = refl
    equal Greater e = absurd (false≢true e)
  by_case later false d e None = simp (at_name a r.0 ∙ d) (later (in_rest r.0 a (keys_of rs) d e))
  by_case later false d e (Some w) =
      let there = in_rest r.0 a (keys_of rs) d e in
      let k : name_cmp a r.0 ≡ Greater = greater a r.0 (behind r.0 a (keys_of rs) s.0 there) in
      simp k (ap (λ hs. (r.0, w) ∷ hs) (later there))

-- none is taken out that is not there
pub none_out : {V : Type 0} (a : Name) (rs : List (Name × Option V)) → StandBehind a (keys_of rs) → without (held_in rs) a ≡ held_in rs
none_out a [] h = refl
none_out {V} a (r ∷ rs) h = past r.1 (none_out a rs h.1) where
  past : (o : Option V) → without (held_in rs) a ≡ held_in rs → without (with_row r.0 o (held_in rs)) a ≡ with_row r.0 o (held_in rs)
  past None e = e
  past (Some w) e = simp (other_than a r.0 h.0) (ap (λ hs. (r.0, w) ∷ hs) e)

-- a row taken out
pub held_out : {V : Type 0} (a : Name) (rs : List (Name × Option V)) → IsStrictlySortedBy name_cmp (keys_of rs)
    → held_in (remove_entry (is_at (name_cmp a)) rs) ≡ without (held_in rs) a
unfolding IsStrictlySortedBy
held_out a [] s = refl
held_out {V} a (r ∷ rs) s = by_case (held_out a rs s.1) (same_name r.0 a) refl r.1 where
  by_case : held_in (remove_entry (is_at (name_cmp a)) rs) ≡ without (held_in rs) a → (t : Bool) → same_name r.0 a ≡ t → (o : Option V)
      → held_in (remove_entry (is_at (name_cmp a)) ((r.0, o) ∷ rs)) ≡ without (with_row r.0 o (held_in rs)) a
  by_case later true d None = simp (at_name a r.0 ∙ d) (sym (none_out a rs (behind_same r.0 a (keys_of rs) d s.0)))
  by_case later true d (Some w) = simp (at_name a r.0 ∙ d, d) (sym (none_out a rs (behind_same r.0 a (keys_of rs) d s.0)))
  by_case later false d None = simp (at_name a r.0 ∙ d) later
  by_case later false d (Some w) = simp (at_name a r.0 ∙ d, d) (ap (λ hs. (r.0, w) ∷ hs) later)

-- a row emptied
pub held_emptied : {V : Type 0} (a : Name) (rs : List (Name × Option V)) → IsStrictlySortedBy name_cmp (keys_of rs)
    → held_in (set_value (is_at (name_cmp a)) rs None) ≡ without (held_in rs) a
unfolding IsStrictlySortedBy
held_emptied a [] s = refl
held_emptied {V} a (r ∷ rs) s = by_case (held_emptied a rs s.1) (same_name r.0 a) refl r.1 where
  by_case : held_in (set_value (is_at (name_cmp a)) rs None) ≡ without (held_in rs) a → (t : Bool) → same_name r.0 a ≡ t → (o : Option V)
      → held_in (set_value (is_at (name_cmp a)) ((r.0, o) ∷ rs) None) ≡ without (with_row r.0 o (held_in rs)) a
  by_case later true d None = simp (at_name a r.0 ∙ d) (sym (none_out a rs (behind_same r.0 a (keys_of rs) d s.0)))
  by_case later true d (Some w) = simp (at_name a r.0 ∙ d, d) (sym (none_out a rs (behind_same r.0 a (keys_of rs) d s.0)))
  by_case later false d None = simp (at_name a r.0 ∙ d) later
  by_case later false d (Some w) = simp (at_name a r.0 ∙ d, d) (ap (λ hs. (r.0, w) ∷ hs) later)

pub room_out : {X : Type 0} (a b : Name) (rs : List (Name × X)) → IsStrictlySortedBy name_cmp (keys_of rs)
    → has_name (keys_of (remove_entry (is_at (name_cmp a)) rs)) b ≡ not (same_name a b) && has_name (keys_of rs) b
unfolding IsStrictlySortedBy
room_out a b [] s = none (not (same_name a b)) where
  none : (t : Bool) → false ≡ t && false
  none true = refl
  none false = refl
room_out a b (r ∷ rs) s = by_case (room_out a b rs s.1) (same_name r.0 a) refl where
  by_case : has_name (keys_of (remove_entry (is_at (name_cmp a)) rs)) b ≡ not (same_name a b) && has_name (keys_of rs) b → (t : Bool) → same_name r.0 a ≡ t
      → has_name (keys_of (remove_entry (is_at (name_cmp a)) (r ∷ rs))) b ≡ not (same_name a b) && (same_name r.0 b || has_name (keys_of rs) b)
  by_case later true d = simp (at_name a r.0 ∙ d) (first_out r.0 a b (keys_of rs) d s.0)
  by_case later false d = simp (at_name a r.0 ∙ d) (ap (λ t. same_name r.0 b || t) later ∙ other_out r.0 a b (has_name (keys_of rs) b) d)

-- rows that pass a test of their names
pub held_kept : {V : Type 0} (p : Name → Bool) (rs : List (Name × Option V)) → held_in (filter (λ r. p r.0) rs) ≡ filter (λ h. p h.0) (held_in rs)
held_kept p [] = refl
held_kept {V} p (r ∷ rs) = by_case (held_kept p rs) (p r.0) refl r.1 where
  by_case : held_in (filter (λ r. p r.0) rs) ≡ filter (λ h. p h.0) (held_in rs) → (t : Bool) → p r.0 ≡ t → (o : Option V)
      → held_in (filter (λ r. p r.0) ((r.0, o) ∷ rs)) ≡ filter (λ h. p h.0) (with_row r.0 o (held_in rs))
  by_case later true d None = simp d later
  by_case later true d (Some w) = simp d (ap (λ hs. (r.0, w) ∷ hs) later)
  by_case later false d None = simp d later
  by_case later false d (Some w) = simp d later

pub room_kept : {X : Type 0} (p : Name → Bool) (rs : List (Name × X)) → keys_of (filter (λ r. p r.0) rs) ≡ filter p (keys_of rs)
room_kept p [] = refl
room_kept p (r ∷ rs) = by_case (room_kept p rs) (p r.0) refl where
  by_case : keys_of (filter (λ r. p r.0) rs) ≡ filter p (keys_of rs) → (t : Bool) → p r.0 ≡ t → keys_of (filter (λ r. p r.0) (r ∷ rs)) ≡ filter p (r.0 ∷ keys_of rs)
  by_case later true d = simp d (ap (λ ns. r.0 ∷ ns) later)
  by_case later false d = simp d later

-- what holds, by a test of names
pub any_held : {V : Type 0} (p : Name → Bool) (rs : List (Name × Option V)) → list_any p (names_of (held_in rs)) ≡ list_any (λ r. is_some r.1 && p r.0) rs
any_held p [] = refl
any_held {V} p (r ∷ rs) = past r.1 (any_held p rs) where
  past : (o : Option V) → list_any p (names_of (held_in rs)) ≡ list_any (λ r. is_some r.1 && p r.0) rs
      → list_any p (names_of (with_row r.0 o (held_in rs))) ≡ (is_some o && p r.0) || list_any (λ r. is_some r.1 && p r.0) rs
  past None e = e
  past (Some w) e = ap (λ t. p r.0 || t) e

-- one that passes stands behind some others
pub any_here : {X : Type 0} (q : X → Bool) (xs : List X) (x : X) (rest : List X) → q x ≡ true → list_any q (xs ++ x ∷ rest) ≡ true
any_here q [] x rest e = rw e refl
any_here q (y ∷ xs) x rest e = or (q y) (any_here q xs x rest e) where
  or : (s : Bool) {t : Bool} → t ≡ true → s || t ≡ true
  or true e = refl
  or false e = e

-- one more that does not pass
pub any_more : {A X : Type 0} (shows : A → X) (q : X → Bool) (xs : List A) (x : A) → list_any q (map shows xs) ≡ false → q (shows x) ≡ false
    → list_any q (map shows (xs ++ x ∷ [])) ≡ false
any_more shows q [] x e d = rw d refl
any_more shows q (y ∷ xs) x e d = by_case (any_more shows q xs x) (q (shows y)) refl e where
  by_case : (list_any q (map shows xs) ≡ false → q (shows x) ≡ false → list_any q (map shows (xs ++ x ∷ [])) ≡ false) → (t : Bool) → q (shows y) ≡ t
      → q (shows y) || list_any q (map shows xs) ≡ false → q (shows y) || list_any q (map shows (xs ++ x ∷ [])) ≡ false
  by_case later true k e = absurd (true≢false (rw k at e))
  by_case later false k e = rw k (later (rw k at e) d)

-- what one more row holds
pub held_more : {A V : Type 0} (shows : A → Name × Option V) (xs : List A) (x : A)
    → held_in (map shows (xs ++ x ∷ [])) ≡ held_in (map shows xs) ++ with_row (shows x).0 (shows x).1 []
held_more shows [] x = refl
held_more {A} {V} shows (y ∷ xs) x = past (shows y).1 (held_more shows xs x) where
  past : (o : Option V) → held_in (map shows (xs ++ x ∷ [])) ≡ held_in (map shows xs) ++ with_row (shows x).0 (shows x).1 []
      → with_row (shows y).0 o (held_in (map shows (xs ++ x ∷ []))) ≡ with_row (shows y).0 o (held_in (map shows xs)) ++ with_row (shows x).0 (shows x).1 []
  past None e = e
  past (Some v) e = ap (λ hs. ((shows y).0, v) ∷ hs) e

-- those that hold stand in the order of their rows
pub held_behind : {V : Type 0} (a : Name) (rs : List (Name × Option V)) → StandBehind a (keys_of rs) → StandBehind a (names_of (held_in rs))
held_behind a [] h = h
held_behind {V} a (r ∷ rs) h = past r.1 (held_behind a rs h.1) where
  past : (o : Option V) → StandBehind a (names_of (held_in rs)) → StandBehind a (names_of (with_row r.0 o (held_in rs)))
  past None k = k
  past (Some v) k = (h.0, k)

pub held_sorted : {V : Type 0} (rs : List (Name × Option V)) → IsStrictlySortedBy name_cmp (keys_of rs) → IsStrictlySortedBy name_cmp (names_of (held_in rs))
unfolding IsStrictlySortedBy
held_sorted [] s = s
held_sorted {V} (r ∷ rs) s = past r.1 (held_sorted rs s.1) where
  past : (o : Option V) → IsStrictlySortedBy name_cmp (names_of (held_in rs)) → IsStrictlySortedBy name_cmp (names_of (with_row r.0 o (held_in rs)))
  past None k = k
  past (Some v) k = (held_behind r.0 rs s.0, k)

-- one more row that holds, and one that is empty
pub names_more : {A V : Type 0} (shows : A → Name × Option V) (xs : List A) (x : A) → is_some (shows x).1 ≡ true
    → names_of (held_in (map shows (xs ++ x ∷ []))) ≡ names_of (held_in (map shows xs)) ++ (shows x).0 ∷ []
names_more {A} {V} shows [] x e = by_row (shows x).1 e where
  by_row : (o : Option V) → is_some o ≡ true → names_of (with_row (shows x).0 o []) ≡ (shows x).0 ∷ []
  by_row None e = absurd (false≢true e)
  by_row (Some v) e = refl
names_more {A} {V} shows (y ∷ xs) x e = past (shows y).1 (names_more shows xs x e) where
  past : (o : Option V) → names_of (held_in (map shows (xs ++ x ∷ []))) ≡ names_of (held_in (map shows xs)) ++ (shows x).0 ∷ []
      → names_of (with_row (shows y).0 o (held_in (map shows (xs ++ x ∷ [])))) ≡ names_of (with_row (shows y).0 o (held_in (map shows xs))) ++ (shows x).0 ∷ []
  past None k = k
  past (Some v) k = ap (λ ns. (shows y).0 ∷ ns) k

pub names_same : {A V : Type 0} (shows : A → Name × Option V) (xs : List A) (x : A) → is_some (shows x).1 ≡ false
    → names_of (held_in (map shows (xs ++ x ∷ []))) ≡ names_of (held_in (map shows xs))
names_same {A} {V} shows [] x e = by_row (shows x).1 e where
  by_row : (o : Option V) → is_some o ≡ false → names_of (with_row (shows x).0 o []) ≡ []
  by_row None e = refl
  by_row (Some v) e = absurd (true≢false e)
names_same {A} {V} shows (y ∷ xs) x e = past (shows y).1 (names_same shows xs x e) where
  past : (o : Option V) → names_of (held_in (map shows (xs ++ x ∷ []))) ≡ names_of (held_in (map shows xs))
      → names_of (with_row (shows y).0 o (held_in (map shows (xs ++ x ∷ [])))) ≡ names_of (with_row (shows y).0 o (held_in (map shows xs)))
  past None k = k
  past (Some v) k = ap (λ ns. (shows y).0 ∷ ns) k

pub has_end : (ns : List Name) (n b : Name) → has_name (ns ++ n ∷ []) b ≡ has_name ns b || same_name n b
has_end [] n b = last (same_name n b) where
  last : (t : Bool) → t || false ≡ t
  last true = refl
  last false = refl
has_end (m ∷ ns) n b = ap (λ t. same_name m b || t) (has_end ns n b) ∙ grouped (same_name m b) (has_name ns b) (same_name n b) where
  grouped : (s t u : Bool) → s || (t || u) ≡ (s || t) || u
  grouped true t u = refl
  grouped false t u = refl

-- whether b is foreign is told by a holder of the same name
pub foreign_as : (a b holder : Name) (t : Bool) → not (is_ancestor holder a) ≡ t → same_name holder b ≡ true → not (is_ancestor b a) ≡ t
foreign_as a b holder t e same = subst (λ x. not (is_ancestor x a) ≡ t) (same_is holder b same) e

-- what a set of names has once a foreign holder was added
pub added : {A V : Type 0} (shows : A → Name × Option V) (xs : List A) (x : A) (a b : Name) (now before : Bool)
    → now ≡ before || (not (is_ancestor b a) && has_name (names_of (held_in (map shows xs))) b) → is_some (shows x).1 && not (is_ancestor (shows x).0 a) ≡ true
    → same_name (shows x).0 b || now ≡ before || (not (is_ancestor b a) && has_name (names_of (held_in (map shows (xs ++ x ∷ [])))) b)
added {A} {V} shows xs x a b now before e d = by_case (is_some (shows x).1) refl d where
  taken : (foreign seen same : Bool) → now ≡ before || (foreign && seen) → (same ≡ true → foreign ≡ true) → same || now ≡ before || (foreign && (seen || same))
  taken false seen true e h = absurd (false≢true (h refl))
  taken true true true e h = or before where
    or : (t : Bool) → true ≡ t || true
    or true = refl
    or false = refl
  taken true false true e h = or before where
    or : (t : Bool) → true ≡ t || true
    or true = refl
    or false = refl
  taken true true false e h = e
  taken true false false e h = e
  taken false seen false e h = e

  by_case : (t : Bool) → is_some (shows x).1 ≡ t → is_some (shows x).1 && not (is_ancestor (shows x).0 a) ≡ true
      → same_name (shows x).0 b || now ≡ before || (not (is_ancestor b a) && has_name (names_of (held_in (map shows (xs ++ x ∷ [])))) b)
  by_case false k d = absurd (false≢true (rw k at d))
  by_case true k d =
      taken (not (is_ancestor b a)) (has_name (names_of (held_in (map shows xs))) b) (same_name (shows x).0 b) e (foreign_as a b (shows x).0 true (rw k at d))
      ∙ ap (λ t. before || (not (is_ancestor b a) && t)) (sym (ap (λ ns. has_name ns b) (names_more shows xs x k) ∙ has_end (names_of (held_in (map shows xs))) (shows x).0 b))

-- the same where the row is empty, or its holder an ancestor
pub passed_over : {A V : Type 0} (shows : A → Name × Option V) (xs : List A) (x : A) (a b : Name) (now before : Bool)
    → now ≡ before || (not (is_ancestor b a) && has_name (names_of (held_in (map shows xs))) b) → is_some (shows x).1 && not (is_ancestor (shows x).0 a) ≡ false
    → now ≡ before || (not (is_ancestor b a) && has_name (names_of (held_in (map shows (xs ++ x ∷ [])))) b)
passed_over {A} {V} shows xs x a b now before e d = by_case (is_some (shows x).1) refl d where
  skipped : (foreign seen same : Bool) → now ≡ before || (foreign && seen) → (same ≡ true → foreign ≡ false) → now ≡ before || (foreign && (seen || same))
  skipped false seen same e h = e
  skipped true seen true e h = absurd (true≢false (h refl))
  skipped true true false e h = e
  skipped true false false e h = e

  by_case : (t : Bool) → is_some (shows x).1 ≡ t → is_some (shows x).1 && not (is_ancestor (shows x).0 a) ≡ false
      → now ≡ before || (not (is_ancestor b a) && has_name (names_of (held_in (map shows (xs ++ x ∷ [])))) b)
  by_case false k d = e ∙ ap (λ ns. before || (not (is_ancestor b a) && has_name ns b)) (sym (names_same shows xs x k))
  by_case true k d =
      skipped (not (is_ancestor b a)) (has_name (names_of (held_in (map shows xs))) b) (same_name (shows x).0 b) e (foreign_as a b (shows x).0 false (rw k at d))
      ∙ ap (λ t. before || (not (is_ancestor b a) && t)) (sym (ap (λ ns. has_name ns b) (names_more shows xs x k) ∙ has_end (names_of (held_in (map shows xs))) (shows x).0 b))

-- ---- what calls leave

pub out_held : {V : Type 0} (s : Rows V) (rs new : List (Name × Option V)) (a : Name) → shown rs ≡ s → IsStrictlySortedBy name_cmp (keys_of rs)
    → new ≡ remove_entry (is_at (name_cmp a)) rs → held_in new ≡ without s.held a
out_held {V} s rs new a e k q = ap held_in q ∙ held_out a rs k ∙ ap (λ (x : Rows V). without x.held a) e

pub out_room : {V : Type 0} (s : Rows V) (rs new : List (Name × Option V)) (a b : Name) → shown rs ≡ s → IsStrictlySortedBy name_cmp (keys_of rs)
    → new ≡ remove_entry (is_at (name_cmp a)) rs → has_name (keys_of new) b ≡ not (same_name a b) && has_name s.room b
out_room {V} s rs new a b e k q =
    ap (λ (ns : List (Name × Option V)). has_name (keys_of ns) b) q ∙ room_out a b rs k ∙ ap (λ (x : Rows V). not (same_name a b) && has_name x.room b) e

pub more_held : {V : Type 0} (s : Rows V) (rs new : List (Name × Option V)) (a n : Name) → shown rs ≡ s → n ≡ a
    → is_some (lookup (is_at (name_cmp a)) rs) ≡ false → new ≡ insert_entry name_cmp rs n None → held_in new ≡ s.held
more_held {V} s rs new a n e same none q =
    ap held_in (q ∙ ap (λ x. insert_entry name_cmp rs x None) same) ∙ room_held a rs (sym (has_row a rs) ∙ none) ∙ ap (λ (x : Rows V). x.held) e

pub more_room : {V : Type 0} (s : Rows V) (rs new : List (Name × Option V)) (a n b : Name) → shown rs ≡ s → n ≡ a
    → new ≡ insert_entry name_cmp rs n None → has_name (keys_of new) b ≡ same_name a b || has_name s.room b
more_room {V} s rs new a n b e same q =
    ap (λ (ns : List (Name × Option V)). has_name (keys_of ns) b) (q ∙ ap (λ x. insert_entry name_cmp rs x None) same) ∙ has_put a b None rs
    ∙ ap (λ (x : Rows V). same_name a b || has_name x.room b) e

-- a name that was put among the others
pub has_insert : (a b : Name) (ns : List Name) → has_name (insert_key name_cmp ns a) b ≡ same_name a b || has_name ns b
has_insert a b [] = refl
has_insert a b (n ∷ ns) = by_case (has_insert a b ns) (name_cmp a n) refl where
  again : (s r : Bool) → s || r ≡ s || (s || r)
  again true r = refl
  again false r = refl

  turned : (s t r : Bool) → t || (s || r) ≡ s || (t || r)
  turned true true r = refl
  turned true false r = refl
  turned false true r = refl
  turned false false r = refl

  by_case : has_name (insert_key name_cmp ns a) b ≡ same_name a b || has_name ns b → (o : Ordering) → name_cmp a n ≡ o
      → has_name (insert_key name_cmp (n ∷ ns) a) b ≡ same_name a b || (same_name n b || has_name ns b)
  by_case later Less k = simp k refl
  by_case later Equal k =
      let same : n ≡ a = same_is n a (sym (at_name a n) ∙ ap is_eq k) in
      simp k (ap (λ x. same_name x b || has_name ns b) same ∙ again (same_name a b) (has_name ns b)
      ∙ ap (λ x. same_name a b || (same_name x b || has_name ns b)) (sym same))
  by_case later Greater k =
      simp k (ap (λ t. same_name n b || t) later ∙ turned (same_name a b) (same_name n b) (has_name ns b))

-- a value was put into its row
pub put_in : {V : Type 0} (s : Rows V) (rs new : List (Name × Option V)) (a : Name) (v : V) → shown rs ≡ s → IsStrictlySortedBy name_cmp (keys_of rs)
    → has_name s.room a ≡ true → new ≡ set_value (is_at (name_cmp a)) rs (Some v) → held_in new ≡ with_value s.held a v
put_in {V} s rs new a v e k there q =
    ap held_in q ∙ put_held a v rs k (ap (λ (x : Rows V). has_name x.room a) e ∙ there) ∙ ap (λ (x : Rows V). with_value x.held a v) e

-- a row was emptied
pub emptied_in : {V : Type 0} (s : Rows V) (rs new : List (Name × Option V)) (a : Name) → shown rs ≡ s → IsStrictlySortedBy name_cmp (keys_of rs)
    → new ≡ set_value (is_at (name_cmp a)) rs None → held_in new ≡ without s.held a
emptied_in {V} s rs new a e k q = ap held_in q ∙ held_emptied a rs k ∙ ap (λ (x : Rows V). without x.held a) e

-- a name for which there is room has a row
pub no_row : {V : Type 0} (s : Rows V) (rs : List (Name × Option V)) (a : Name) → shown rs ≡ s → has_name s.room a ≡ true
    → None ≡ lookup (is_at (name_cmp a)) rs → true ≡ false
no_row {V} s rs a e there none = sym (ap is_some none ∙ has_row a rs ∙ ap (λ (x : Rows V). has_name x.room a) e ∙ there)

-- rows that pass a test of their names
pub kept_held : {V : Type 0} (s : Rows V) (rs new : List (Name × Option V)) (p : Name → Bool) → shown rs ≡ s → new ≡ filter (λ r. p r.0) rs
    → held_in new ≡ filter (λ h. p h.0) s.held
kept_held {V} s rs new p e q = ap held_in q ∙ held_kept p rs ∙ ap (λ (x : Rows V). filter (λ h. p h.0) x.held) e

pub kept_room : {V : Type 0} (s : Rows V) (rs new : List (Name × Option V)) (p : Name → Bool) → shown rs ≡ s → new ≡ filter (λ r. p r.0) rs
    → keys_of new ≡ filter p s.room
kept_room {V} s rs new p e q = ap (λ (x : List (Name × Option V)). keys_of x) q ∙ room_kept p rs ∙ ap (λ (x : Rows V). filter p x.room) e

pub kept_sorted : {X : Type 0} (rs new : List (Name × X)) (p : Name → Bool) → IsStrictlySortedBy name_cmp (keys_of rs) → new ≡ filter (λ r. p r.0) rs
    → IsStrictlySortedBy name_cmp (keys_of new)
kept_sorted {X} rs new p s q =
    subst (IsStrictlySortedBy name_cmp) (sym (ap (λ (x : List (Name × X)). keys_of x) q ∙ room_kept p rs)) (IsStrictlySortedBy-filter name_cmp p (keys_of rs) s)

-- a name that has a row
pub there_again : {V : Type 0} (s : Rows V) (rs : List (Name × Option V)) (a b : Name) → shown rs ≡ s → is_some (lookup (is_at (name_cmp a)) rs) ≡ true
    → has_name s.room b ≡ same_name a b || has_name s.room b
there_again {V} s rs a b e there = known a b s.room (sym (ap (λ (x : Rows V). has_name x.room a) e) ∙ sym (has_row a rs) ∙ there)

-- the rows behind others, in order
pub copied_row : {X : Type 0} (before : List (Name × X)) (a : Name) (o : X) (rest : List (Name × X))
    → IsStrictlySortedBy name_cmp (keys_of (before ++ (a, o) ∷ rest)) → insert_entry name_cmp before a o ≡ before ++ (a, o) ∷ []
unfolding IsStrictlySortedBy
copied_row [] a o rest s = refl
copied_row {X} (r ∷ rs) a o rest s =
    let above : name_cmp a r.0 ≡ Greater = greater a r.0 (first rs s.0) in
    simp above (ap (λ ks. r ∷ ks) (copied_row rs a o rest s.1)) where
      first : (rs : List (Name × X)) → StandBehind r.0 (keys_of (rs ++ (a, o) ∷ rest)) → name_cmp r.0 a ≡ Less
      first [] h = h.0
      first (q ∷ rs) h = first rs h.1
