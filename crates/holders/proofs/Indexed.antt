-- Rows that are found by a hash, in the order of their names.
use Rattle.std.proofs.Common.{◌≡◌, Bool, true, false, cond, ◌&&◌, ◌||◌, List, [], ◌∷◌, length, refl, sym, ap, ◌∙◌, arith}
use Rattle.std.specs.Prelude.{Option, Some, None, is_some, unwrap_or, T}
use Rattle.std.proofs.lemmas.Bool.{false≢true}
use Rattle.std.proofs.lemmas.Map.Steps.{set_value_same}
use Rattle.std.specs.FinMap as map
use Rattle.std.specs.FinMap.Entries.{find, put, is_sorted, below_all, by_order}
use Rattle.std.specs.List.Sorted.{IsStrictlySortedBy}
use Rattle.std.specs.Ordering.{is_eq, is_lt, eq_by_cmp, match_ordering}
use Rattle.std.specs.declared.cmp.Ordering.{Ordering}
use Rattle.std.specs.declared.cmp.Ordering.TheVariants.{Less, Equal, Greater}
use Rattle.std.specs.BTreeMap.{is_at, insert_entry}
use Rattle.std.specs.Map.{keys_of, lookup, set_value}
use Rattle.action_names.specs.Names.{Name, same_name, has_name, name_cmp}
use Rattle.action_names.specs.Comparison.{same_name-ties, same_name-equivalence, name_cmp-total}
use Rattle.action_names.proofs.Ancestry.{same_is}
use Rattle.holders.specs.Held.{Rows, value_at, with_value, held_in}
use Rattle.holders.specs.Indexed.{ordered}
use Rattle.holders.proofs.Sorted.{at_name, StandBehind, behind, greater, in_rest}
use Rattle.holders.proofs.Rows.{flat, shown, found_at, room_held, has_put, put_in, has_row, keys_set}

-- ---- in order

holds : (b : Bool) → T b → b ≡ true
holds true h = refl
holds false h = absurd h

both : (s t : Bool) → s && t ≡ true → (s ≡ true) × (t ≡ true)
both true t h = (refl, h)
both false t h = absurd (false≢true h)

less : (o : Ordering) → is_lt o ≡ true → o ≡ Less
less Less h = refl
less Equal h = absurd (false≢true h)
less Greater h = absurd (false≢true h)

behind_all : {X : Type 0} (a : Name) (rs : List (Name × X)) → below_all name_cmp a rs ≡ true → StandBehind a (keys_of rs)
behind_all a [] h = tt
behind_all a (r ∷ rs) h =
    let p = both (is_lt (name_cmp a r.0)) (below_all name_cmp a rs) h in
    (less (name_cmp a r.0) p.0, behind_all a rs p.1)

sorted_of : {X : Type 0} (rs : List (Name × X)) → is_sorted name_cmp rs ≡ true → IsStrictlySortedBy name_cmp (keys_of rs)
unfolding IsStrictlySortedBy
sorted_of [] h = tt
sorted_of (r ∷ rs) h =
    let p = both (below_all name_cmp r.0 rs) (is_sorted name_cmp rs) h in
    (behind_all r.0 rs p.0, sorted_of rs p.1)

pub ordered_sorted : {X : Type 0} (rs : List (Name × X)) → IsStrictlySortedBy name_cmp (keys_of (ordered rs))
ordered_sorted rs = sorted_of (ordered rs) (holds (is_sorted name_cmp (ordered rs)) (map.entries_sorted (map.from_entries {R = name_cmp} rs)))

-- ---- found

find_lookup : {X : Type 0} (rs : List (Name × X)) (a : Name) → find name_cmp a rs ≡ lookup (same_name a) rs
find_lookup [] a = refl
find_lookup (r ∷ rs) a =
    ap (λ t. cond t (Some r.1) (find name_cmp a rs)) (sym (same_name-ties a r.0)) ∙ ap (cond (same_name a r.0) (Some r.1)) (find_lookup rs a)

find_at : {X : Type 0} (rs : List (Name × X)) (a : Name) → find name_cmp a rs ≡ lookup (is_at (name_cmp a)) rs
find_at [] a = refl
find_at (r ∷ rs) a = ap (cond (eq_by_cmp name_cmp a r.0) (Some r.1)) (find_at rs a)

in_map : {X : Type 0} (rs : List (Name × X)) (a : Name) → map.get (map.from_entries {R = name_cmp} rs) a ≡ lookup (same_name a) rs
in_map rs a = map.get-from_entries name_cmp-total rs a ∙ find_lookup rs a

-- a row is found by the hash of its name where it is found in order
pub found : {X : Type 0} (rs : List (Name × X)) (a : Name) → lookup (same_name a) rs ≡ lookup (is_at (name_cmp a)) (ordered rs)
found rs a =
    sym (in_map rs a) ∙ map.get-entries (map.from_entries {R = name_cmp} rs) a ∙ find_at (ordered rs) a

-- ---- put

apart : map.IsAntisymmetric name_cmp
apart a b e = same_is a b (same_name-ties a b ∙ ap is_eq e)

put_insert : {X : Type 0} (a : Name) (x : X) (rs : List (Name × X)) → put name_cmp a x rs ≡ insert_entry name_cmp rs a x
put_insert a x [] = refl
put_insert {X} a x (r ∷ rs) = by_case (put_insert a x rs) (name_cmp a r.0) where
  by_case : put name_cmp a x rs ≡ insert_entry name_cmp rs a x → (o : Ordering)
      → by_order o ((a, x) ∷ r ∷ rs) ((r.0, x) ∷ rs) (r ∷ put name_cmp a x rs)
      ≡ match_ordering o ((a, x) ∷ r ∷ rs) ((r.0, x) ∷ rs) (r ∷ insert_entry name_cmp rs a x)
  by_case later Less = refl
  by_case later Equal = refl
  by_case later Greater = ap (λ s. r ∷ s) later

-- the rows are those before, but for the row of one name
pub put_one : {X : Type 0} (rs new : List (Name × X)) (a : Name) (x : X)
    → ((b : Name) → lookup (same_name b) new ≡ cond (same_name a b) (Some x) (lookup (same_name b) rs)) → ordered new ≡ insert_entry name_cmp (ordered rs) a x
put_one rs new a x is =
    ap map.entries same ∙ map.entries-insert name_cmp-total (map.from_entries {R = name_cmp} rs) a x ∙ put_insert a x (ordered rs) where
      each : (b : Name) → map.get (map.from_entries {R = name_cmp} new) b ≡ map.get (map.insert (map.from_entries {R = name_cmp} rs) a x) b
      each b =
          in_map new b ∙ is b
          ∙ ap (λ t. cond t (Some x) (lookup (same_name b) rs)) (same_name-equivalence.symm a b ∙ same_name-ties b a)
          ∙ ap (cond (eq_by_cmp name_cmp b a) (Some x)) (sym (in_map rs b))
          ∙ sym (map.get-insert name_cmp-total (map.from_entries {R = name_cmp} rs) a x b)

      same : map.from_entries {R = name_cmp} new ≡ map.insert (map.from_entries {R = name_cmp} rs) a x
      same = map.same_map name_cmp-total apart _ _ each

-- where the name has a row already, that row changes
insert_set : {X : Type 0} (a : Name) (x : X) (rs : List (Name × X)) → IsStrictlySortedBy name_cmp (keys_of rs) → has_name (keys_of rs) a ≡ true
    → insert_entry name_cmp rs a x ≡ set_value (is_at (name_cmp a)) rs x
unfolding IsStrictlySortedBy
insert_set a x [] s h = absurd (false≢true h)
insert_set {X} a x (r ∷ rs) s h = by_case (insert_set a x rs s.1) (same_name r.0 a) refl h where
  equal : (o : Ordering) → is_eq o ≡ true → o ≡ Equal
  equal Less e = absurd (false≢true e)
  equal Equal e = refl
  equal Greater e = absurd (false≢true e)

  by_case : (has_name (keys_of rs) a ≡ true → insert_entry name_cmp rs a x ≡ set_value (is_at (name_cmp a)) rs x) → (t : Bool) → same_name r.0 a ≡ t
      → same_name r.0 a || has_name (keys_of rs) a ≡ true → insert_entry name_cmp (r ∷ rs) a x ≡ set_value (is_at (name_cmp a)) (r ∷ rs) x
  by_case later true d e = let k : name_cmp a r.0 ≡ Equal = equal (name_cmp a r.0) (at_name a r.0 ∙ d) in simp k refl
  by_case later false d e =
      let there = in_rest r.0 a (keys_of rs) d e in
      let k : name_cmp a r.0 ≡ Greater = greater a r.0 (behind r.0 a (keys_of rs) s.0 there) in
      simp k (ap (λ s. r ∷ s) (later there))

pub set_one : {X : Type 0} (rs new : List (Name × X)) (a : Name) (x : X) → has_name (keys_of (ordered rs)) a ≡ true
    → ((b : Name) → lookup (same_name b) new ≡ cond (same_name a b) (Some x) (lookup (same_name b) rs)) → ordered new ≡ set_value (is_at (name_cmp a)) (ordered rs) x
set_one rs new a x there is = put_one rs new a x is ∙ insert_set a x (ordered rs) (ordered_sorted rs) there

-- ---- what calls leave

none_long : {X : Type 0} (rs : List X) → length rs ≡ 0 → rs ≡ []
none_long [] e = refl
none_long (r ∷ rs) e = absurd (omega arith)

pub ordered_none : {X : Type 0} → ordered {X = X} [] ≡ []
ordered_none {X} = none_long (map.entries map.empty) (sym (map.len-entries map.empty) ∙ map.len-empty name_cmp X)

-- a name has a row where it is found
pub found_row : {X : Type 0} (rs : List (Name × X)) (a : Name) → is_some (lookup (same_name a) rs) ≡ is_some (lookup (is_at (name_cmp a)) (ordered rs))
found_row rs a = ap is_some (found rs a)

pub there_row : {V : Type 0} (s : Rows V) (rs : List (Name × Option V)) (a : Name) → shown (ordered rs) ≡ s → has_name s.room a ≡ true
    → is_some (lookup (same_name a) rs) ≡ true
there_row {V} s rs a e there = found_row rs a ∙ has_row a (ordered rs) ∙ ap (λ (x : Rows V). has_name x.room a) e ∙ there

-- a value was put into its row
pub put_in_index : {V : Type 0} (s : Rows V) (rs new : List (Name × Option V)) (a : Name) (v : V) → shown (ordered rs) ≡ s → has_name s.room a ≡ true
    → ((b : Name) → lookup (same_name b) new ≡ cond (same_name a b) (Some (Some v)) (lookup (same_name b) rs))
    → (held_in (ordered new) ≡ with_value s.held a v) × (keys_of (ordered new) ≡ s.room)
put_in_index {V} s rs new a v e there is = (
  put_in s (ordered rs) (ordered new) a v e (ordered_sorted rs) there set,
  ap keys_of set ∙ keys_set (is_at (name_cmp a)) (Some v) (ordered rs) ∙ ap (λ (x : Rows V). x.room) e,
) where
  set : ordered new ≡ set_value (is_at (name_cmp a)) (ordered rs) (Some v)
  set = set_one rs new a (Some v) (ap (λ (x : Rows V). has_name x.room a) e ∙ there) is

-- ---- room

-- what a name holds, by its row
flat_or : {V : Type 0} (o : Option (Option V)) → unwrap_or o None ≡ flat o
flat_or None = refl
flat_or (Some o) = refl

pub value_in_index : {V : Type 0} (s : Rows V) (rs : List (Name × Option V)) (a n : Name) (o : Option (Option V)) → shown (ordered rs) ≡ s → n ≡ a
    → o ≡ lookup (same_name n) rs → unwrap_or o None ≡ value_at s.held a
value_in_index s rs a n o e same q =
    flat_or o ∙ found_at s (ordered rs) n e (ordered_sorted rs) o (q ∙ found rs n) ∙ ap (value_at s.held) same

-- a row that was there stays, and one that was not is empty, so that all hold what they held
pub held_in_index : {V : Type 0} (s : Rows V) (rs new : List (Name × Option V)) (n : Name) (o : Option (Option V)) → shown (ordered rs) ≡ s
    → o ≡ lookup (same_name n) rs → ((b : Name) → lookup (same_name b) new ≡ cond (same_name n b) (Some (unwrap_or o None)) (lookup (same_name b) rs))
    → held_in (ordered new) ≡ s.held
held_in_index {V} s rs new n o e q is = by_case o q is ∙ ap (λ (x : Rows V). x.held) e where
  there : (o : Option (Option V)) → o ≡ lookup (same_name n) rs → has_name (keys_of (ordered rs)) n ≡ is_some o
  there o q = sym (has_row n (ordered rs)) ∙ sym (found_row rs n) ∙ sym (ap is_some q)

  by_case : (o : Option (Option V)) → o ≡ lookup (same_name n) rs
      → ((b : Name) → lookup (same_name b) new ≡ cond (same_name n b) (Some (unwrap_or o None)) (lookup (same_name b) rs))
      → held_in (ordered new) ≡ held_in (ordered rs)
  by_case None q is = ap held_in (put_one rs new n None is) ∙ room_held n (ordered rs) (there None q)
  by_case (Some o) q is = ap held_in
      (set_one rs new n o (there (Some o) q) is ∙ set_value_same (is_at (name_cmp n)) (ordered rs) o (sym (q ∙ found rs n)))

pub room_in_index : {V : Type 0} (s : Rows V) (rs new : List (Name × Option V)) (a n b : Name) (x : Option V) → shown (ordered rs) ≡ s → n ≡ a
    → ((b : Name) → lookup (same_name b) new ≡ cond (same_name n b) (Some x) (lookup (same_name b) rs))
    → has_name (keys_of (ordered new)) b ≡ same_name a b || has_name s.room b
room_in_index {V} s rs new a n b x e same is =
    ap (λ (ns : List (Name × Option V)). has_name (keys_of ns) b) (put_one rs new n x is) ∙ has_put n b x (ordered rs)
    ∙ ap (λ (y : Rows V). same_name n b || has_name y.room b) e ∙ ap (λ (m : Name). same_name m b || has_name s.room b) same
