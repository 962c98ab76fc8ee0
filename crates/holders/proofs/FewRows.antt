-- Rows by name in a vector, of which some are empty.
use Rattle.std.proofs.Common.{◌≡◌, ℕ, ◌+◌, ◌<◌, Bool, true, false, not, ◌&&◌, ◌||◌, drop, take, List, [], ◌∷◌, ◌++◌, length, get_or, refl, sym, ap, ◌∙◌, subst}
use Rattle.std.specs.Prelude.{Option, Some, None, is_some, Result, Ok, Err, OnOk, OnErr, cond}
use Rattle.std.proofs.lemmas.Bool.{true≢false, false≢true}
use Rattle.std.proofs.lemmas.List.{append_assoc, take-append-drop, take_more}
use Rattle.std.specs.List.Sorted.{IsStrictlySortedBy}
use Rattle.std.specs.BTreeMap.{insert_entry}
use Rattle.std.specs.Map.{keys_of}
use Rattle.action_names.specs.Names.{Name, same_name, has_name, name_cmp, is_ancestor}
use Rattle.holders.specs.Held.{Rows, names_of, with_row, held_in, HasMoreRoom}
use Rattle.holders.proofs.Sorted.{known}
use Rattle.holders.proofs.Rows.{copied_row, foreign_as, has_end, has_put, room_held, shown}

-- one more of the first rows
pub next_row : {X : Type 0} (xs : List X) (i : ℕ) (x : X) → i < length xs → x ≡ get_or xs i x → take (i + 1) xs ≡ take i xs ++ x ∷ []
next_row xs i x lt is = take_more xs i x lt ∙ ap (λ y. take i xs ++ y ∷ []) (sym is)

-- what one more row holds
pub held_more : {V : Type 0} (xs : List (Name × Option V)) (x : Name × Option V) → held_in (xs ++ x ∷ []) ≡ held_in xs ++ with_row x.0 x.1 []
held_more [] x = refl
held_more {V} (y ∷ xs) x = past y.1 (held_more xs x) where
  past : (o : Option V) → held_in (xs ++ x ∷ []) ≡ held_in xs ++ with_row x.0 x.1 []
      → with_row y.0 o (held_in (xs ++ x ∷ [])) ≡ with_row y.0 o (held_in xs) ++ with_row x.0 x.1 []
  past None e = e
  past (Some v) e = ap (λ hs. (y.0, v) ∷ hs) e

-- one more row that holds, and one that is empty
pub names_more : {V : Type 0} (xs : List (Name × Option V)) (x : Name × Option V) → is_some x.1 ≡ true
    → names_of (held_in (xs ++ x ∷ [])) ≡ names_of (held_in xs) ++ x.0 ∷ []
names_more {V} [] x e = by_row x.1 e where
  by_row : (o : Option V) → is_some o ≡ true → names_of (with_row x.0 o []) ≡ x.0 ∷ []
  by_row None e = absurd (false≢true e)
  by_row (Some v) e = refl
names_more {V} (y ∷ xs) x e = past y.1 (names_more xs x e) where
  past : (o : Option V) → names_of (held_in (xs ++ x ∷ [])) ≡ names_of (held_in xs) ++ x.0 ∷ []
      → names_of (with_row y.0 o (held_in (xs ++ x ∷ []))) ≡ names_of (with_row y.0 o (held_in xs)) ++ x.0 ∷ []
  past None k = k
  past (Some v) k = ap (λ ns. y.0 ∷ ns) k

pub names_same : {V : Type 0} (xs : List (Name × Option V)) (x : Name × Option V) → is_some x.1 ≡ false
    → names_of (held_in (xs ++ x ∷ [])) ≡ names_of (held_in xs)
names_same {V} [] x e = by_row x.1 e where
  by_row : (o : Option V) → is_some o ≡ false → names_of (with_row x.0 o []) ≡ []
  by_row None e = refl
  by_row (Some v) e = absurd (true≢false e)
names_same {V} (y ∷ xs) x e = past y.1 (names_same xs x e) where
  past : (o : Option V) → names_of (held_in (xs ++ x ∷ [])) ≡ names_of (held_in xs)
      → names_of (with_row y.0 o (held_in (xs ++ x ∷ []))) ≡ names_of (with_row y.0 o (held_in xs))
  past None k = k
  past (Some v) k = ap (λ ns. y.0 ∷ ns) k

-- what a set of names has once a foreign holder was added
pub added : {V : Type 0} (xs : List (Name × Option V)) (x : Name × Option V) (a b : Name) (now before : Bool)
    → now ≡ before || (not (is_ancestor b a) && has_name (names_of (held_in xs)) b) → is_some x.1 && not (is_ancestor x.0 a) ≡ true
    → same_name x.0 b || now ≡ before || (not (is_ancestor b a) && has_name (names_of (held_in (xs ++ x ∷ []))) b)
added {V} xs x a b now before e d = by_case (is_some x.1) refl d where
  taken : (foreign seen same : Bool) → now ≡ before || (foreign && seen) → (same ≡ true → foreign ≡ true) → same || now ≡ before || (foreign && (seen || same))
  taken false seen true e h = absurd (false≢true (h refl))
  taken true true true e h = or before where
    or : (t : Bool) → true ≡ t || true
    or true = refl
    or false = refl
  taken true false true e h = or before where
    or : (t : Bool) → true ≡ t || true
    or true = refl
    or false = refl
  taken true true false e h = e
  taken true false false e h = e
  taken false seen false e h = e

  by_case : (t : Bool) → is_some x.1 ≡ t → is_some x.1 && not (is_ancestor x.0 a) ≡ true
      → same_name x.0 b || now ≡ before || (not (is_ancestor b a) && has_name (names_of (held_in (xs ++ x ∷ []))) b)
  by_case false k d = absurd (false≢true (rw k at d))
  by_case true k d =
      taken (not (is_ancestor b a)) (has_name (names_of (held_in xs)) b) (same_name x.0 b) e (foreign_as a b x.0 true (rw k at d))
      ∙ ap (λ t. before || (not (is_ancestor b a) && t)) (sym (ap (λ ns. has_name ns b) (names_more xs x k) ∙ has_end (names_of (held_in xs)) x.0 b))

-- the same where the row is empty, or its holder an ancestor
pub passed_over : {V : Type 0} (xs : List (Name × Option V)) (x : Name × Option V) (a b : Name) (now before : Bool)
    → now ≡ before || (not (is_ancestor b a) && has_name (names_of (held_in xs)) b) → is_some x.1 && not (is_ancestor x.0 a) ≡ false
    → now ≡ before || (not (is_ancestor b a) && has_name (names_of (held_in (xs ++ x ∷ []))) b)
passed_over {V} xs x a b now before e d = by_case (is_some x.1) refl d where
  skipped : (foreign seen same : Bool) → now ≡ before || (foreign && seen) → (same ≡ true → foreign ≡ false) → now ≡ before || (foreign && (seen || same))
  skipped false seen same e h = e
  skipped true seen true e h = absurd (true≢false (h refl))
  skipped true true false e h = e
  skipped true false false e h = e

  by_case : (t : Bool) → is_some x.1 ≡ t → is_some x.1 && not (is_ancestor x.0 a) ≡ false
      → now ≡ before || (not (is_ancestor b a) && has_name (names_of (held_in (xs ++ x ∷ []))) b)
  by_case false k d = e ∙ ap (λ ns. before || (not (is_ancestor b a) && has_name ns b)) (sym (names_same xs x k))
  by_case true k d =
      skipped (not (is_ancestor b a)) (has_name (names_of (held_in xs)) b) (same_name x.0 b) e (foreign_as a b x.0 false (rw k at d))
      ∙ ap (λ t. before || (not (is_ancestor b a) && t)) (sym (ap (λ ns. has_name ns b) (names_more xs x k) ∙ has_end (names_of (held_in xs)) x.0 b))

pub foreign_next : {V : Type 0} (items : List (Name × Option V)) (i : ℕ) (x : Name × Option V) (a b : Name) (now before : Bool) → x ≡ get_or items i x
    → i < length items → now ≡ before || (not (is_ancestor b a) && has_name (names_of (held_in (take i items))) b)
    → is_some x.1 && not (is_ancestor x.0 a) ≡ true
    → same_name x.0 b || now ≡ before || (not (is_ancestor b a) && has_name (names_of (held_in (take (i + 1) items))) b)
foreign_next items i x a b now before is lt so_far foreign =
    added (take i items) x a b now before so_far foreign
    ∙ ap (λ rs. before || (not (is_ancestor b a) && has_name (names_of (held_in rs)) b)) (sym (next_row items i x lt is))

pub foreign_stay : {V : Type 0} (items : List (Name × Option V)) (i : ℕ) (x : Name × Option V) (a b : Name) (now before : Bool) → x ≡ get_or items i x
    → i < length items → now ≡ before || (not (is_ancestor b a) && has_name (names_of (held_in (take i items))) b)
    → is_some x.1 && not (is_ancestor x.0 a) ≡ false
    → now ≡ before || (not (is_ancestor b a) && has_name (names_of (held_in (take (i + 1) items))) b)
foreign_stay items i x a b now before is lt so_far other =
    passed_over (take i items) x a b now before so_far other
    ∙ ap (λ rs. before || (not (is_ancestor b a) && has_name (names_of (held_in rs)) b)) (sym (next_row items i x lt is))

-- a row without a value was put in, unless the name had one, or nothing was changed
module _ {V E : Type 0} (s : Rows V) (rs new : List (Name × Option V)) (a : Name) (shows : shown rs ≡ s) where
  abbrev IsMade : Result (Unit {0}) E → Type 0
  IsMade r = OnOk r (new ≡ cond (has_name (keys_of rs) a) rs (insert_entry name_cmp rs a None)) × OnErr r (new ≡ rs)

  pub made_held : (r : Result (Unit {0}) E) → IsMade r → held_in new ≡ s.held
  made_held (Err x) h = ap held_in h.1 ∙ ap (λ (x : Rows V). x.held) shows
  made_held (Ok x) h = ap held_in h.0 ∙ by_case (has_name (keys_of rs) a) refl ∙ ap (λ (x : Rows V). x.held) shows where
    by_case : (t : Bool) → has_name (keys_of rs) a ≡ t → held_in (cond t rs (insert_entry name_cmp rs a None)) ≡ held_in rs
    by_case true k = refl
    by_case false k = room_held a rs k

  pub made_room : (r : Result (Unit {0}) E) → IsMade r → OnOk r (HasMoreRoom s.room (keys_of new) a)
  made_room (Err x) h = tt
  made_room (Ok x) h = λ b. ap (λ (ns : List (Name × Option V)). has_name (keys_of ns) b) h.0 ∙ by_case b (has_name (keys_of rs) a) refl
      ∙ ap (λ (x : Rows V). same_name a b || has_name x.room b) shows where
        by_case : (b : Name) (t : Bool) → has_name (keys_of rs) a ≡ t
            → has_name (keys_of (cond t rs (insert_entry name_cmp rs a None))) b ≡ same_name a b || has_name (keys_of rs) b
        by_case b true k = known a b (keys_of rs) k
        by_case b false k = has_put a b None rs

  pub made_same : (r : Result (Unit {0}) E) → IsMade r → OnErr r (shown new ≡ s)
  made_same (Ok x) h = tt
  made_same (Err x) h = ap shown h.1 ∙ shows

-- a row is put into a tree that has the rows before it
pub inserted_next : {X : Type 0} (items rows new : List (Name × X)) (i : ℕ) (x : Name × X) (n : Name) → IsStrictlySortedBy name_cmp (keys_of items)
    → x ≡ get_or items i x → i < length items → rows ≡ take i items → n ≡ x.0 → new ≡ insert_entry name_cmp rows n x.1 → new ≡ take (i + 1) items
inserted_next items rows new i x n s is lt so_far same q =
    let next = next_row items i x lt is in
    let whole : take i items ++ x ∷ drop (i + 1) items ≡ items =
    sym (append_assoc (take i items) (x ∷ []) (drop (i + 1) items)) ∙ ap (λ ys. ys ++ drop (i + 1) items) (sym next) ∙ take-append-drop (i + 1) items in
    q ∙ ap (λ m. insert_entry name_cmp rows m x.1) same ∙ ap (λ rs. insert_entry name_cmp rs x.0 x.1) so_far
    ∙ copied_row (take i items) x.0 x.1 (drop (i + 1) items) (subst (λ es. IsStrictlySortedBy name_cmp (keys_of es)) (sym whole) s)
    ∙ sym next
