-- What holders add, as it changes.
use Rattle.std.proofs.Common.{◌≡◌, ℕ, ℤ, ◌+◌, ◌<◌, Bool, true, false, not, filter, take, List, [], ◌∷◌, ◌++◌, length, get_or, append-nil, refl, sym, ap, ◌∙◌, subst}
use Rattle.std.specs.Prelude.{Option, Some, None, pos, unwrap_or, if◌then◌else◌}
use Rattle.std.proofs.lemmas.Bool.{true≢false}
use Rattle.std.specs.Ordering.{is_eq}
use Rattle.std.specs.declared.cmp.Ordering.{Ordering}
use Rattle.std.specs.declared.cmp.Ordering.TheVariants.{Less, Equal, Greater}
use Rattle.std.specs.BTreeMap.{insert_entry}
use Rattle.action_names.specs.Names.{Name, same_name, is_ancestor, name_cmp}
use Rattle.action_names.specs.Comparison.{same_name-equivalence}
use Rattle.action_names.proofs.Ancestry.{same_is}
use Rattle.atomic_types.specs.Counters.{sum_of}
use Rattle.atomic_types.specs.TypeLaws.{sums_commute}
use Rattle.holders.specs.Held.{value_at, without, without_below, with_row, held_in}
use Rattle.holders.proofs.FewRows.{held_more, next_row}
use Rattle.holders.proofs.Sorted.{at_name}
use Rattle.object_model.specs.Deltas.{delta_at, delta_sum}
use Rattle.object_model.specs.Objects.{is_beside}
use Rattle.version_stack.specs.Beside.{sum_beside, sum_if_any, with_beside, with_left}

-- what a holder adds is what it holds
pub delta_held : (ds : List (Name × ℤ)) (a : Name) → delta_at ds a ≡ value_at ds a
delta_held [] a = refl
delta_held (d ∷ ds) a = by_case (delta_held ds a) (same_name d.0 a) refl where
  by_case : delta_at ds a ≡ value_at ds a → (t : Bool) → same_name d.0 a ≡ t → delta_at (d ∷ ds) a ≡ value_at (d ∷ ds) a
  by_case later true e = simp e refl
  by_case later false e = simp e later

-- two names that differ are not both b
apart : (n a b : Name) → same_name n a ≡ false → same_name n b ≡ true → same_name a b ≡ false
apart n a b d e = by_case (same_name a b) refl where
  by_case : (t : Bool) → same_name a b ≡ t → same_name a b ≡ false
  by_case true k = absurd (true≢false (sym (subst (λ x. same_name n x ≡ true) (sym (same_is a b k)) e) ∙ d))
  by_case false k = k

-- once a holder was given an amount it adds that, and all others add what they added
pub delta_put : (ds : List (Name × ℤ)) (a b : Name) (z : ℤ)
    → delta_at (insert_entry name_cmp ds a z) b ≡ (if same_name a b then Some z else delta_at ds b)
delta_put [] a b z = refl
delta_put (d ∷ ds) a b z = by_case (delta_put ds a b z) (name_cmp a d.0) refl where
  replaced : (t : Bool) → same_name d.0 b ≡ t
      → (if same_name d.0 b then Some z else delta_at ds b) ≡ (if same_name d.0 b then Some z else delta_at (d ∷ ds) b)
  replaced true e = simp e refl
  replaced false e = simp e refl

  passed : same_name d.0 a ≡ false → (t : Bool) → same_name d.0 b ≡ t
      → (if same_name d.0 b then Some d.1 else (if same_name a b then Some z else delta_at ds b)) ≡ (if same_name a b then Some z else delta_at (d ∷ ds) b)
  passed k true e = simp (e, apart d.0 a b k e) refl
  passed k false e = simp e refl

  by_case : delta_at (insert_entry name_cmp ds a z) b ≡ (if same_name a b then Some z else delta_at ds b) → (o : Ordering) → name_cmp a d.0 ≡ o
      → delta_at (insert_entry name_cmp (d ∷ ds) a z) b ≡ (if same_name a b then Some z else delta_at (d ∷ ds) b)
  by_case later Less k = simp k refl
  by_case later Equal k =
      let same : d.0 ≡ a = same_is d.0 a (sym (at_name a d.0) ∙ ap is_eq k) in
      simp k (replaced (same_name d.0 b) refl ∙ ap (λ x. if same_name x b then Some z else delta_at (d ∷ ds) b) same)
  by_case later Greater k =
      simp k (ap (λ o. if same_name d.0 b then Some d.1 else o) later ∙ passed (sym (at_name a d.0) ∙ ap is_eq k) (same_name d.0 b) refl)

-- where those are kept that pass a test of names, they add what they added, and all others nothing
pub delta_kept : (ds : List (Name × ℤ)) (p : Name → Bool) (b : Name) → delta_at (filter (λ d. p d.0) ds) b ≡ (if p b then delta_at ds b else None)
delta_kept [] p b = either (p b) None where
  either : (t : Bool) (o : Option ℤ) → o ≡ (if t then o else o)
  either true o = refl
  either false o = refl
delta_kept (d ∷ ds) p b = by_case (delta_kept ds p b) (p d.0) refl (same_name d.0 b) refl where
  by_case : delta_at (filter (λ h. p h.0) ds) b ≡ (if p b then delta_at ds b else None) → (t : Bool) → p d.0 ≡ t → (u : Bool) → same_name d.0 b ≡ u
      → delta_at (filter (λ h. p h.0) (d ∷ ds)) b ≡ (if p b then delta_at (d ∷ ds) b else None)
  by_case later true k true e =
      let passes : p b ≡ true = subst (λ x. p x ≡ true) (same_is d.0 b e) k in
      simp (k, e, passes) refl
  by_case later true k false e = simp (k, e) later
  by_case later false k true e =
      let fails : p b ≡ false = subst (λ x. p x ≡ false) (same_is d.0 b e) k in
      simp (k, fails) (later ∙ simp fails refl)
  by_case later false k false e = simp (k, e) later

-- a choice by the opposite of a test
if_not : (t : Bool) (o p : Option ℤ) → (if not t then o else p) ≡ (if t then p else o)
if_not true o p = refl
if_not false o p = refl

-- once a holder is taken out it adds nothing, and all others add what they added
pub delta_out : (ds : List (Name × ℤ)) (a b : Name) → delta_at (without ds a) b ≡ (if same_name a b then None else delta_at ds b)
delta_out ds a b =
    delta_kept ds (λ n. not (same_name n a)) b ∙ if_not (same_name b a) (delta_at ds b) None
    ∙ ap (λ t. if t then None else delta_at ds b) (same_name-equivalence.symm b a)

-- once an action and its descendants are taken out they add nothing, and all others add what they added
pub delta_below : (ds : List (Name × ℤ)) (a b : Name) → delta_at (without_below ds a) b ≡ (if is_ancestor a b then None else delta_at ds b)
delta_below ds a b = delta_kept ds (λ n. not (is_ancestor a n)) b ∙ if_not (is_ancestor a b) (delta_at ds b) None

-- a delta at the end whose holder stands beside the owner is added to the sum
sum_end : (ds : List (Name × ℤ)) (d : Name × ℤ) (owner : Option Name) → is_beside owner d.0 ≡ true
    → sum_beside (ds ++ d ∷ []) owner ≡ sum_of (sum_beside ds owner) d.1
sum_end [] d owner e = simp e refl
sum_end (c ∷ ds) d owner e = by_case (sum_end ds d owner e) (is_beside owner c.0) refl where
  by_case : sum_beside (ds ++ d ∷ []) owner ≡ sum_of (sum_beside ds owner) d.1 → (t : Bool) → is_beside owner c.0 ≡ t
      → sum_beside (c ∷ ds ++ d ∷ []) owner ≡ sum_of (sum_beside (c ∷ ds) owner) d.1
  by_case later true k = simp k (ap (λ n. sum_of n c.1) later ∙ sums_commute (sum_beside ds owner) d.1 c.1)
  by_case later false k = simp k later

-- a delta at the end whose holder does not stand beside the owner leaves the sum
sum_same : (ds : List (Name × ℤ)) (d : Name × ℤ) (owner : Option Name) → is_beside owner d.0 ≡ false
    → sum_beside (ds ++ d ∷ []) owner ≡ sum_beside ds owner
sum_same [] d owner e = simp e refl
sum_same (c ∷ ds) d owner e = by_case (sum_same ds d owner e) (is_beside owner c.0) refl where
  by_case : sum_beside (ds ++ d ∷ []) owner ≡ sum_beside ds owner → (t : Bool) → is_beside owner c.0 ≡ t
      → sum_beside (c ∷ ds ++ d ∷ []) owner ≡ sum_beside (c ∷ ds) owner
  by_case later true k = simp k (ap (λ n. sum_of n c.1) later)
  by_case later false k = simp k later

-- one more row whose holder stands beside the owner adds its amount to the sum
pub counted : (xs : List (Name × Option ℤ)) (x : Name × Option ℤ) (owner : Option Name) (z : ℤ) → x.1 ≡ Some z
    → is_beside owner x.0 ≡ true → sum_beside (held_in (xs ++ x ∷ [])) owner ≡ sum_of (sum_beside (held_in xs) owner) z
counted xs x owner z e k =
    let before = held_in xs in
    ap (λ ds. sum_beside ds owner) (held_more xs x ∙ ap (λ o. before ++ with_row x.0 o []) e) ∙ sum_end before (x.0, z) owner k

-- one more row whose holder does not stand beside the owner leaves the sum
pub not_counted : (xs : List (Name × Option ℤ)) (x : Name × Option ℤ) (owner : Option Name) (z : ℤ) → x.1 ≡ Some z
    → is_beside owner x.0 ≡ false → sum_beside (held_in (xs ++ x ∷ [])) owner ≡ sum_beside (held_in xs) owner
not_counted xs x owner z e k =
    let before = held_in xs in
    ap (λ ds. sum_beside ds owner) (held_more xs x ∙ ap (λ o. before ++ with_row x.0 o []) e) ∙ sum_same before (x.0, z) owner k

-- one more row that is empty leaves the sum
pub empty_row : (xs : List (Name × Option ℤ)) (x : Name × Option ℤ) (owner : Option Name) → x.1 ≡ None
    → sum_beside (held_in (xs ++ x ∷ [])) owner ≡ sum_beside (held_in xs) owner
empty_row xs x owner e =
    let before = held_in xs in
    ap (λ ds. sum_beside ds owner) (held_more xs x ∙ ap (λ o. before ++ with_row x.0 o []) e ∙ append-nil before)

-- the sum with one more row
pub beside_more : (xs : List (Name × Option ℤ)) (x : Name × Option ℤ) (owner : Option Name) (sum : ℤ)
    → sum ≡ sum_beside (held_in xs) owner → with_beside sum owner x.0 x.1 ≡ sum_beside (held_in (xs ++ x ∷ [])) owner
beside_more xs x owner sum so_far = by_row x.1 refl where
  by_row : (o : Option ℤ) → x.1 ≡ o → with_beside sum owner x.0 o ≡ sum_beside (held_in (xs ++ x ∷ [])) owner
  by_row None e = so_far ∙ sym (empty_row xs x owner e)
  by_row (Some z) e = by_case (is_beside owner x.0) refl where
    by_case : (t : Bool) → is_beside owner x.0 ≡ t → (if t then sum_of sum z else sum) ≡ sum_beside (held_in (xs ++ x ∷ [])) owner
    by_case true k = ap (λ s. sum_of s z) so_far ∙ sym (counted xs x owner z e k)
    by_case false k = so_far ∙ sym (not_counted xs x owner z e k)

-- the sum of the first rows, with one more of them
pub beside_next : (items : List (Name × Option ℤ)) (i : ℕ) (x : Name × Option ℤ) (owner : Option Name) (sum : ℤ) → x ≡ get_or items i x → i < length items
    → sum ≡ sum_beside (held_in (take i items)) owner → with_beside sum owner x.0 x.1 ≡ sum_beside (held_in (take (i + 1) items)) owner
beside_next items i x owner sum is lt so_far =
    beside_more (take i items) x owner sum so_far ∙ ap (λ rs. sum_beside (held_in rs) owner) (sym (next_row items i x lt is))

-- a delta at the end is added to the sum
delta_end : (ds : List (Name × ℤ)) (d : Name × ℤ) → delta_sum (ds ++ d ∷ []) ≡ sum_of (delta_sum ds) d.1
delta_end [] d = refl
delta_end (c ∷ ds) d = ap (λ n. sum_of n c.1) (delta_end ds d) ∙ sums_commute (delta_sum ds) d.1 c.1

some_end : (ds : List (Name × ℤ)) (d : Name × ℤ) → sum_if_any (ds ++ d ∷ []) ≡ Some (sum_of (unwrap_or (sum_if_any ds) (pos 0)) d.1)
some_end [] d = refl
some_end (c ∷ ds) d = ap (λ n. Some n) (delta_end (c ∷ ds) d)

chosen_end : (ds : List (Name × ℤ)) (d : Name × ℤ) (p : Name → Bool)
    → filter (λ e. p e.0) (ds ++ d ∷ []) ≡ (if p d.0 then filter (λ e. p e.0) ds ++ d ∷ [] else filter (λ e. p e.0) ds)
chosen_end [] d p = refl
chosen_end (c ∷ ds) d p = by_case (chosen_end ds d p) (p c.0) (p d.0) refl where
  left : List (Name × ℤ)
  left = filter (λ e. p e.0) ds

  by_case : filter (λ e. p e.0) (ds ++ d ∷ []) ≡ (if p d.0 then left ++ d ∷ [] else left) → (t u : Bool) → p d.0 ≡ u
      → (if t then c ∷ filter (λ e. p e.0) (ds ++ d ∷ []) else filter (λ e. p e.0) (ds ++ d ∷ []))
      ≡ (if p d.0 then (if t then c ∷ left else left) ++ d ∷ [] else (if t then c ∷ left else left))
  by_case later true true e = simp e (ap (λ es. c ∷ es) (later ∙ simp e refl))
  by_case later true false e = simp e (ap (λ es. c ∷ es) (later ∙ simp e refl))
  by_case later false true e = later
  by_case later false false e = later

-- one more row of a holder that passes adds its amount to the sum of those that pass
pub left_counted : (xs : List (Name × Option ℤ)) (x : Name × Option ℤ) (p : Name → Bool) (z : ℤ) → x.1 ≡ Some z → p x.0 ≡ true
    → sum_if_any (filter (λ e. p e.0) (held_in (xs ++ x ∷ [])))
    ≡ Some (sum_of (unwrap_or (sum_if_any (filter (λ e. p e.0) (held_in xs))) (pos 0)) z)
left_counted xs x p z e k =
    let before = held_in xs in
    ap (λ ds. sum_if_any (filter (λ e. p e.0) ds)) (held_more xs x ∙ ap (λ o. before ++ with_row x.0 o []) e)
    ∙ ap (λ ds. sum_if_any ds) (chosen_end before (x.0, z) p)
    ∙ ap (λ t. sum_if_any (if t then filter (λ e. p e.0) before ++ (x.0, z) ∷ [] else filter (λ e. p e.0) before)) k
    ∙ some_end (filter (λ e. p e.0) before) (x.0, z)

-- one more row of a holder that does not pass leaves it
pub left_uncounted : (xs : List (Name × Option ℤ)) (x : Name × Option ℤ) (p : Name → Bool) (z : ℤ) → x.1 ≡ Some z → p x.0 ≡ false
    → sum_if_any (filter (λ e. p e.0) (held_in (xs ++ x ∷ []))) ≡ sum_if_any (filter (λ e. p e.0) (held_in xs))
left_uncounted xs x p z e k =
    let before = held_in xs in
    ap (λ ds. sum_if_any (filter (λ e. p e.0) ds)) (held_more xs x ∙ ap (λ o. before ++ with_row x.0 o []) e)
    ∙ ap (λ ds. sum_if_any ds) (chosen_end before (x.0, z) p)
    ∙ ap (λ t. sum_if_any (if t then filter (λ e. p e.0) before ++ (x.0, z) ∷ [] else filter (λ e. p e.0) before)) k

-- and so does an empty row
pub left_empty : (xs : List (Name × Option ℤ)) (x : Name × Option ℤ) (p : Name → Bool) → x.1 ≡ None
    → sum_if_any (filter (λ e. p e.0) (held_in (xs ++ x ∷ []))) ≡ sum_if_any (filter (λ e. p e.0) (held_in xs))
left_empty xs x p e =
    let before = held_in xs in
    ap (λ ds. sum_if_any (filter (λ e. p e.0) ds))
    (held_more xs x ∙ ap (λ o. before ++ with_row x.0 o []) e ∙ append-nil before)

-- the sum of those that pass, with one more row
pub left_more : (xs : List (Name × Option ℤ)) (x : Name × Option ℤ) (p : Name → Bool) (sum : Option ℤ)
    → sum ≡ sum_if_any (filter (λ e. p e.0) (held_in xs)) → with_left sum x.1 (p x.0) ≡ sum_if_any (filter (λ e. p e.0) (held_in (xs ++ x ∷ [])))
left_more xs x p sum so_far = by_row x.1 refl where
  by_row : (o : Option ℤ) → x.1 ≡ o → with_left sum o (p x.0) ≡ sum_if_any (filter (λ e. p e.0) (held_in (xs ++ x ∷ [])))
  by_row None e = so_far ∙ sym (left_empty xs x p e)
  by_row (Some z) e = by_case (p x.0) refl where
    by_case : (t : Bool) → p x.0 ≡ t
        → (if t then Some (sum_of (unwrap_or sum (pos 0)) z) else sum) ≡ sum_if_any (filter (λ e. p e.0) (held_in (xs ++ x ∷ [])))
    by_case true k = ap (λ o. Some (sum_of (unwrap_or o (pos 0)) z)) so_far ∙ sym (left_counted xs x p z e k)
    by_case false k = so_far ∙ sym (left_uncounted xs x p z e k)

-- the sum of those of the first rows that pass, with one more row
pub left_next : (items : List (Name × Option ℤ)) (i : ℕ) (x : Name × Option ℤ) (p : Name → Bool) (sum : Option ℤ) → x ≡ get_or items i x → i < length items
    → sum ≡ sum_if_any (filter (λ e. p e.0) (held_in (take i items)))
    → with_left sum x.1 (p x.0) ≡ sum_if_any (filter (λ e. p e.0) (held_in (take (i + 1) items)))
left_next items i x p sum is lt so_far =
    left_more (take i items) x p sum so_far ∙ ap (λ rs. sum_if_any (filter (λ e. p e.0) (held_in rs))) (sym (next_row items i x lt is))
