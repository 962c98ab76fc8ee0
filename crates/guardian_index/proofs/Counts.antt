-- How many objects stand below an action once rows are changed.
use Rattle.std.proofs.Common.{◌≡◌, ℕ, ◌+◌, ◌≤◌, Bool, true, false, cond, not, filter, List, [], ◌∷◌, length, refl, sym, ap, ◌∙◌, arith}
use Rattle.std.specs.Prelude.{Some, None}
use Rattle.std.proofs.lemmas.Bool.{true≢false}
use Rattle.std.specs.declared.cmp.Ordering.{Ordering}
use Rattle.std.specs.declared.cmp.Ordering.TheVariants.{Less, Equal, Greater}
use Rattle.std.specs.declared.vec.Vec.{Vec}
use Rattle.std.specs.BTreeMap.{is_at, insert_entry}
use Rattle.std.specs.Map.{lookup, remove_entry, set_value}
use Rattle.action_names.specs.Names.{Name, same_name, name_cmp, is_ancestor}
use Rattle.action_names.proofs.Ancestry.{same_is, ancestor_trans}
use Rattle.holders.proofs.Sorted.{at_name}
use Rattle.guardian_index.specs.Held.{Row, row_at, count_in, count_below, row_of, rows_in}
use Rattle.guardian_index.proofs.Rows.{row_first, row_behind}

-- a row with no object counts for nothing
pub zero_both : (t : Bool) → ◌≡◌ {A = ℕ} (cond t 0 0) 0
zero_both true = refl
zero_both false = refl

-- what a row counts depends on its name and its length alone
renamed : (b x a : Name) (r : Row) → same_name x a ≡ true → count_in b (x, r) ≡ count_in b (a, r)
renamed b x a r d = ap (λ n. count_in b (n, r)) (same_is x a d)

pub counts : (b a : Name) (r : Row) → is_ancestor b a ≡ true → count_in b (a, r) ≡ length r.objects
counts b a r up = rw up refl

module _ {Z : Type 0} where
  pub count_set : (a b : Name) (w v : Vec ℕ Z) (es : List (Name × Vec ℕ Z)) → Some v ≡ lookup (is_at (name_cmp a)) es
      → count_below (rows_in (set_value (is_at (name_cmp a)) es w)) b + count_in b (a, row_of v) ≡ count_below (rows_in es) b + count_in b (a, row_of w)
  count_set a b w v [] q = cc
  count_set a b w v (e ∷ es) q = by_case (count_set a b w v es) (same_name e.0 a) refl q where
    by_case : (Some v ≡ lookup (is_at (name_cmp a)) es
        → count_below (rows_in (set_value (is_at (name_cmp a)) es w)) b + count_in b (a, row_of v) ≡ count_below (rows_in es) b + count_in b (a, row_of w))
        → (t : Bool) → same_name e.0 a ≡ t → Some v ≡ lookup (is_at (name_cmp a)) (e ∷ es)
        → count_below (rows_in (set_value (is_at (name_cmp a)) (e ∷ es) w)) b + count_in b (a, row_of v) ≡ count_below (rows_in (e ∷ es)) b + count_in b (a, row_of w)
    by_case later true d q =
        let here : Some v ≡ Some e.1 = rw (at_name a e.0 ∙ d) at q in
        let same : e.1 ≡ v = cc in
        let new : count_in b (e.0, row_of w) ≡ count_in b (a, row_of w) = renamed b e.0 a (row_of w) d in
        let old : count_in b (e.0, row_of e.1) ≡ count_in b (a, row_of v) = renamed b e.0 a (row_of e.1) d ∙ ap (λ (u : Vec ℕ Z). count_in b (a, row_of u)) same in
        simp (at_name a e.0 ∙ d) (swapped _ _ _ _ _ new old) where
          swapped : (x y z u c : ℕ) → x ≡ y → z ≡ u → (x + c) + u ≡ (z + c) + y
          swapped x y z u c p q = omega arith
    by_case later false d q =
        simp (at_name a e.0 ∙ d) (longer (count_in b (e.0, row_of e.1)) _ _ _ _ (later (rw (at_name a e.0 ∙ d) at q))) where
          longer : (k x y z u : ℕ) → x + y ≡ z + u → (k + x) + y ≡ (k + z) + u
          longer k x y z u p = omega arith

  pub count_out : (a b : Name) (es : List (Name × Vec ℕ Z))
      → count_below (rows_in (remove_entry (is_at (name_cmp a)) es)) b + count_in b (a, row_at (rows_in es) a) ≡ count_below (rows_in es) b
  count_out a b [] = ap (λ n. 0 + n) (zero_both (is_ancestor b a))
  count_out a b (e ∷ es) = by_case (count_out a b es) (same_name e.0 a) refl where
    by_case : count_below (rows_in (remove_entry (is_at (name_cmp a)) es)) b + count_in b (a, row_at (rows_in es) a) ≡ count_below (rows_in es) b
        → (t : Bool) → same_name e.0 a ≡ t
        → count_below (rows_in (remove_entry (is_at (name_cmp a)) (e ∷ es))) b + count_in b (a, row_at (rows_in (e ∷ es)) a) ≡ count_below (rows_in (e ∷ es)) b
    by_case later true d =
        simp (at_name a e.0 ∙ d)
        (ap (λ (r : Row). count_below (rows_in es) b + count_in b (a, r)) (row_first e es a d) ∙ swapped _ _ _ (renamed b e.0 a (row_of e.1) d)) where
          swapped : (x y c : ℕ) → x ≡ y → c + y ≡ x + c
          swapped x y c p = omega arith
    by_case later false d =
        let own : count_in b (a, row_at (rows_in (e ∷ es)) a) ≡ count_in b (a, row_at (rows_in es) a) = ap (λ (r : Row). count_in b (a, r)) (row_behind e es a d) in
        simp (at_name a e.0 ∙ d) (longer (count_in b (e.0, row_of e.1)) _ _ _ _ own later) where
          longer : (k x y z u : ℕ) → u ≡ y → x + y ≡ z → (k + x) + u ≡ k + z
          longer k x y z u p q = omega arith

  pub count_put : (a b : Name) (w : Vec ℕ Z) (es : List (Name × Vec ℕ Z)) → None ≡ lookup (is_at (name_cmp a)) es
      → count_below (rows_in (insert_entry name_cmp es a w)) b ≡ count_in b (a, row_of w) + count_below (rows_in es) b
  count_put a b w [] q = refl
  count_put a b w (e ∷ es) q = by_case (count_put a b w es) (name_cmp a e.0) refl q where
    by_case : (None ≡ lookup (is_at (name_cmp a)) es
        → count_below (rows_in (insert_entry name_cmp es a w)) b ≡ count_in b (a, row_of w) + count_below (rows_in es) b)
        → (o : Ordering) → name_cmp a e.0 ≡ o → None ≡ lookup (is_at (name_cmp a)) (e ∷ es)
        → count_below (rows_in (insert_entry name_cmp (e ∷ es) a w)) b ≡ count_in b (a, row_of w) + count_below (rows_in (e ∷ es)) b
    by_case later Less o q = simp o refl
    by_case later Equal o q = let here : None ≡ Some e.1 = rw o at q in cc
    by_case later Greater o q = simp o (longer (count_in b (e.0, row_of e.1)) _ _ _ (later (rw o at q))) where
      longer : (k x y z : ℕ) → x ≡ y + z → k + x ≡ y + (k + z)
      longer k x y z p = omega arith

  pub count_kept : (p : Name → Bool) (b : Name) (es : List (Name × Vec ℕ Z)) → count_below (rows_in (filter (λ e. p e.0) es)) b ≤ count_below (rows_in es) b
  count_kept p b [] = omega arith
  count_kept p b (e ∷ es) = by_case (count_kept p b es) (p e.0) refl where
    by_case : count_below (rows_in (filter (λ e. p e.0) es)) b ≤ count_below (rows_in es) b → (t : Bool) → p e.0 ≡ t
        → count_below (rows_in (filter (λ e. p e.0) (e ∷ es))) b ≤ count_below (rows_in (e ∷ es)) b
    by_case later true d = simp d (longer (count_in b (e.0, row_of e.1)) _ _ later) where
      longer : (k x y : ℕ) → x ≤ y → k + x ≤ k + y
      longer k x y p = omega arith
    by_case later false d = simp d (longer (count_in b (e.0, row_of e.1)) _ _ later) where
      longer : (k x y : ℕ) → x ≤ y → x ≤ k + y
      longer k x y p = omega arith

  -- below one whose rows have all gone nothing stands
  pub count_gone : (a b : Name) (es : List (Name × Vec ℕ Z)) → is_ancestor a b ≡ true → count_below (rows_in (filter (λ e. not (is_ancestor a e.0)) es)) b ≡ 0
  count_gone a b [] up = refl
  count_gone a b (e ∷ es) up = by_case (count_gone a b es up) (is_ancestor a e.0) refl (is_ancestor b e.0) refl where
    by_case : count_below (rows_in (filter (λ e. not (is_ancestor a e.0)) es)) b ≡ 0 → (t : Bool) → is_ancestor a e.0 ≡ t → (u : Bool) → is_ancestor b e.0 ≡ u
        → count_below (rows_in (filter (λ e. not (is_ancestor a e.0)) (e ∷ es))) b ≡ 0
    by_case later true d u k = simp d later
    by_case later false d true k = absurd (true≢false (sym (ancestor_trans a b e.0 up k) ∙ d))
    by_case later false d false k = simp (d, k) (plain _ later) where
      plain : (n : ℕ) → n ≡ 0 → 0 + n ≡ 0
      plain n p = omega arith

  -- the rows of the action and its descendants alone are counted
  abbrev pub count_all : List (Name × Vec ℕ Z) → ℕ
  count_all [] = 0
  count_all (e ∷ es) = length e.1.items + count_all es

  pub count_among : (a : Name) (es : List (Name × Vec ℕ Z)) → count_all (filter (λ e. is_ancestor a e.0) es) ≡ count_below (rows_in es) a
  count_among a [] = refl
  count_among a (e ∷ es) = by_case (count_among a es) (is_ancestor a e.0) refl where
    by_case : count_all (filter (λ e. is_ancestor a e.0) es) ≡ count_below (rows_in es) a → (t : Bool) → is_ancestor a e.0 ≡ t
        → count_all (filter (λ e. is_ancestor a e.0) (e ∷ es)) ≡ count_below (rows_in (e ∷ es)) a
    by_case later true d = simp d (ap (λ n. length e.1.items + n) later)
    by_case later false d = simp d (later ∙ plain (count_below (rows_in es) a)) where
      plain : (n : ℕ) → n ≡ 0 + n
      plain n = omega arith
