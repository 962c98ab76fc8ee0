-- The row of a holder once rows are changed.
use Rattle.std.proofs.Common.{◌≡◌, ℕ, Bool, true, false, cond, ◌&&◌, filter, List, [], ◌∷◌, refl, sym, ap, ◌∙◌, subst}
use Rattle.std.specs.Prelude.{Option, Some, None, is_some}
use Rattle.std.proofs.lemmas.Bool.{true≢false, false≢true}
use Rattle.std.proofs.lemmas.List.Kept.{IsStrictlySortedBy-filter}
use Rattle.std.proofs.lemmas.Map.{keys-set_value}
use Rattle.std.specs.List.{AllByRecursion}
use Rattle.std.specs.List.Sorted.{IsStrictlySortedBy}
use Rattle.std.specs.Ordering.{is_eq, nat_cmp}
use Rattle.std.specs.declared.cmp.Ordering.{Ordering}
use Rattle.std.specs.declared.cmp.Ordering.TheVariants.{Less, Equal, Greater}
use Rattle.std.specs.declared.vec.Vec.{Vec}
use Rattle.std.specs.BTreeMap.{is_at, insert_entry}
use Rattle.std.specs.Map.{keys_of, lookup, remove_entry, set_value}
use Rattle.std.specs.Map.Calls.{RetainsPairs}
use Rattle.action_names.specs.Names.{Name, same_name, name_cmp}
use Rattle.action_names.proofs.Ancestry.{same_is}
use Rattle.holders.proofs.Rows.{kept_sorted}
use Rattle.holders.proofs.Sorted.{at_name, StandBehind, other_than, behind_same}
use Rattle.guardian_index.specs.Held.{Row, IsRising, has_number, no_row, row_at, has_object, row_of, rows_in, IsOrderly}
use Rattle.guardian_index.proofs.Numbers.{has_filter}

-- the row of one that may have none
abbrev pub row_or : {Z : Type 0} → Option (Vec ℕ Z) → Row
row_or None = no_row
row_or (Some v) = row_of v

-- of two names one is not a third that the other is
pub apart : (x a b : Name) → same_name x a ≡ false → same_name x b ≡ true → same_name a b ≡ false
apart x a b other same = by_case (same_name a b) refl where
  by_case : (t : Bool) → same_name a b ≡ t → same_name a b ≡ false
  by_case true e = absurd (true≢false (sym (subst (λ n. same_name x n ≡ true) (sym (same_is a b e)) same) ∙ other))
  by_case false e = e

as_first : (x a b : Name) → same_name x a ≡ true → same_name a b ≡ same_name x b
as_first x a b d = ap (λ n. same_name n b) (sym (same_is x a d))

chosen : {X : Type 0} (t : Bool) (x y z : X) → cond t x y ≡ cond t x (cond t z y)
chosen true x y z = refl
chosen false x y z = refl

same_both : {X : Type 0} (t : Bool) (x : X) → x ≡ cond t x x
same_both true x = refl
same_both false x = refl

module _ {Z : Type 0} where
  -- the first row is its holder's
  pub row_first : (e : Name × Vec ℕ Z) (es : List (Name × Vec ℕ Z)) (b : Name) → same_name e.0 b ≡ true → row_at (rows_in (e ∷ es)) b ≡ row_of e.1
  row_first e es b d = simp d refl

  -- and another's stands behind it
  pub row_behind : (e : Name × Vec ℕ Z) (es : List (Name × Vec ℕ Z)) (b : Name) → same_name e.0 b ≡ false → row_at (rows_in (e ∷ es)) b ≡ row_at (rows_in es) b
  row_behind e es b d = simp d refl

  look : (a : Name) (es : List (Name × Vec ℕ Z)) → row_or (lookup (is_at (name_cmp a)) es) ≡ row_at (rows_in es) a
  look a [] = refl
  look a (e ∷ es) = by_case (look a es) (same_name e.0 a) refl where
    by_case : row_or (lookup (is_at (name_cmp a)) es) ≡ row_at (rows_in es) a → (t : Bool) → same_name e.0 a ≡ t
        → row_or (lookup (is_at (name_cmp a)) (e ∷ es)) ≡ row_at (rows_in (e ∷ es)) a
    by_case later true d = simp (at_name a e.0 ∙ d, d) refl
    by_case later false d = simp (at_name a e.0 ∙ d, d) later

  -- a look-up finds the row
  pub found : (a : Name) (es : List (Name × Vec ℕ Z)) (o : Option (Vec ℕ Z)) → o ≡ lookup (is_at (name_cmp a)) es → row_or o ≡ row_at (rows_in es) a
  found a es o q = ap row_or q ∙ look a es

  -- one before whom all others stand has no row behind its own
  pub none_row : (a : Name) (es : List (Name × Vec ℕ Z)) → StandBehind a (keys_of es) → row_at (rows_in es) a ≡ no_row
  none_row a [] h = refl
  none_row a (e ∷ es) h = simp (other_than a e.0 h.0) (none_row a es h.1)

  -- a row was written over
  pub set_row : (a b : Name) (w : Vec ℕ Z) (es : List (Name × Vec ℕ Z)) → is_some (lookup (is_at (name_cmp a)) es) ≡ true
      → row_at (rows_in (set_value (is_at (name_cmp a)) es w)) b ≡ cond (same_name a b) (row_of w) (row_at (rows_in es) b)
  set_row a b w [] there = absurd (false≢true there)
  set_row a b w (e ∷ es) there = by_case (set_row a b w es) (same_name e.0 a) refl there (same_name e.0 b) refl where
    by_case : (is_some (lookup (is_at (name_cmp a)) es) ≡ true
        → row_at (rows_in (set_value (is_at (name_cmp a)) es w)) b ≡ cond (same_name a b) (row_of w) (row_at (rows_in es) b))
        → (t : Bool) → same_name e.0 a ≡ t → is_some (lookup (is_at (name_cmp a)) (e ∷ es)) ≡ true → (u : Bool) → same_name e.0 b ≡ u
        → row_at (rows_in (set_value (is_at (name_cmp a)) (e ∷ es) w)) b ≡ cond (same_name a b) (row_of w) (row_at (rows_in (e ∷ es)) b)
    by_case later true d there u k =
        let same : same_name a b ≡ same_name e.0 b = as_first e.0 a b d in
        simp (at_name a e.0 ∙ d, same) (chosen (same_name e.0 b) (row_of w) (row_at (rows_in es) b) (row_of e.1))
    by_case later false d there true k = simp (at_name a e.0 ∙ d, k, apart e.0 a b d k) refl
    by_case later false d there false k = simp (at_name a e.0 ∙ d, k) (later (rw (at_name a e.0 ∙ d) at there))

  -- a row was taken out
  pub out_row : (a b : Name) (es : List (Name × Vec ℕ Z)) → IsStrictlySortedBy name_cmp (keys_of es)
      → row_at (rows_in (remove_entry (is_at (name_cmp a)) es)) b ≡ cond (same_name a b) no_row (row_at (rows_in es) b)
  unfolding IsStrictlySortedBy
  out_row a b [] s = same_both (same_name a b) no_row
  out_row a b (e ∷ es) s = by_case (out_row a b es s.1) (same_name e.0 a) refl (same_name e.0 b) refl where
    by_case : row_at (rows_in (remove_entry (is_at (name_cmp a)) es)) b ≡ cond (same_name a b) no_row (row_at (rows_in es) b)
        → (t : Bool) → same_name e.0 a ≡ t → (u : Bool) → same_name e.0 b ≡ u
        → row_at (rows_in (remove_entry (is_at (name_cmp a)) (e ∷ es))) b ≡ cond (same_name a b) no_row (row_at (rows_in (e ∷ es)) b)
    by_case later true d true k = simp (at_name a e.0 ∙ d, as_first e.0 a b d ∙ k) (none_row b es (behind_same e.0 b (keys_of es) k s.0))
    by_case later true d false k = simp (at_name a e.0 ∙ d, as_first e.0 a b d ∙ k, k) refl
    by_case later false d true k = simp (at_name a e.0 ∙ d, k, apart e.0 a b d k) refl
    by_case later false d false k = simp (at_name a e.0 ∙ d, k) later

  -- a row was put among the others
  pub put_row : (a b : Name) (w : Vec ℕ Z) (es : List (Name × Vec ℕ Z))
      → row_at (rows_in (insert_entry name_cmp es a w)) b ≡ cond (same_name a b) (row_of w) (row_at (rows_in es) b)
  put_row a b w [] = refl
  put_row a b w (e ∷ es) = by_case (put_row a b w es) (name_cmp a e.0) refl (same_name e.0 b) refl where
    by_case : row_at (rows_in (insert_entry name_cmp es a w)) b ≡ cond (same_name a b) (row_of w) (row_at (rows_in es) b)
        → (o : Ordering) → name_cmp a e.0 ≡ o → (u : Bool) → same_name e.0 b ≡ u
        → row_at (rows_in (insert_entry name_cmp (e ∷ es) a w)) b ≡ cond (same_name a b) (row_of w) (row_at (rows_in (e ∷ es)) b)
    by_case later Less o u k = simp o refl
    by_case later Equal o u k =
        let same : same_name a b ≡ same_name e.0 b = as_first e.0 a b (sym (at_name a e.0) ∙ ap is_eq o) in
        simp (o, same) (chosen (same_name e.0 b) (row_of w) (row_at (rows_in es) b) (row_of e.1))
    by_case later Greater o true k = simp (o, k, apart e.0 a b (sym (at_name a e.0) ∙ ap is_eq o) k) refl
    by_case later Greater o false k = simp (o, k) later

  -- rows were kept by a test of their names
  pub kept_row : (p : Name → Bool) (b : Name) (es : List (Name × Vec ℕ Z)) → row_at (rows_in (filter (λ e. p e.0) es)) b ≡ cond (p b) (row_at (rows_in es) b) no_row
  kept_row p b [] = same_both (p b) no_row
  kept_row p b (e ∷ es) = by_case (kept_row p b es) (p e.0) refl (same_name e.0 b) refl where
    by_case : row_at (rows_in (filter (λ e. p e.0) es)) b ≡ cond (p b) (row_at (rows_in es) b) no_row
        → (t : Bool) → p e.0 ≡ t → (u : Bool) → same_name e.0 b ≡ u
        → row_at (rows_in (filter (λ e. p e.0) (e ∷ es))) b ≡ cond (p b) (row_at (rows_in (e ∷ es)) b) no_row
    by_case later true d true k =
        let passes : p b ≡ true = subst (λ n. p n ≡ true) (same_is e.0 b k) d in
        simp (d, k, passes) refl
    by_case later true d false k = simp (d, k) later
    by_case later false d true k =
        let fails : p b ≡ false = subst (λ n. p n ≡ false) (same_is e.0 b k) d in
        simp (d, k, fails) (later ∙ ap (λ t. cond t (row_at (rows_in es) b) no_row) fails)
    by_case later false d false k = simp (d, k) later

  -- ---- rows whose objects rise
  abbrev pub AllRise : List (Name × Vec ℕ Z) → Type 0
  AllRise es = AllByRecursion (λ (e : Name × Vec ℕ Z). IsRising e.1.items) es

  pub rising_found : (a : Name) (es : List (Name × Vec ℕ Z)) (v : Vec ℕ Z) → AllRise es → Some v ≡ lookup (is_at (name_cmp a)) es → IsRising v.items
  rising_found a [] v h q = cc
  rising_found a (e ∷ es) v h q = by_case (rising_found a es v h.1) (is_at (name_cmp a) e.0) refl q where
    by_case : (Some v ≡ lookup (is_at (name_cmp a)) es → IsRising v.items) → (t : Bool) → is_at (name_cmp a) e.0 ≡ t → Some v ≡ lookup (is_at (name_cmp a)) (e ∷ es)
        → IsRising v.items
    by_case later true d q =
        let here : Some v ≡ Some e.1 = rw d at q in
        let same : e.1 ≡ v = cc in
        subst (λ (w : Vec ℕ Z). IsRising w.items) same h.0
    by_case later false d q = later (rw d at q)

  pub rising_set : (a : Name) (w : Vec ℕ Z) (es : List (Name × Vec ℕ Z)) → AllRise es → IsRising w.items → AllRise (set_value (is_at (name_cmp a)) es w)
  rising_set a w [] h k = tt
  rising_set a w (e ∷ es) h k = by_case (is_at (name_cmp a) e.0) (rising_set a w es h.1 k) where
    by_case : (t : Bool) → AllRise (set_value (is_at (name_cmp a)) es w) → AllRise (cond t ((e.0, w) ∷ es) (e ∷ set_value (is_at (name_cmp a)) es w))
    by_case true later = (k, h.1)
    by_case false later = (h.0, later)

  pub rising_out : (a : Name) (es : List (Name × Vec ℕ Z)) → AllRise es → AllRise (remove_entry (is_at (name_cmp a)) es)
  rising_out a [] h = tt
  rising_out a (e ∷ es) h = by_case (is_at (name_cmp a) e.0) (rising_out a es h.1) where
    by_case : (t : Bool) → AllRise (remove_entry (is_at (name_cmp a)) es) → AllRise (cond t es (e ∷ remove_entry (is_at (name_cmp a)) es))
    by_case true later = h.1
    by_case false later = (h.0, later)

  pub rising_put : (a : Name) (w : Vec ℕ Z) (es : List (Name × Vec ℕ Z)) → AllRise es → IsRising w.items → AllRise (insert_entry name_cmp es a w)
  rising_put a w [] h k = (k, tt)
  rising_put a w (e ∷ es) h k = by_case (rising_put a w es h.1 k) (name_cmp a e.0) refl where
    by_case : AllRise (insert_entry name_cmp es a w) → (o : Ordering) → name_cmp a e.0 ≡ o → AllRise (insert_entry name_cmp (e ∷ es) a w)
    by_case later Less o = rw o (k, h)
    by_case later Equal o = rw o (k, h.1)
    by_case later Greater o = rw o (h.0, later)

  pub rising_kept : (p : Name × Vec ℕ Z → Bool) (es : List (Name × Vec ℕ Z)) → AllRise es → AllRise (filter p es)
  rising_kept p [] h = tt
  rising_kept p (e ∷ es) h = by_case (rising_kept p es h.1) (p e) refl where
    by_case : AllRise (filter p es) → (t : Bool) → p e ≡ t → AllRise (filter p (e ∷ es))
    by_case later true d = rw d (h.0, later)
    by_case later false d = rw d later

  pub names_set : (a : Name) (w : Vec ℕ Z) (es : List (Name × Vec ℕ Z)) → IsStrictlySortedBy name_cmp (keys_of es)
      → IsStrictlySortedBy name_cmp (keys_of (set_value (is_at (name_cmp a)) es w))
  names_set a w es s = subst (IsStrictlySortedBy name_cmp) (sym (keys-set_value (is_at (name_cmp a)) es w)) s

  -- ---- rows in order
  orderly : (es : List (Name × Vec ℕ Z)) → IsStrictlySortedBy name_cmp (keys_of es) → AllRise es → IsOrderly es
  orderly es names objects = record { names = names; objects = objects }

  pub orderly_set : (es new : List (Name × Vec ℕ Z)) (a : Name) (w : Vec ℕ Z) → IsOrderly es → new ≡ set_value (is_at (name_cmp a)) es w → IsRising w.items → IsOrderly new
  orderly_set es new a w o is k =
      subst IsOrderly (sym is) (orderly (set_value (is_at (name_cmp a)) es w) (names_set a w es o.names) (rising_set a w es o.objects k))

  pub orderly_out : (es new : List (Name × Vec ℕ Z)) (a : Name) → IsOrderly es → new ≡ remove_entry (is_at (name_cmp a)) es → IsStrictlySortedBy name_cmp (keys_of new)
      → IsOrderly new
  orderly_out es new a o is names = orderly new names (subst AllRise (sym is) (rising_out a es o.objects))

  pub orderly_put : (es new : List (Name × Vec ℕ Z)) (a : Name) (w : Vec ℕ Z) → IsOrderly es → new ≡ insert_entry name_cmp es a w
      → IsStrictlySortedBy name_cmp (keys_of new) → IsRising w.items → IsOrderly new
  orderly_put es new a w o is names k = orderly new names (subst AllRise (sym is) (rising_put a w es o.objects k))

  pub orderly_kept : (es new : List (Name × Vec ℕ Z)) (p : Name → Bool) → IsOrderly es → new ≡ filter (λ e. p e.0) es → IsOrderly new
  orderly_kept es new p o is = orderly new (kept_sorted es new p o.names is) (subst AllRise (sym is) (rising_kept (λ e. p e.0) es o.objects))

-- ---- rows of which some objects are kept, and which go where none is
-- what a test of one row leaves of it, and that the test is the same again for the next row
pub record Leaves {F Z : Type 0} (holds : Name → ℕ → Bool) (f : F) (k : Name) (v : Vec ℕ Z) (stays : Bool) (w : Vec ℕ Z) (g : F) : Type 0 where
  pub objects : w.items ≡ filter (holds k) v.items
  pub none : stays ≡ false → w.items ≡ []
  pub again : g ≡ f

-- said of the values that a call of the test was given and left
pub leaves : {F Z : Type 0} (holds : Name → ℕ → Bool) {f g : F} {key k : Name} {value v left w : Vec ℕ Z} {stays : Bool} → key ≡ k → value ≡ v → left ≡ w
    → left.items ≡ filter (holds key) value.items → (stays ≡ false → left.items ≡ []) → g ≡ f → Leaves holds f k v stays w g
leaves {F} {Z} holds {f} {g} {key} {k} {value} {v} {left} {w} named was is objects none again = record {
  objects =
      ap (λ (u : Vec ℕ Z). u.items) (sym is) ∙ objects ∙ ap (λ m. filter (holds m) value.items) named
      ∙ ap (λ (u : Vec ℕ Z). filter (holds k) u.items) was;
  none = λ gone. ap (λ (u : Vec ℕ Z). u.items) (sym is) ∙ none gone;
  again = again;
}

-- it leaves that of each row
abbrev pub LeavesEach : {F Z : Type 0} → (F → Name → Vec ℕ Z → Bool → Vec ℕ Z → F → Type 0) → (Name → ℕ → Bool) → F → Type 0
LeavesEach {F} {Z} T holds f = (k : Name) (v : Vec ℕ Z) (t : Bool) (w : Vec ℕ Z) (g : F) → T f k v t w g → Leaves holds f k v t w g

pub retained_rise : {F Z : Type 0} (T : F → Name → Vec ℕ Z → Bool → Vec ℕ Z → F → Type 0) (holds : Name → ℕ → Bool) (f : F) → LeavesEach T holds f
    → (es kept : List (Name × Vec ℕ Z)) → RetainsPairs T f es kept → AllRise es → AllRise kept
retained_rise T holds f step [] kept r h = subst AllRise (sym r) tt
retained_rise {F} {Z} T holds f step (e ∷ es) kept r h =
    let left = step e.0 e.1 r.0 r.1 r.2 r.4 in
    let rises : IsRising r.1.items = subst IsRising (sym left.objects) (IsStrictlySortedBy-filter nat_cmp (holds e.0) e.1.items h.0) in
    subst AllRise (sym r.6) (by_case r.0 rises (retained_rise T holds f step es r.3 (subst (λ (x : F). RetainsPairs T x es r.3) left.again r.5) h.1)) where
      by_case : (t : Bool) → IsRising r.1.items → AllRise r.3 → AllRise (cond t ((e.0, r.1) ∷ r.3) r.3)
      by_case true k later = (k, later)
      by_case false k later = later

-- nothing is kept of a holder that has no row
retained_none : {F Z : Type 0} (T : F → Name → Vec ℕ Z → Bool → Vec ℕ Z → F → Type 0) (b : Name) (f : F) (es kept : List (Name × Vec ℕ Z))
    → RetainsPairs T f es kept → StandBehind b (keys_of es) → (n : ℕ) → has_object (rows_in kept) b n ≡ false
retained_none {F} {Z} T b f [] kept r h n = ap (λ (ks : List (Name × Vec ℕ Z)). has_object (rows_in ks) b n) r
retained_none {F} {Z} T b f (e ∷ es) kept r h n =
    ap (λ (ks : List (Name × Vec ℕ Z)). has_object (rows_in ks) b n) r.6 ∙ by_case r.0 (retained_none T b r.2 es r.3 r.5 h.1 n) where
      by_case : (t : Bool) → has_object (rows_in r.3) b n ≡ false → has_object (rows_in (cond t ((e.0, r.1) ∷ r.3) r.3)) b n ≡ false
      by_case true later = ap (λ (x : Row). has_number x.objects n) (row_behind (e.0, r.1) r.3 b (other_than b e.0 h.0)) ∙ later
      by_case false later = later

pub retained : {F Z : Type 0} (T : F → Name → Vec ℕ Z → Bool → Vec ℕ Z → F → Type 0) (holds : Name → ℕ → Bool) (f : F) → LeavesEach T holds f
    → (b : Name) (es kept : List (Name × Vec ℕ Z)) → RetainsPairs T f es kept → IsStrictlySortedBy name_cmp (keys_of es) → (n : ℕ)
    → has_object (rows_in kept) b n ≡ has_object (rows_in es) b n && holds b n
unfolding IsStrictlySortedBy
retained {F} {Z} T holds f step b [] kept r s n = ap (λ (ks : List (Name × Vec ℕ Z)). has_object (rows_in ks) b n) r
retained {F} {Z} T holds f step b (e ∷ es) kept r s n =
    let left = step e.0 e.1 r.0 r.1 r.2 r.4 in
    ap (λ (ks : List (Name × Vec ℕ Z)). has_object (rows_in ks) b n) r.6
    ∙ by_case (retained T holds f step b es r.3 (subst (λ (x : F). RetainsPairs T x es r.3) left.again r.5) s.1 n) r.0 refl (same_name e.0 b) refl where
      own : same_name e.0 b ≡ true → has_number r.1.items n ≡ has_number e.1.items n && holds b n
      own k =
          let left = step e.0 e.1 r.0 r.1 r.2 r.4 in
          ap (λ ns. has_number ns n) left.objects ∙ has_filter (holds e.0) e.1.items n
          ∙ ap (λ x. has_number e.1.items n && holds x n) (same_is e.0 b k)

      here : same_name e.0 b ≡ true → has_number e.1.items n && holds b n ≡ has_object (rows_in (e ∷ es)) b n && holds b n
      here k = ap (λ (x : Row). has_number x.objects n && holds b n) (sym (row_first e es b k))

      behind : same_name e.0 b ≡ false → has_object (rows_in es) b n && holds b n ≡ has_object (rows_in (e ∷ es)) b n && holds b n
      behind k = ap (λ (x : Row). has_number x.objects n && holds b n) (sym (row_behind e es b k))

      by_case : has_object (rows_in r.3) b n ≡ has_object (rows_in es) b n && holds b n → (t : Bool) → r.0 ≡ t → (u : Bool) → same_name e.0 b ≡ u
          → has_object (rows_in (cond t ((e.0, r.1) ∷ r.3) r.3)) b n ≡ has_object (rows_in (e ∷ es)) b n && holds b n
      by_case later true d true k = ap (λ (x : Row). has_number x.objects n) (row_first (e.0, r.1) r.3 b k) ∙ own k ∙ here k
      by_case later true d false k = ap (λ (x : Row). has_number x.objects n) (row_behind (e.0, r.1) r.3 b k) ∙ later ∙ behind k
      by_case later false d true k =
          let left = step e.0 e.1 r.0 r.1 r.2 r.4 in
          retained_none T b r.2 es r.3 r.5 (behind_same e.0 b (keys_of es) k s.0) n ∙ sym (ap (λ ns. has_number ns n) (left.none d)) ∙ own k ∙ here k
      by_case later false d false k = later ∙ behind k
