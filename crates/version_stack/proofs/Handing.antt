-- Owners and the ends of their overlays once the next holder, or the base, has what an owner had.
use Rattle.std.proofs.Common.{◌≡◌, ℕ, zero, suc, ◌+◌, ◌-◌, ◌<◌, Bool, true, false, List, [], ◌∷◌, length, get_or, set, refl, sym, ap, ◌∙◌, subst, arith, length-set, Some, None}
use Rattle.std.specs.List.{remove, position, position_from}
use Rattle.std.proofs.lemmas.List.Edits.{length-remove}
use Rattle.std.proofs.lemmas.List.Quantifiers.{position-Some}
use Rattle.std.proofs.lemmas.Iterator.Adapters.{position_from-zero}
use Rattle.action_names.specs.Names.{Name, same_name, is_ancestor, is_proper_ancestor}
use Rattle.action_names.proofs.Ancestry.{proper, proper_of, proper_below, same_is}
use Rattle.object_model.specs.Stacks.{Stack, passed, passed_above, settled, is_passed_by, RiseByAncestry, HasNoneBetween}
use Rattle.version_stack.specs.Layers.{rows, seen, EndsRise}

-- ---- what is seen of them

module _ {T : Type 0} (f : ℕ → T) where
  -- handing on is seen as it is done in rows, also from a row on
  passed_above_seen : (v : Name × ℕ) (vs : List (Name × ℕ)) (a p : Name) → passed_above (v.0, f v.1) (seen f vs) a p ≡ seen f (passed_above v vs a p)
  passed_above_seen v [] a p = refl
  passed_above_seen v (w ∷ vs) a p = by_case (passed_above_seen w vs a p) (same_name w.0 a) (same_name v.0 p) refl refl where
    by_case : passed_above (w.0, f w.1) (seen f vs) a p ≡ seen f (passed_above w vs a p) → (t u : Bool) → same_name w.0 a ≡ t → same_name v.0 p ≡ u
        → passed_above (v.0, f v.1) (seen f (w ∷ vs)) a p ≡ seen f (passed_above v (w ∷ vs) a p)
    by_case later true true d e = rw (d, e) refl
    by_case later true false d e = rw (d, e) refl
    by_case later false u d e = rw d (ap (λ ws. (v.0, f v.1) ∷ ws) later)

  -- handing on is seen as it is done in rows
  pub passed_seen : (vs : List (Name × ℕ)) (a p : Name) → passed (seen f vs) a p ≡ seen f (passed vs a p)
  passed_seen [] a p = refl
  passed_seen (v ∷ vs) a p = by_case (same_name v.0 a) refl where
    by_case : (t : Bool) → same_name v.0 a ≡ t → passed (seen f (v ∷ vs)) a p ≡ seen f (passed (v ∷ vs) a p)
    by_case true d = rw d refl
    by_case false d = rw d (passed_above_seen v vs a p)

  -- a stack of ends, as it is seen
  abbrev pub stack_seen : Stack ℕ → Stack T
  stack_seen s = record { base = f s.base; versions = seen f s.versions }

  -- what the base takes is seen as it is done in rows
  pub settled_seen : (s : ℕ) (vs : List (Name × ℕ)) (a : Name) → settled (f s) (seen f vs) a ≡ stack_seen (settled s vs a)
  settled_seen s [] a = refl
  settled_seen s (v ∷ vs) a = by_case (same_name v.0 a) refl where
    by_case : (t : Bool) → same_name v.0 a ≡ t → settled (f s) (seen f (v ∷ vs)) a ≡ stack_seen (settled s (v ∷ vs) a)
    by_case true d = simp d
    by_case false d = simp d

  -- whom a version stands between goes by owners alone
  pub none_between : (vs : List (Name × ℕ)) (a p : Name) → HasNoneBetween (seen f vs) a (Some p) → HasNoneBetween vs a (Some p)
  none_between [] a p h = tt
  none_between (v ∷ vs) a p h = (h.0, none_between vs a p h.1)

-- ---- owners

-- none of them is a
abbrev pub AreOthers : List Name → Name → Type 0
AreOthers [] a = Unit {0}
AreOthers (n ∷ ns) a = (same_name n a ≡ false) × AreOthers ns a

-- where a search, counted from any number on, found none
others_from : (ns : List Name) (a : Name) (k : ℕ) → position_from (λ b. same_name b a) k ns ≡ None → AreOthers ns a
others_from [] a k e = tt
others_from (n ∷ ns) a k e = by_case (others_from ns a (k + 1)) (same_name n a) refl e where
  by_case : (position_from (λ b. same_name b a) (k + 1) ns ≡ None → AreOthers ns a) → (t : Bool) → same_name n a ≡ t
      → position_from (λ b. same_name b a) k (n ∷ ns) ≡ None → AreOthers (n ∷ ns) a
  by_case later true d e = let none = rw d at e in absurd (cc)
  by_case later false d e = (d, later (rw d at e))

-- where a search found none
pub are_others : (ns : List Name) (a : Name) → position (λ b. same_name b a) ns ≡ None → AreOthers ns a
are_others ns a e = others_from ns a 0 (sym (position_from-zero (λ b. same_name b a) ns) ∙ e)

-- owners still rise once one is left out
rising_removed : (ns : List Name) (i : ℕ) → RiseByAncestry ns → RiseByAncestry (remove ns i)
rising_removed [] zero r = tt
rising_removed [] (suc i) r = tt
rising_removed (n ∷ []) zero r = tt
rising_removed (n ∷ m ∷ ns) zero r = r.1
rising_removed (n ∷ []) (suc zero) r = tt
rising_removed (n ∷ []) (suc (suc i)) r = tt
rising_removed (n ∷ m ∷ []) (suc zero) r = tt
rising_removed (n ∷ m ∷ o ∷ ns) (suc zero) r = (proper_below n m o (proper n m r.0).0 r.1.0, r.1.1)
rising_removed (n ∷ m ∷ ns) (suc (suc i)) r = (r.0, rising_removed (m ∷ ns) (suc i) r.1)

-- and once an ancestor stands in the place of one
rising_first : (p n : Name) (ns : List Name) → is_ancestor p n ≡ true → RiseByAncestry (n ∷ ns) → RiseByAncestry (p ∷ ns)
rising_first p n [] up r = tt
rising_first p n (m ∷ ns) up r = (proper_below p n m up r.0, r.1)

-- the same, where owners stand below it: the one right below has to be a proper ancestor
rising_above : (n : Name) (ns : List Name) (i : ℕ) (p d : Name) → i < length ns → is_ancestor p (get_or ns i d) ≡ true
    → is_proper_ancestor (get_or (n ∷ ns) i d) p ≡ true → RiseByAncestry (n ∷ ns) → RiseByAncestry (n ∷ set ns i p)
rising_above n [] i p d l up above r = absurd (omega arith)
rising_above n (m ∷ ns) zero p d l up above r = (above, rising_first p m ns up r.1)
rising_above n (m ∷ ns) (suc i) p d l up above r = (r.0, rising_above m ns i p d (omega arith) up above r.1)

-- an owner is a proper ancestor of the one above it
above_next : (n : Name) (ns : List Name) (i : ℕ) (d : Name) → i < length ns → RiseByAncestry (n ∷ ns)
    → is_proper_ancestor (get_or (n ∷ ns) i d) (get_or ns i d) ≡ true
above_next n [] i d l r = absurd (omega arith)
above_next n (m ∷ ns) zero d l r = r.0
above_next n (m ∷ ns) (suc i) d l r = above_next m ns i d (omega arith) r.1

-- no owner stands between
none_at : (ns : List Name) (es : List ℕ) (a p d : Name) (k : ℕ) → length ns ≡ length es → k < length ns
    → HasNoneBetween (rows ns es) a (Some p) → is_passed_by (get_or ns k d) a (Some p) ≡ true
none_at [] es a p d k l w h = absurd (omega arith)
none_at (n ∷ ns) [] a p d k l w h = absurd (omega arith)
none_at (n ∷ ns) (e ∷ es) a p d zero l w h = h.0
none_at (n ∷ ns) (e ∷ es) a p d (suc k) l w h = none_at ns es a p d k (omega arith) (omega arith) h.1

-- ---- a next holder

-- rows stay where none is the owner's
unpassed_above : (x : ℕ) (n : Name) (ns : List Name) (es : List ℕ) (a p : Name) → AreOthers ns a
    → passed_above (n, x) (rows ns es) a p ≡ (n, x) ∷ rows ns es
unpassed_above x n [] es a p h = refl
unpassed_above x n (m ∷ ns) [] a p h = refl
unpassed_above x n (m ∷ ns) (e ∷ es) a p h = rw h.0 (ap (λ vs. (n, x) ∷ vs) (unpassed_above e m ns es a p h.1))

-- where the owner has no version
pub unpassed : (ns : List Name) (es : List ℕ) (a p : Name) → AreOthers ns a → passed (rows ns es) a p ≡ rows ns es
unpassed [] es a p h = refl
unpassed (n ∷ ns) [] a p h = refl
unpassed (n ∷ ns) (e ∷ es) a p h = rw h.0 (unpassed_above e n ns es a p h.1)

-- the same from a row on: the next holder stands in the place of the owner
renamed_above : (x : ℕ) (n : Name) (ns : List Name) (es : List ℕ) (a p d : Name) (i : ℕ) → length ns ≡ length es → i < length ns
    → same_name (get_or ns i d) a ≡ true → ((k : ℕ) → k < i → same_name (get_or ns k d) a ≡ false) → same_name (get_or (n ∷ ns) i d) p ≡ false
    → (n, x) ∷ rows (set ns i p) es ≡ passed_above (n, x) (rows ns es) a p
renamed_above x n [] es a p d i l w here before other = absurd (omega arith)
renamed_above x n (m ∷ ns) [] a p d i l w here before other = absurd (omega arith)
renamed_above x n (m ∷ ns) (e ∷ es) a p d zero l w here before other = rw (here, other) refl
renamed_above x n (m ∷ ns) (e ∷ es) a p d (suc i) l w here before other =
    let first : same_name m a ≡ false = before 0 (omega arith) in
    rw first (ap (λ vs. (n, x) ∷ vs) (renamed_above e m ns es a p d i (omega arith) (omega arith) here (λ k h. before (suc k) (omega arith)) other))

-- where the next holder has none right below
renamed : (ns : List Name) (es : List ℕ) (a p d : Name) (i : ℕ) → length ns ≡ length es → i < length ns
    → same_name (get_or ns i d) a ≡ true → ((k : ℕ) → k < i → same_name (get_or ns k d) a ≡ false)
    → (0 < i → same_name (get_or ns (i - 1) d) p ≡ false) → rows (set ns i p) es ≡ passed (rows ns es) a p
renamed [] es a p d i l w here before other = absurd (omega arith)
renamed (n ∷ ns) [] a p d i l w here before other = absurd (omega arith)
renamed (n ∷ ns) (e ∷ es) a p d zero l w here before other = rw here refl
renamed (n ∷ ns) (e ∷ es) a p d (suc i) l w here before other =
    let first : same_name n a ≡ false = before 0 (omega arith) in
    let same : suc i - 1 ≡ i = omega arith in
    let apart : same_name (get_or (n ∷ ns) i d) p ≡ false = rw same at (other (omega arith)) in
    rw first (renamed_above e n ns es a p d i (omega arith) (omega arith) here (λ k h. before (suc k) (omega arith)) apart)

-- the same from a row on: the next holder's end is where the owner's was
raised_above : (x : ℕ) (n : Name) (ns : List Name) (es : List ℕ) (a p d : Name) (i : ℕ) → length ns ≡ length es → i < length ns
    → same_name (get_or ns i d) a ≡ true → ((k : ℕ) → k < i → same_name (get_or ns k d) a ≡ false) → same_name (get_or (n ∷ ns) i d) p ≡ true
    → rows (n ∷ remove ns i) (remove (x ∷ es) i) ≡ passed_above (n, x) (rows ns es) a p
raised_above x n [] es a p d i l w here before below = absurd (omega arith)
raised_above x n (m ∷ ns) [] a p d i l w here before below = absurd (omega arith)
raised_above x n (m ∷ ns) (e ∷ es) a p d zero l w here before below = rw (here, below) refl
raised_above x n (m ∷ ns) (e ∷ es) a p d (suc i) l w here before below =
    let first : same_name m a ≡ false = before 0 (omega arith) in
    rw first (ap (λ vs. (n, x) ∷ vs) (raised_above e m ns es a p d i (omega arith) (omega arith) here (λ k h. before (suc k) (omega arith)) below))

-- where it has one, which then ends where the owner's did
raised : (ns : List Name) (es : List ℕ) (a p d : Name) (i : ℕ) → length ns ≡ length es → suc i < length ns
    → same_name (get_or ns (suc i) d) a ≡ true → ((k : ℕ) → k < suc i → same_name (get_or ns k d) a ≡ false) → same_name (get_or ns i d) p ≡ true
    → rows (remove ns (suc i)) (remove es i) ≡ passed (rows ns es) a p
raised [] es a p d i l w here before below = absurd (omega arith)
raised (n ∷ ns) [] a p d i l w here before below = absurd (omega arith)
raised (n ∷ ns) (e ∷ es) a p d i l w here before below =
    let first : same_name n a ≡ false = before 0 (omega arith) in
    rw first (raised_above e n ns es a p d i (omega arith) (omega arith) here (λ k h. before (suc k) (omega arith)) below)

-- ends still rise once one is left out below another
ends_removed : (s n : ℕ) (es : List ℕ) (i : ℕ) → suc i < length es → EndsRise s es n → EndsRise s (remove es i) n
ends_removed s n [] i l h = absurd (omega arith)
ends_removed s n (e ∷ []) i l h = absurd (omega arith)
ends_removed s n (e ∷ d ∷ es) zero l h =
    let first : s < e = h.0 in
    let second : e < d = h.1.0 in
    (omega arith, h.1.1)
ends_removed s n (e ∷ d ∷ es) (suc i) l h = (h.0, ends_removed e n (d ∷ es) i (omega arith) h.1)

-- what handing on makes of owners and ends
pub record IsPassed (ns ms : List Name) (es fs : List ℕ) (a p : Name) : Type 0 where
  pub paired : length ms ≡ length fs
  pub rising : RiseByAncestry ms
  pub ends : (s n : ℕ) → EndsRise s es n → EndsRise s fs n
  pub passes : rows ms fs ≡ passed (rows ns es) a p

-- the next holder, right below the owner at this place, has overlays
pub raised_at : (ns : List Name) (es : List ℕ) (a p d : Name) (at : ℕ) → length ns ≡ length es → RiseByAncestry ns
    → position (λ b. same_name b a) ns ≡ Some at → 0 < at → same_name (get_or ns (at - 1) d) p ≡ true
    → IsPassed ns (remove ns at) es (remove es (at - 1)) a p
raised_at ns es a p d zero l r found some below = absurd (omega arith)
raised_at ns es a p d (suc i) l r found some below =
    let e : suc i - 1 ≡ i = omega arith in
    let q = position-Some (λ b. same_name b a) ns (suc i) d found in
    let within : suc i < length ns = q.0 in
    let within_ends : i < length es = omega arith in
    let one_less : length (remove ns (suc i)) + 1 ≡ length ns = length-remove ns (suc i) within in
    let one_end_less : length (remove es i) + 1 ≡ length es = length-remove es i within_ends in
    rw e record {
      paired = omega arith;
      rising = rising_removed ns (suc i) r;
      ends = λ s n h. ends_removed s n es i (omega arith) h;
      passes = raised ns es a p d i l within q.1 q.2 (rw e at below);
    }

-- the next holder has none
pub renamed_at : (ns : List Name) (es : List ℕ) (a p d : Name) (at : ℕ) → length ns ≡ length es → RiseByAncestry ns
    → position (λ b. same_name b a) ns ≡ Some at → (0 < at → same_name (get_or ns (at - 1) d) p ≡ false)
    → is_proper_ancestor p a ≡ true → HasNoneBetween (rows ns es) a (Some p)
    → IsPassed ns (set ns at p) es es a p
renamed_at ns es a p d at l r found other up between =
    let q = position-Some (λ b. same_name b a) ns at d found in
    record {
      paired = omega (arith, l, length-set ns at p);
      rising = rises ns es at l r q.0 q.1 other between;
      ends = λ s n h. h;
      passes = renamed ns es a p d at l q.0 q.1 q.2 other;
    } where
      proper_next : (b : Name) → is_proper_ancestor b a ≡ true → same_name b p ≡ false → is_passed_by b a (Some p) ≡ true
          → is_proper_ancestor b p ≡ true
      proper_next b h k w = proper_of b p (simp h at w) k

      rises : (ns : List Name) (es : List ℕ) (at : ℕ) → length ns ≡ length es → RiseByAncestry ns → at < length ns
          → same_name (get_or ns at d) a ≡ true
          → (0 < at → same_name (get_or ns (at - 1) d) p ≡ false) → HasNoneBetween (rows ns es) a (Some p) → RiseByAncestry (set ns at p)
      rises [] es at l r w here other between = absurd (omega arith)
      rises (n ∷ ns) es zero l r w here other between =
          rising_first p n ns (subst (λ x. is_ancestor p x ≡ true) (sym (same_is n a here)) (proper p a up).0) r
      rises (n ∷ ns) es (suc i) l r w here other between =
          let e : suc i - 1 ≡ i = omega arith in
          let same : get_or ns i d ≡ a = same_is (get_or ns i d) a here in
          let below : is_proper_ancestor (get_or (n ∷ ns) i d) a ≡ true =
          subst (λ x. is_proper_ancestor (get_or (n ∷ ns) i d) x ≡ true) same (above_next n ns i d (omega arith) r) in
          rising_above n ns i p d (omega arith) (subst (λ x. is_ancestor p x ≡ true) (sym same) (proper p a up).0)
          (proper_next (get_or (n ∷ ns) i d) below (rw e at (other (omega arith))) (none_at (n ∷ ns) es a p d i l (omega arith) between)) r
