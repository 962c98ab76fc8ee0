-- Versions of owners that rise by ancestry: what is written on top, handed on, changed or taken out.
use Rattle.std.proofs.Common.{Bool, List, None, Option, Some, [], ap, cond, false, filter, not, option_map, refl, subst, sym, true, ◌∙◌, ◌∷◌, ◌≡◌}
use Rattle.std.proofs.lemmas.Bool.{false≢true, true≢false}
use Rattle.std.specs.Prelude.{is_some}
use Rattle.action_names.specs.Names.{Name, is_ancestor, is_proper_ancestor, same_name}
use Rattle.action_names.proofs.Ancestry.{ancestor_antisym, ancestor_trans, proper, proper_below, proper_of, same_is, same_refl, same_sym}
use Rattle.object_model.specs.Stacks.{AreAbove, HasNoneBetween, RiseByAncestry, RisesByAncestry, Stack, changed_at, is_passed_by, last_version, owners_of, passed, passed_above, settled, version_at, with_top}

-- a has a version
abbrev pub Owns : {S : Type 0} → List (Name × S) → Name → Type 0
Owns vs a = is_some (version_at vs a) ≡ true

-- ---- which owners there are

pub rising_tail : {S : Type 0} (v : Name × S) (vs : List (Name × S)) → RisesByAncestry (v ∷ vs) → RisesByAncestry vs
rising_tail v [] r = tt
rising_tail v (w ∷ vs) r = r.1

-- an owner stands above those that come after it
pub first_above : {S : Type 0} (v : Name × S) (vs : List (Name × S)) (d : Name) → RisesByAncestry (v ∷ vs) → Owns vs d → is_proper_ancestor v.0 d ≡ true
first_above v [] d r w = absurd (false≢true w)
first_above v (u ∷ vs) d r w = by_case (first_above u vs d r.1) (same_name u.0 d) refl w where
  by_case : (is_some (version_at vs d) ≡ true → is_proper_ancestor u.0 d ≡ true) → (t : Bool) → same_name u.0 d ≡ t
      → is_some (version_at (u ∷ vs) d) ≡ true → is_proper_ancestor v.0 d ≡ true
  by_case later true e w = subst (λ x. is_proper_ancestor v.0 x ≡ true) (same_is u.0 d e) r.0
  by_case later false e w = proper_below v.0 u.0 d (proper v.0 u.0 r.0).0 (later (rw e at w))

-- it has one version alone
pub one_version : {S : Type 0} (v : Name × S) (vs : List (Name × S)) (d : Name) → RisesByAncestry (v ∷ vs) → same_name v.0 d ≡ true → version_at vs d ≡ None
one_version v vs d r e = by_case (version_at vs d) refl where
  by_case : (o : Option _) → version_at vs d ≡ o → version_at vs d ≡ None
  by_case None k = k
  by_case (Some x) k = absurd (true≢false (sym e ∙ (proper v.0 d (first_above v vs d r (ap is_some k))).1))

-- the first is an owner, and so are those after it
first_owns : {S : Type 0} (v : Name × S) (vs : List (Name × S)) → Owns (v ∷ vs) v.0
first_owns v vs = rw (same_refl v.0) refl

rest_owns : {S : Type 0} (v : Name × S) (vs : List (Name × S)) (d : Name) → Owns vs d → Owns (v ∷ vs) d
rest_owns v vs d w = by_case (same_name v.0 d) refl where
  by_case : (t : Bool) → same_name v.0 d ≡ t → is_some (version_at (v ∷ vs) d) ≡ true
  by_case true e = simp e
  by_case false e = simp e w

pub all_above : {S : Type 0} (vs : List (Name × S)) (a : Name) → ((d : Name) → Owns vs d → is_ancestor d a ≡ true) → AreAbove vs a
all_above [] a k = tt
all_above (v ∷ vs) a k = (k v.0 (first_owns v vs), all_above vs a (λ d w. k d (rest_owns v vs d w)))

pub none_between : {S : Type 0} (vs : List (Name × S)) (a : Name) (to : Option Name) → ((d : Name) → Owns vs d → is_passed_by d a to ≡ true)
    → HasNoneBetween vs a to
none_between [] a to k = tt
none_between (v ∷ vs) a to k = (k v.0 (first_owns v vs), none_between vs a to (λ d w. k d (rest_owns v vs d w)))

-- ---- the version on top

pub record Last {S : Type 0} (c : S) (vs : List (Name × S)) : Type 0 where
  pub owner : Name
  pub has_top : version_at vs owner ≡ Some (last_version c vs)

stands_above : (a b o : Name) → is_proper_ancestor a b ≡ true → (same_name b o ≡ true → same_name a o ≡ false) × (is_ancestor b o ≡ true → same_name a o ≡ false)
stands_above a b o p = (λ e. ap (λ x. same_name a x) (sym (same_is b o e)) ∙ (proper a b p).1, λ k. (proper a o (above k)).1)
  where
    above : is_ancestor b o ≡ true → is_proper_ancestor a o ≡ true
    above k = by_case (same_name a o) refl
      where
        by_case : (t : Bool) → same_name a o ≡ t → is_proper_ancestor a o ≡ true
        by_case false e = proper_of a o (ancestor_trans a b o (proper a b p).0 k) e
        by_case true e =
            let back : is_ancestor b a ≡ true = subst (λ x. is_ancestor b x ≡ true) (sym (same_is a o e)) k in
            let same = ancestor_antisym a b (proper a b p).0 back in
            absurd (true≢false (sym (subst (λ x. same_name a x ≡ true) same (same_refl a)) ∙ (proper a b p).1))

pub last_owner : {S : Type 0} (c : S) (v : Name × S) (vs : List (Name × S)) → RisesByAncestry (v ∷ vs) → Last c (v ∷ vs)
last_owner c v [] r = record { owner = v.0; has_top = rw (same_refl v.0) refl }
last_owner c v (w ∷ vs) r = step (last_owner c w vs r.1) where
  step : Last c (w ∷ vs) → Last c (v ∷ w ∷ vs)
  step i = record {
    owner = i.owner;
    has_top = rw ((proper v.0 i.owner (first_above v (w ∷ vs) i.owner r (ap is_some i.has_top))).1) i.has_top;
  }

-- ---- a version on top more

-- the versions after a write on top
pub top_at : {S : Type 0} (vs : List (Name × S)) (a b : Name) (x : S) → RisesByAncestry vs → AreAbove vs a
    → (same_name a b ≡ true → version_at (with_top vs a x) b ≡ Some x) × (same_name a b ≡ false → version_at (with_top vs a x) b ≡ version_at vs b)
top_at [] a b x r above = (λ e. simp e, λ e. simp e)
top_at (v ∷ []) a b x r above = by_case (same_name v.0 a) refl where
  by_case : (t : Bool) → same_name v.0 a ≡ t
      → (same_name a b ≡ true → version_at (with_top (v ∷ []) a x) b ≡ Some x) × (same_name a b ≡ false → version_at (with_top (v ∷ []) a x) b ≡ version_at (v ∷ []) b)
  by_case true d =
      let same : v.0 ≡ a = same_is v.0 a d in
      (λ e. simp d (rw (ap (λ y. same_name y b) same ∙ e) refl), λ e. simp d (rw (ap (λ y. same_name y b) same ∙ e) refl))
  by_case false d = (λ e. simp d (first e), λ e. simp (d, e)) where
    first : same_name a b ≡ true → (cond (same_name v.0 b) (Some v.1) (cond (same_name a b) (Some x) None)) ≡ Some x
    first e =
        let q : same_name v.0 b ≡ false = subst (λ y. same_name v.0 y ≡ false) (same_is a b e) d in
        simp (q, e)
top_at (v ∷ w ∷ vs) a b x r above = (
  λ e. rw ((stands_above v.0 w.0 b r.0).1 (subst (λ y. is_ancestor w.0 y ≡ true) (same_is a b e) above.1.0)) ((top_at (w ∷ vs) a b x r.1 above.1).0 e),
  λ e. ap (λ o. cond (same_name v.0 b) (Some v.1) o) ((top_at (w ∷ vs) a b x r.1 above.1).1 e),
)

pub top_rises : {S : Type 0} (vs : List (Name × S)) (a : Name) (x : S) → RisesByAncestry vs → AreAbove vs a → RisesByAncestry (with_top vs a x)
top_rises [] a x r above = tt
top_rises {S} (v ∷ []) a x r above = by_case (same_name v.0 a) refl where
  by_case : (t : Bool) → same_name v.0 a ≡ t → RiseByAncestry (owners_of {T = S} (cond t ((v.0, x) ∷ []) (v ∷ (a, x) ∷ [])))
  by_case true d = tt
  by_case false d = (proper_of v.0 a above.0 d, tt)
top_rises {S} (v ∷ w ∷ []) a x r above = by_case (same_name w.0 a) refl where
  by_case : (t : Bool) → same_name w.0 a ≡ t → RiseByAncestry (owners_of {T = S} (v ∷ cond t ((w.0, x) ∷ []) (w ∷ (a, x) ∷ [])))
  by_case true d = (r.0, tt)
  by_case false d = (r.0, (proper_of w.0 a above.1.0 d, tt))
top_rises (v ∷ w ∷ u ∷ vs) a x r above = (r.0, top_rises (w ∷ u ∷ vs) a x r.1 above.1)

-- ---- versions that are left

-- one is left out
skip : {S : Type 0} (v w : Name × S) (vs : List (Name × S)) → RisesByAncestry (v ∷ w ∷ vs) → RisesByAncestry (v ∷ vs)
skip v w [] r = tt
skip v w (u ∷ vs) r = (proper_below v.0 w.0 u.0 (proper v.0 w.0 r.0).0 r.1.0, r.1.1)

left_behind : {S : Type 0} (p : Name → Bool) (v : Name × S) (vs : List (Name × S)) → RisesByAncestry (v ∷ vs) → RisesByAncestry (v ∷ filter (λ w. p w.0) vs)
left_behind p v [] r = tt
left_behind {S} p v (w ∷ vs) r = by_case (p w.0) (left_behind p w vs r.1) (left_behind p v vs (skip v w vs r)) where
  rest : List (Name × S)
  rest = filter (λ w. p w.0) vs

  by_case : (t : Bool) → RisesByAncestry (w ∷ rest) → RisesByAncestry (v ∷ rest) → RisesByAncestry (v ∷ cond t (w ∷ rest) rest)
  by_case true k l = (r.0, k)
  by_case false k l = l

pub left_rise : {S : Type 0} (p : Name → Bool) (vs : List (Name × S)) → RisesByAncestry vs → RisesByAncestry (filter (λ v. p v.0) vs)
left_rise p [] r = tt
left_rise {S} p (v ∷ vs) r = by_case (p v.0) (left_behind p v vs r) (left_rise p vs (rising_tail v vs r)) where
  rest : List (Name × S)
  rest = filter (λ w. p w.0) vs

  by_case : (t : Bool) → RisesByAncestry (v ∷ rest) → RisesByAncestry rest → RisesByAncestry (cond t (v ∷ rest) rest)
  by_case true k l = k
  by_case false k l = l

pub left_at : {S : Type 0} (p : Name → Bool) (vs : List (Name × S)) (b : Name)
    → version_at (filter (λ v. p v.0) vs) b ≡ cond (p b) (version_at vs b) None
left_at {S} p [] b = by_case (p b) None refl where
  by_case : (t : Bool) (o : Option S) → o ≡ None → o ≡ cond t o None
  by_case true o e = refl
  by_case false o e = e
left_at {S} p (v ∷ vs) b = by_case (p v.0) refl (same_name v.0 b) refl (left_at p vs b) where
  rest : List (Name × S)
  rest = filter (λ w. p w.0) vs

  by_case : (t : Bool) → p v.0 ≡ t → (s : Bool) → same_name v.0 b ≡ s → version_at rest b ≡ cond (p b) (version_at vs b) None
      → version_at (cond t (v ∷ rest) rest) b ≡ cond (p b) (cond s (Some v.1) (version_at vs b)) None
  by_case true e true d ih = simp (d, ap p (sym (same_is v.0 b d)) ∙ e)
  by_case true e false d ih = simp d ih
  by_case false e true d ih = ih ∙ simp (ap p (sym (same_is v.0 b d)) ∙ e)
  by_case false e false d ih = ih

-- ---- a version is changed

pub changed_rise : {S : Type 0} (change : S → S) (vs : List (Name × S)) (a : Name) → owners_of (changed_at change vs a) ≡ owners_of vs
changed_rise change [] a = refl
changed_rise {S} change (v ∷ vs) a = by_case (same_name v.0 a) (changed_rise change vs a) where
  by_case : (t : Bool) → owners_of (changed_at change vs a) ≡ owners_of vs
      → owners_of {T = S} (cond t ((v.0, change v.1) ∷ vs) (v ∷ changed_at change vs a)) ≡ v.0 ∷ owners_of vs
  by_case true e = refl
  by_case false e = ap (λ ns. v.0 ∷ ns) e

pub changed_version : {S : Type 0} (change : S → S) (vs : List (Name × S)) (a b : Name)
    → version_at (changed_at change vs a) b ≡ cond (same_name a b) (option_map change (version_at vs b)) (version_at vs b)
changed_version {S} change [] a b = by_case (same_name a b) None refl where
  by_case : (t : Bool) (o : Option S) → o ≡ None → o ≡ cond t (option_map change o) o
  by_case true o e = e ∙ sym (ap (λ p. option_map change p) e)
  by_case false o e = refl
changed_version {S} change (v ∷ vs) a b = by_case (same_name v.0 a) refl (same_name v.0 b) refl (changed_version change vs a b) where
  by_case : (t : Bool) → same_name v.0 a ≡ t → (s : Bool) → same_name v.0 b ≡ s
      → version_at (changed_at change vs a) b ≡ cond (same_name a b) (option_map change (version_at vs b)) (version_at vs b)
      → version_at (cond t ((v.0, change v.1) ∷ vs) (v ∷ changed_at change vs a)) b
      ≡ cond (same_name a b) (option_map change (cond s (Some v.1) (version_at vs b))) (cond s (Some v.1) (version_at vs b))
  by_case true e true d ih = simp (d, ap (λ x. same_name x b) (sym (same_is v.0 a e)) ∙ d)
  by_case true e false d ih = simp (d, ap (λ x. same_name x b) (sym (same_is v.0 a e)) ∙ d)
  by_case false e true d ih = simp (d, ap (λ x. same_name a x) (sym (same_is v.0 b d)) ∙ turned (same_name a v.0) refl) where
    turned : (t : Bool) → same_name a v.0 ≡ t → same_name a v.0 ≡ false
    turned true k = absurd (true≢false (sym (same_sym a v.0 k) ∙ e))
    turned false k = k
  by_case false e false d ih = simp d ih

-- ---- a version is handed on

-- b is d, and so is not a, which d is not
apart_from : (d a b : Name) → same_name d b ≡ true → same_name d a ≡ false → same_name a b ≡ false
apart_from d a b e f = by_case (same_name a b) refl where
  by_case : (t : Bool) → same_name a b ≡ t → same_name a b ≡ false
  by_case true k = absurd (true≢false (sym e ∙ sym (ap (same_name d) (same_is a b k)) ∙ f))
  by_case false k = k

abbrev pub or_else : {S : Type 0} → Option S → Option S → Option S
or_else None y = y
or_else (Some x) y = Some x

-- the version of b once p has a's
abbrev pub version_then : {S : Type 0} → List (Name × S) → Name → Name → Name → Option S
version_then vs a p b = cond (same_name p b) (or_else (version_at vs a) (version_at vs b)) (cond (same_name a b) None (version_at vs b))

-- a has no version above an owner that stands between
none_above : {S : Type 0} (w : Name × S) (vs : List (Name × S)) (a p : Name) → RisesByAncestry (w ∷ vs) → HasNoneBetween (w ∷ vs) a (Some p)
    → is_proper_ancestor p w.0 ≡ true → version_at vs a ≡ None
none_above w vs a p r between above = by_case (version_at vs a) refl where
  by_case : (o : Option _) → version_at vs a ≡ o → version_at vs a ≡ None
  by_case None k = k
  by_case (Some x) k =
      let h : is_proper_ancestor w.0 a ≡ true = first_above w vs a r (ap is_some k) in
      let up : is_ancestor w.0 p ≡ true = simp h at between.0 in
      let q = proper p w.0 above in
      let same : p ≡ w.0 = ancestor_antisym p w.0 q.0 up in
      absurd (true≢false (sym (same_refl p) ∙ ap (same_name p) same ∙ q.1))

passed_above_at : {S : Type 0} (v : Name × S) (vs : List (Name × S)) (a p b : Name) → RisesByAncestry (v ∷ vs) → HasNoneBetween vs a (Some p)
    → same_name v.0 a ≡ false → version_at (passed_above v vs a p) b ≡ version_then (v ∷ vs) a p b
passed_above_at {S} v [] a p b r between apart = simp apart (by_case (same_name p b) (same_name a b) refl (same_name v.0 b) refl) where
  by_case : (s t : Bool) → same_name a b ≡ t → (u : Bool) → same_name v.0 b ≡ u
      → (cond u (Some v.1) None) ≡ (cond s (cond u (Some v.1) None) (cond t None (cond u (Some v.1) None)))
  by_case true t e u d = refl
  by_case false false e u d = refl
  by_case false true e false d = refl
  by_case false true e true d = absurd (true≢false (sym e ∙ apart_from v.0 a b d apart))
passed_above_at {S} v (w ∷ vs) a p b r between apart = by_case (passed_above_at w vs a p b r.1 between.1) (same_name w.0 a) refl (same_name v.0 p) refl where
  -- w is a's, and v p's
  joins : same_name w.0 a ≡ true → same_name v.0 p ≡ true → (s : Bool) → same_name p b ≡ s → (t : Bool) → same_name a b ≡ t
      → version_at ((v.0, w.1) ∷ vs) b ≡ version_then (v ∷ w ∷ vs) a p b
  joins e d true k t h = simp (apart, e, ap (λ x. same_name x b) (same_is v.0 p d) ∙ k, k)
  joins e d false k true h =
      simp (apart, e, ap (λ x. same_name x b) (same_is v.0 p d) ∙ k, k, h) (one_version w vs b r.1 (ap (λ x. same_name x b) (same_is w.0 a e) ∙ h))
  joins e d false k false h = simp (apart, e, ap (λ x. same_name x b) (same_is v.0 p d) ∙ k, k, h, ap (λ x. same_name x b) (same_is w.0 a e) ∙ h)

  -- w is a's, and v another's
  renames : same_name w.0 a ≡ true → same_name v.0 p ≡ false → (s : Bool) → same_name p b ≡ s → (t : Bool) → same_name a b ≡ t → (u : Bool) → same_name v.0 b ≡ u
      → version_at (v ∷ (p, w.1) ∷ vs) b ≡ version_then (v ∷ w ∷ vs) a p b
  renames e d true k t h true j = absurd (true≢false (sym k ∙ apart_from v.0 p b j d))
  renames e d true k t h false j = simp (apart, e, k, j)
  renames e d false k true h true j = absurd (true≢false (sym h ∙ apart_from v.0 a b j apart))
  renames e d false k true h false j = simp (apart, e, k, h, j) (one_version w vs b r.1 (ap (λ x. same_name x b) (same_is w.0 a e) ∙ h))
  renames e d false k false h true j = simp (apart, e, k, h, j)
  renames e d false k false h false j = simp (apart, e, k, h, j, ap (λ x. same_name x b) (same_is w.0 a e) ∙ h)

  -- w is another's
  deeper : same_name w.0 a ≡ false → version_at (passed_above w vs a p) b ≡ version_then (w ∷ vs) a p b → (s : Bool) → same_name p b ≡ s → (u : Bool) → same_name v.0 b ≡ u
      → version_at (v ∷ passed_above w vs a p) b ≡ version_then (v ∷ w ∷ vs) a p b
  deeper e ih s k false j = simp (j, apart) ih
  deeper e ih false k true j = simp (j, k, apart_from v.0 a b j apart)
  deeper e ih true k true j =
      let same : v.0 ≡ p = same_is v.0 b j ∙ sym (same_is p b k) in
      let none : version_at vs a ≡ None = none_above w vs a p r.1 between (subst (λ x. is_proper_ancestor x w.0 ≡ true) same r.0) in
      simp (j, k, apart, e, none)

  chosen : (t u : Bool) → same_name w.0 a ≡ t → same_name v.0 p ≡ u → version_at (passed_above v (w ∷ vs) a p) b
      ≡ version_at (cond t (cond u ((v.0, w.1) ∷ vs) (v ∷ (p, w.1) ∷ vs)) (v ∷ passed_above w vs a p)) b
  chosen t u e d = rw (e, d) refl

  by_case : (same_name w.0 a ≡ false → version_at (passed_above w vs a p) b ≡ version_then (w ∷ vs) a p b) → (t : Bool) → same_name w.0 a ≡ t
      → (u : Bool) → same_name v.0 p ≡ u → version_at (passed_above v (w ∷ vs) a p) b ≡ version_then (v ∷ w ∷ vs) a p b
  by_case ih true e true d = chosen true true e d ∙ joins e d (same_name p b) refl (same_name a b) refl
  by_case ih true e false d = chosen true false e d ∙ renames e d (same_name p b) refl (same_name a b) refl (same_name v.0 b) refl
  by_case ih false e u d = chosen false u e d ∙ deeper e (ih e) (same_name p b) refl (same_name v.0 b) refl

-- the versions once p has a's
pub passed_at : {S : Type 0} (vs : List (Name × S)) (a p b : Name) → RisesByAncestry vs → HasNoneBetween vs a (Some p)
    → version_at (passed vs a p) b ≡ version_then vs a p b
passed_at {S} [] a p b r between = none (same_name p b) (same_name a b) None refl where
  none : (s t : Bool) (x : Option S) → x ≡ None → x ≡ (cond s x (cond t None x))
  none true t x e = refl
  none false true x e = e
  none false false x e = refl
passed_at {S} (v ∷ vs) a p b r between = by_case (same_name v.0 a) refl where
  renames : same_name v.0 a ≡ true → (s : Bool) → same_name p b ≡ s → (t : Bool) → same_name a b ≡ t
      → version_at ((p, v.1) ∷ vs) b ≡ version_then (v ∷ vs) a p b
  renames e true k t h = simp (e, k)
  renames e false k true h = simp (e, k, h) (one_version v vs b r (ap (λ x. same_name x b) (same_is v.0 a e) ∙ h))
  renames e false k false h = simp (e, k, h, ap (λ x. same_name x b) (same_is v.0 a e) ∙ h)

  by_case : (t : Bool) → same_name v.0 a ≡ t → version_at (passed (v ∷ vs) a p) b ≡ version_then (v ∷ vs) a p b
  by_case true e = ap (λ (t : Bool). version_at (cond t ((p, v.1) ∷ vs) (passed_above v vs a p)) b) e ∙ renames e (same_name p b) refl (same_name a b) refl
  by_case false e = ap (λ (t : Bool). version_at (cond t ((p, v.1) ∷ vs) (passed_above v vs a p)) b) e ∙ passed_above_at v vs a p b r between.1 e

-- an ancestor in the place of the first
rising_first : (p n : Name) (ns : List Name) → is_ancestor p n ≡ true → RiseByAncestry (n ∷ ns) → RiseByAncestry (p ∷ ns)
rising_first p n [] up r = tt
rising_first p n (m ∷ ns) up r = (proper_below p n m up r.0, r.1)

-- they rise, and behind whoever is above the first
abbrev RiseBehind : {S : Type 0} → Name → List (Name × S) → Type 0
RiseBehind n vs = RisesByAncestry vs × ((m : Name) → is_proper_ancestor m n ≡ true → RiseByAncestry (m ∷ owners_of vs))

passed_above_rises : {S : Type 0} (v : Name × S) (vs : List (Name × S)) (a p : Name) → RisesByAncestry (v ∷ vs) → HasNoneBetween (v ∷ vs) a (Some p)
    → is_ancestor p a ≡ true → RiseBehind v.0 (passed_above v vs a p)
passed_above_rises v [] a p r between up = (tt, λ n h. (h, tt))
passed_above_rises {S} v (w ∷ vs) a p r between up =
    by_case (same_name w.0 a) refl (same_name v.0 p) refl (passed_above_rises w vs a p r.1 between.1 up) where
      by_case : (t : Bool) → same_name w.0 a ≡ t → (u : Bool) → same_name v.0 p ≡ u → RiseBehind w.0 (passed_above w vs a p)
          → RiseBehind {S = S} v.0 (cond t (cond u ((v.0, w.1) ∷ vs) (v ∷ (p, w.1) ∷ vs)) (v ∷ passed_above w vs a p))
      by_case true e true d ih = let q = skip v w vs r in (q, λ n h. (h, q))
      by_case true e false d ih =
          let same : w.0 ≡ a = same_is w.0 a e in
          let below : is_proper_ancestor v.0 a ≡ true = subst (λ x. is_proper_ancestor v.0 x ≡ true) same r.0 in
          let above : is_ancestor v.0 p ≡ true = simp below at between.0 in
          let q : RiseByAncestry (v.0 ∷ p ∷ owners_of vs) = (proper_of v.0 p above d, rising_first p w.0 (owners_of vs) (subst (λ x. is_ancestor p x ≡ true) (sym same) up) r.1) in
          (q, λ n h. (h, q))
      by_case false e u d ih = let q = ih.1 v.0 r.0 in (q, λ n h. (h, q))

pub passed_rises : {S : Type 0} (vs : List (Name × S)) (a p : Name) → RisesByAncestry vs → HasNoneBetween vs a (Some p) → is_ancestor p a ≡ true
    → RisesByAncestry (passed vs a p)
passed_rises [] a p r between up = tt
passed_rises {S} (v ∷ vs) a p r between up = by_case (same_name v.0 a) refl where
  by_case : (t : Bool) → same_name v.0 a ≡ t → RisesByAncestry {T = S} (cond t ((p, v.1) ∷ vs) (passed_above v vs a p))
  by_case true e = rising_first p v.0 (owners_of vs) (subst (λ x. is_ancestor p x ≡ true) (sym (same_is v.0 a e)) up) r
  by_case false e = (passed_above_rises v vs a p r between up).0

-- the base has a's
pub record IsSettled {S : Type 0} (vs : List (Name × S)) (a : Name) (x base : S) (left : List (Name × S)) : Type 0 where
  pub base_is : base ≡ x
  pub rises : RisesByAncestry left
  pub at : (b : Name) → version_at left b ≡ cond (same_name a b) None (version_at vs b)

pub settled_is : {S : Type 0} (c : S) (vs : List (Name × S)) (a : Name) (x : S) → RisesByAncestry vs → HasNoneBetween vs a None → version_at vs a ≡ Some x
    → IsSettled vs a x (settled c vs a).base (settled c vs a).versions
settled_is c [] a x r between h = absurd (false≢true (ap is_some h))
settled_is {S} c (v ∷ vs) a x r between h = by_case (same_name v.0 a) refl h where
  first : same_name v.0 a ≡ true → (b : Name) (t : Bool) → same_name a b ≡ t → version_at vs b ≡ cond (same_name a b) None (version_at (v ∷ vs) b)
  first e b true d = simp d (one_version v vs b r (ap (λ x. same_name x b) (same_is v.0 a e) ∙ d))
  first e b false d = simp (d, ap (λ x. same_name x b) (same_is v.0 a e) ∙ d)

  by_case : (t : Bool) → same_name v.0 a ≡ t → cond t (Some v.1) (version_at vs a) ≡ Some x
      → IsSettled (v ∷ vs) a x
      (let s : Stack S = cond t (record { base = v.1; versions = vs }) (record { base = c; versions = v ∷ vs }) in s.base)
      (let s : Stack S = cond t (record { base = v.1; versions = vs }) (record { base = c; versions = v ∷ vs }) in s.versions)
  by_case true e k = let is : v.1 ≡ x = cc in record { base_is = is; rises = rising_tail v vs r; at = λ b. first e b (same_name a b) refl }
  by_case false e k =
      let up = first_above v vs a r (ap is_some k) in
      absurd (true≢false (sym between.0 ∙ ap (λ t. not t) up))
