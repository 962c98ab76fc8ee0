-- Objects of which a store gave parts back.
use Rattle.std.proofs.Common.{append-nil, Bool, List, None, Option, Some, [], ap, ap₂, arith, cond, eqb-true, false, filter, inl, inr, length, map, refl, subst, suc, sym, take, true, zero, ℕ, ◌&&◌, ◌++◌, ◌<◌, ◌==◌, ◌∙◌, ◌∷◌, ◌≡◌, ◌≤◌, ◌||◌, pos}
use Rattle.std.proofs.lemmas.Bool.{and_right, eq-eqb, ne_eqb, or_from, or_left, or_parts}
use Rattle.std.proofs.Math.ListN.{length-append}
use Rattle.std.proofs.lemmas.Option.{none-some, same_Some}
use Rattle.std.specs.List.{AllByRecursion}
use Rattle.std.specs.Prelude.{is_some, slice_get}
use Rattle.action_names.specs.Names.{Name, has_name, same_name}
use Rattle.values.specs.declared.content.Content.{Content}
use Rattle.atomic_types.specs.declared.part.Part.{Part}
use Rattle.atomic_types.specs.declared.part.Part.TheVariants.{Delta, Value}
use Rattle.atomic_types.specs.Counters.{sum_of}
use Rattle.run_model.specs.declared.step.ObjectId.{ObjectId}
use Rattle.run_model.specs.LocalReadings.{LocalEvent, standing_here, told_committed_here}
use Rattle.run_model.specs.Openings.{Held, Opening, first_content, objects_at}
use Rattle.run_model.specs.Reopening.{life_before}
use Rattle.run_model.specs.StableContent.{Prepared}
use Rattle.run_model.specs.Telling.{holder_by}
use Rattle.run_laws.proofs.Names.{descendant_is_own, eqb_self, front_alone, same_name_self}
use Rattle.local_laws.specs.Reopened.{AreRising, IsDelta, IsReopened, MayStand, is_prepared, parts_of}
use Rattle.local_laws.specs.Reopened as records
use Rattle.local_laws.proofs.Reopened.{life_before_is}
use Rattle.object_model.specs.Objects.{IsRestored, Seen, delta_in, untouched, value_in}
use Rattle.object_model.specs.Stacks.{version_at}
use Rattle.object_laws.specs.Changes.{given}
use Rattle.object_laws.specs.Laws.{AreApart, AreTheirs, is_concerned}
use Rattle.object_laws.specs.Shown.{PartFits, Shows}
use Rattle.object_laws.proofs.Choosing.{holds_own}
use Rattle.object_laws.proofs.Names.{none_rise}
use Rattle.object_laws.proofs.Restored.{restored_shows}
use Rattle.overlays.specs.ContentOverlays.{HaveSameOps}
use Rattle.guardian_index.specs.Held.{has_object}
use Rattle.atomic_object.specs.Kept.{Kept, seen}
use Rattle.atomic_object.specs.Restored.{MayStandToo, MayTake}
use Rattle.guardian_objects.specs.Objects.{AreObjects, Indexed, holds_at, holds_of, object_at, object_of}
use Rattle.guardian_objects.specs.Restored.{AllSuit, AreGivenBack, AreRestorable, HaveBack, IsGivenBack, MayTakeAt, Suits, with_record}
use Rattle.guardian_objects.specs.Turns.{AreChanged}
use Rattle.guardian_objects.proofs.Begun.{AreUntouched}
use Rattle.guardian_objects.proofs.Places.{object_before, object_there}

-- ---- parts that rise

-- of these parts those of an object, as t's
abbrev pub own_parts : Name → List (ℕ × Part) → ℕ → List (Name × Part)
own_parts t parts n = map (λ v. (t, v.1)) (filter (λ v. v.0 == n) parts)

pub parts_front : (g n : ℕ) (t : Name) (home : ℕ) (parts : List (ℕ × Part)) (rs : List (Name × Prepared))
    → parts_of g (with_record t home parts rs) (record { guardian = g; number = n }) ≡ own_parts t parts n ++ parts_of g rs (record { guardian = g; number = n })
parts_front g n t home parts rs = ap (λ x. cond x (own_parts t parts n) [] ++ parts_of g rs (record { guardian = g; number = n })) (eqb_self g)

module _ (t : Name) where
  none_low : (m n : ℕ) (parts : List (ℕ × Part)) → AreRising m parts → n ≤ m → filter (λ v. v.0 == n) parts ≡ []
  none_low m n [] h l = refl
  none_low m n (p ∷ parts) h l =
      let less = h.0 in
      ap (λ b. cond b (p ∷ filter (λ v. v.0 == n) parts) (filter (λ v. v.0 == n) parts)) (ne_eqb p.0 n (λ e. omega arith))
      ∙ none_low p.0 n parts h.1 (omega arith)

  -- at most one of them is of an object
  few : (m n : ℕ) (parts : List (ℕ × Part)) → AreRising m parts → length (filter (λ v. v.0 == n) parts) ≤ 1
  few m n [] h = omega arith
  few m n (p ∷ parts) h = of (p.0 == n) refl (few p.0 n parts h.1)
    where
      of : (b : Bool) → (p.0 == n) ≡ b → length (filter (λ v. v.0 == n) parts) ≤ 1
          → length (cond b (p ∷ filter (λ v. v.0 == n) parts) (filter (λ v. v.0 == n) parts)) ≤ 1
      of true e ih =
          let none = ap (λ vs. length vs) (none_low p.0 n parts h.1 (let k = eqb-true p.0 n e in omega (arith, k))) in
          omega (arith, none)
      of false e ih = ih

  above : (m i : ℕ) (parts : List (ℕ × Part)) (p : ℕ × Part) → AreRising m parts → slice_get parts i ≡ Some p → m < p.0
  above m i [] p h e = absurd (none-some p e)
  above m zero (q ∷ parts) p h e = subst (λ x. m < x.0) (same_Some q p e) h.0
  above m (suc i) (q ∷ parts) p h e = let more = above q.0 i parts p h.1 e in let first = h.0 in omega (arith, more, first)

  -- of those before one of them none is of its object, and of all it is the one
  before_it : (m i : ℕ) (parts : List (ℕ × Part)) (p : ℕ × Part) → AreRising m parts → slice_get parts i ≡ Some p → own_parts t (take i parts) p.0 ≡ []
  before_it m i [] p h e = absurd (none-some p e)
  before_it m zero (q ∷ parts) p h e = refl
  before_it m (suc i) (q ∷ parts) p h e =
      let more = above q.0 i parts p h.1 e in
      ap (λ b. map (λ (v : ℕ × Part). (t, v.1)) (cond b (q ∷ filter (λ v. v.0 == p.0) (take i parts)) (filter (λ v. v.0 == p.0) (take i parts)))) (ne_eqb q.0 p.0 (λ k. omega (arith, more, k)))
      ∙ before_it q.0 i parts p h.1 e

  it_alone : (m i : ℕ) (parts : List (ℕ × Part)) (p : ℕ × Part) → AreRising m parts → slice_get parts i ≡ Some p → own_parts t parts p.0 ≡ (t, p.1) ∷ []
  it_alone m i [] p h e = absurd (none-some p e)
  it_alone m zero (q ∷ parts) p h e =
      let same : q ≡ p = same_Some q p e in
      ap (λ b. map (λ (v : ℕ × Part). (t, v.1)) (cond b (q ∷ filter (λ v. v.0 == p.0) parts) (filter (λ v. v.0 == p.0) parts)))
      (eq-eqb q.0 p.0 (ap (λ x. x.0) same))
      ∙ ap₂ (λ x vs. (t, x.1) ∷ map (λ (v : ℕ × Part). (t, v.1)) vs) same
      (none_low q.0 p.0 parts h.1 (let k = ap (λ x. x.0) same in omega (arith, k)))
  it_alone m (suc i) (q ∷ parts) p h e =
      let more = above q.0 i parts p h.1 e in
      ap (λ b. map (λ (v : ℕ × Part). (t, v.1)) (cond b (q ∷ filter (λ v. v.0 == p.0) parts) (filter (λ v. v.0 == p.0) parts))) (ne_eqb q.0 p.0 (λ k. omega (arith, more, k)))
      ∙ it_alone q.0 i parts p h.1 e

  take_more : {X : Type 0} (i : ℕ) (xs : List X) (x : X) → slice_get xs i ≡ Some x → take (suc i) xs ≡ take i xs ++ x ∷ []
  take_more i [] x e = absurd (none-some x e)
  take_more zero (y ∷ xs) x e = ap (λ z. z ∷ []) (same_Some y x e)
  take_more (suc i) (y ∷ xs) x e = ap (λ zs. y ∷ zs) (take_more i xs x e)

  own_append : (n : ℕ) (xs ys : List (ℕ × Part)) → own_parts t (xs ++ ys) n ≡ own_parts t xs n ++ own_parts t ys n
  own_append n [] ys = refl
  own_append n (x ∷ xs) ys = of (x.0 == n) (own_append n xs ys)
    where
      of : (b : Bool) → own_parts t (xs ++ ys) n ≡ own_parts t xs n ++ own_parts t ys n
          → map (λ (v : ℕ × Part). (t, v.1)) (cond b (x ∷ filter (λ v. v.0 == n) (xs ++ ys)) (filter (λ v. v.0 == n) (xs ++ ys)))
          ≡ map (λ (v : ℕ × Part). (t, v.1)) (cond b (x ∷ filter (λ v. v.0 == n) xs) (filter (λ v. v.0 == n) xs)) ++ own_parts t ys n
      of true ih = ap (λ vs. (t, x.1) ∷ vs) ih
      of false ih = ih

  -- with one more, its object has it, and the others have what they had
  more_own : (m i n : ℕ) (parts : List (ℕ × Part)) (p : ℕ × Part) → AreRising m parts → slice_get parts i ≡ Some p → p.0 ≡ n
      → own_parts t (take (suc i) parts) n ≡ (t, p.1) ∷ own_parts t (take i parts) n
  more_own m i n parts p h e same =
      let none : own_parts t (take i parts) n ≡ [] = ap (λ k. own_parts t (take i parts) k) (sym same) ∙ before_it m i parts p h e in
      ap (λ ps. own_parts t ps n) (take_more i parts p e) ∙ own_append n (take i parts) (p ∷ [])
      ∙ ap (λ vs. vs ++ own_parts t (p ∷ []) n) none
      ∙ ap (λ b. map (λ (v : ℕ × Part). (t, v.1)) (cond b (p ∷ []) [])) (eq-eqb p.0 n same)
      ∙ ap (λ vs. (t, p.1) ∷ vs) (sym none)

  more_others : (i n : ℕ) (parts : List (ℕ × Part)) (p : ℕ × Part) → slice_get parts i ≡ Some p → (p.0 == n) ≡ false
      → own_parts t (take (suc i) parts) n ≡ own_parts t (take i parts) n
  more_others i n parts p e other =
      ap (λ ps. own_parts t ps n) (take_more i parts p e) ∙ own_append n (take i parts) (p ∷ [])
      ∙ ap (λ b. own_parts t (take i parts) n ++ map (λ (v : ℕ × Part). (t, v.1)) (cond b (p ∷ []) [])) other
      ∙ append-nil (own_parts t (take i parts) n)

-- ---- the parts of an object in records

abbrev NoneOf : Name → List (Name × Part) → Type 0
NoneOf t rs = AllByRecursion (λ r. same_name r.0 t ≡ false) rs

none_append : (t : Name) (xs ys : List (Name × Part)) → NoneOf t xs → NoneOf t ys → NoneOf t (xs ++ ys)
none_append t [] ys h k = k
none_append t (x ∷ xs) ys h k = (h.0, none_append t xs ys h.1 k)

none_mapped : (t u : Name) (vs : List (ℕ × Part)) → same_name u t ≡ false → NoneOf t (map (λ v. (u, v.1)) vs)
none_mapped t u [] e = tt
none_mapped t u (v ∷ vs) e = (e, none_mapped t u vs e)

module _ (g n : ℕ) where
  abbrev in_records : List (Name × Prepared) → List (Name × Part)
  in_records rs = parts_of g rs (record { guardian = g; number = n })

  none_recorded : (t : Name) (rs : List (Name × Prepared)) → is_prepared rs t ≡ false → NoneOf t (in_records rs)
  none_recorded t [] h = tt
  none_recorded t (p ∷ rs) h =
      let q = or_parts (same_name p.0 t) (is_prepared rs t) h in
      subst (NoneOf t) (sym (parts_front g n p.0 p.1.home p.1.parts rs))
      (none_append t (own_parts p.0 p.1.parts n) (in_records rs) (none_mapped t p.0 (filter (λ v. v.0 == n) p.1.parts) q.0) (none_recorded t rs q.1))

  parts_apart : (objects : ℕ) (rs : List (Name × Prepared)) → records.AreApart rs → AllByRecursion (λ p. records.IsRecord objects p.1) rs → AreApart (in_records rs)
  parts_apart objects [] h k = tt
  parts_apart objects (p ∷ rs) h k =
      subst AreApart (sym (parts_front g n p.0 p.1.home p.1.parts rs))
      (of (filter (λ v. v.0 == n) p.1.parts) (few p.0 0 n p.1.parts k.0.rising) (parts_apart objects rs h.1 k.1))
    where
      of : (vs : List (ℕ × Part)) → length vs ≤ 1 → AreApart (in_records rs) → AreApart (map (λ v. (p.0, v.1)) vs ++ in_records rs)
      of [] l behind = behind
      of (v ∷ []) l behind = (none_recorded p.0 rs h.0, behind)
      of (v ∷ w ∷ vs) l behind = absurd (omega (arith, l))

-- ---- what an object may take

none_added : (t : Name) (rs : List (Name × Part)) → NoneOf t rs → delta_in rs t ≡ None
none_added t [] h = refl
none_added t ((b, Value v) ∷ rs) h = none_added t rs h.1
none_added t ((b, Delta z) ∷ rs) h = ap (λ s. cond s (Some (sum_of (pos 0) z)) (delta_in rs t)) h.0 ∙ none_added t rs h.1

no_versions : (vs : List (Name × Content)) → ((a : Name) → version_at vs a ≡ None) → vs ≡ []
no_versions [] h = refl
no_versions (v ∷ vs) h = absurd (none-some v.1 (sym (h v.0) ∙ ap (λ b. cond b (Some v.1) (version_at vs v.0)) (same_name_self v.0)))

alone_there : (t : Name) (v : Content) (rs : List (Name × Part)) → MayStand ((t, Value v) ∷ rs) → rs ≡ []
alone_there t v [] h = refl
alone_there t v (r ∷ rs) (inl few) = absurd (omega (arith, few))
alone_there t v (r ∷ rs) (inr deltas) = absurd deltas.0

may_take : (c : Content) (t : Name) (p : Part) (rs : List (Name × Part)) (object : Seen) → IsRestored c rs object → MayStand ((t, p) ∷ rs) → NoneOf t rs → Suits c p
    → MayTake object t p
may_take c t (Value v) rs object is stand none suits =
    let empty : rs ≡ [] = alone_there t v rs stand in (
      no_versions object.stack.versions (λ a. is.versions a ∙ ap (λ l. value_in l a) empty),
      subst (λ b. HaveSameOps b v) (sym is.base) suits,
    )
may_take c t (Delta z) rs object is stand none suits = is.deltas t ∙ none_added t rs none

-- what is so of each part of an object
module _ (g n : ℕ) (P : Name × Part → Type 0) where
  all_own : (t : Name) (parts : List (ℕ × Part)) → AllByRecursion (λ v. (v.0 == n) ≡ true → P (t, v.1)) parts → AllByRecursion P (own_parts t parts n)
  all_own t [] h = tt
  all_own t (v ∷ parts) h = of (v.0 == n) refl (all_own t parts h.1)
    where
      of : (b : Bool) → (v.0 == n) ≡ b → AllByRecursion P (own_parts t parts n)
          → AllByRecursion P (map (λ (v : ℕ × Part). (t, v.1)) (cond b (v ∷ filter (λ v. v.0 == n) parts) (filter (λ v. v.0 == n) parts)))
      of true e ih = (h.0 e, ih)
      of false e ih = ih

  all_append : (xs ys : List (Name × Part)) → AllByRecursion P xs → AllByRecursion P ys → AllByRecursion P (xs ++ ys)
  all_append [] ys h k = k
  all_append (x ∷ xs) ys h k = (h.0, all_append xs ys h.1 k)

  pub all_parts : (rs : List (Name × Prepared)) → AllByRecursion (λ p. AllByRecursion (λ v. (v.0 == n) ≡ true → P (p.0, v.1)) p.1.parts) rs
      → AllByRecursion P (in_records g n rs)
  all_parts [] h = tt
  all_parts (p ∷ rs) h =
      subst (AllByRecursion P) (sym (parts_front g n p.0 p.1.home p.1.parts rs)) (all_append (own_parts p.0 p.1.parts n) (in_records g n rs) (all_own p.0 p.1.parts h.0) (all_parts rs h.1))

module _ {X : Type 0} where
  all_weaker : (P Q : X → Type 0) (xs : List X) → ((x : X) → P x → Q x) → AllByRecursion P xs → AllByRecursion Q xs
  all_weaker P Q [] f h = tt
  all_weaker P Q (x ∷ xs) f h = (f x h.0, all_weaker P Q xs f h.1)

  all_always : (P : X → Type 0) (xs : List X) → ((x : X) → P x) → AllByRecursion P xs
  all_always P [] f = tt
  all_always P (x ∷ xs) f = (f x, all_always P xs f)

-- ---- who holds something

module _ (c : Content) (object : Seen) (b : Name) where
  concerned_by : (rs : List (Name × Part)) → IsRestored c rs object → is_concerned true object.locks b ≡ (is_some (value_in rs b) || is_some (delta_in rs b))
  concerned_by rs is = λ i. has_name (is.readers i) b || (is.writers b i || is.adders b i)

concerned_more : (t b : Name) (p : Part) (rs : List (Name × Part))
    → (is_some (value_in ((t, p) ∷ rs) b) || is_some (delta_in ((t, p) ∷ rs) b)) ≡ (same_name t b || (is_some (value_in rs b) || is_some (delta_in rs b)))
concerned_more t b (Value v) rs = of (same_name t b)
  where
    of : (s : Bool) → (is_some (cond s (Some v) (value_in rs b)) || is_some (delta_in rs b)) ≡ (s || (is_some (value_in rs b) || is_some (delta_in rs b)))
    of true = refl
    of false = refl
concerned_more t b (Delta z) rs = of (same_name t b) (is_some (value_in rs b))
  where
    of : (s u : Bool) → (u || is_some (cond s (Some (sum_of (pos 0) z)) (delta_in rs b))) ≡ (s || (u || is_some (delta_in rs b)))
    of true true = refl
    of true false = refl
    of false u = refl

-- ---- one part given back

module _ (opening : Opening) (given after : ℕ → List (Name × Part)) (o new : Indexed) (t : Name) (p : Part) (n : ℕ) (have : HaveBack opening given o)
    (low : 1 ≤ n) (high : n ≤ length o.objects) (guardian : new.guardian ≡ o.guardian)
    (changed : AreChanged (IsGivenBack t p) (n ∷ []) o.objects new.objects)
    (held : (b : Name) (m : ℕ) → has_object new.held b m ≡ ((same_name t b && (n == m)) || has_object o.held b m))
    (stand : MayStandToo (given n) t p) (here : after n ≡ (t, p) ∷ given n) (there : (m : ℕ) → (n == m) ≡ false → after m ≡ given m) where
  abbrev content : ℕ → Content
  content m = first_content opening (object_of o m)

  same_object : (m : ℕ) (k l : Kept) → object_at o.objects m ≡ Some k → object_at new.objects m ≡ Some l → (n == m) ≡ false → k ≡ l
  same_object m k l before now e = same_Some k l (sym before ∙ sym (changed.others m (or_from (n == m) false e refl)) ∙ now)

  taken : (m : ℕ) (k l : Kept) → object_at o.objects m ≡ Some k → object_at new.objects m ≡ Some l → n ≡ m → IsRestored (content m) ((t, p) ∷ given m) (seen l)
  taken m k l before now is =
      changed.changed m k l (or_left (n == m) false (eq-eqb n m is)) before now (content m) (given m) (have.restored m k before)
      (subst (λ i. MayStandToo (given i) t p) is stand)

  back_now : (m : ℕ) (l : Kept) → object_at new.objects m ≡ Some l → IsRestored (content m) (after m) (seen l)
  back_now m l now = of (object_before o.objects new.objects m l changed.count now) (n == m) refl
    where
      of : (k : Kept) × (object_at o.objects m ≡ Some k) → (b : Bool) → (n == m) ≡ b → IsRestored (content m) (after m) (seen l)
      of before true e =
          let is : n ≡ m = eqb-true n m e in
          subst (λ rs. IsRestored (content m) rs (seen l)) (sym (subst (λ i. after i ≡ (t, p) ∷ given i) is here)) (taken m before.0 l before.1 now is)
      of before false e =
          subst (λ rs. IsRestored (content m) rs (seen l)) (sym (there m e))
          (subst (λ x. IsRestored (content m) (given m) (seen x)) (same_object m before.0 l before.1 now e) (have.restored m before.0 before.1))

  noted : (b : Name) (m : ℕ) (k l : Kept) → object_at o.objects m ≡ Some k → object_at new.objects m ≡ Some l → (e : Bool) → (n == m) ≡ e
      → ((same_name t b && (n == m)) || has_object o.held b m) ≡ is_concerned true (seen l).locks b
  noted b m k l before now true e =
      let is : n ≡ m = eqb-true n m e in
      ap₂ (λ u v. (same_name t b && u) || v) e (have.index b m ∙ ap (λ x. holds_of true x b) before ∙ concerned_by (content m) (seen k) b (given m) (have.restored m k before))
      ∙ ap (λ u. u || (is_some (value_in (given m) b) || is_some (delta_in (given m) b))) (whole (same_name t b))
      ∙ sym (concerned_more t b p (given m))
      ∙ sym (concerned_by (content m) (seen l) b ((t, p) ∷ given m) (taken m k l before now is))
    where
      whole : (u : Bool) → (u && true) ≡ u
      whole true = refl
      whole false = refl
  noted b m k l before now false e =
      ap (λ u. u || has_object o.held b m) (and_right (same_name t b) (n == m) e)
      ∙ have.index b m ∙ ap (λ x. holds_of true x b) before ∙ ap (λ x. is_concerned true (seen x).locks b) (same_object m k l before now e)

  pub back_next : HaveBack opening after new
  back_next = record {
    guardian = subst (λ g. 1 ≤ g) (sym guardian) have.guardian;
    count = changed.count ∙ have.count ∙ ap (λ g. length (objects_at opening.setup g)) (sym guardian);
    restored = λ m l now.
        subst (λ g. IsRestored (first_content opening (record { guardian = g; number = m })) (after m) (seen l)) (sym guardian) (back_now m l now);
    index = λ b m. held b m ∙ index b m (object_at new.objects m) refl;
  }
    where
      index : (b : Name) (m : ℕ) (l : Option Kept) → object_at new.objects m ≡ l
          → ((same_name t b && (n == m)) || has_object o.held b m) ≡ holds_at new.objects b m
      index b m (Some l) now =
          let before = object_before o.objects new.objects m l changed.count now in
          noted b m before.0 l before.1 now (n == m) refl ∙ sym (ap (λ x. holds_of true x b) now)
      index b m None now =
          ap₂ (λ u v. (same_name t b && u) || v) (outside (n == m) refl) (have.index b m ∙ ap (λ x. holds_of true x b) (gone (object_at o.objects m) refl))
          ∙ ap (λ u. u || false) (and_right (same_name t b) false refl) ∙ sym (ap (λ x. holds_of true x b) now)
        where
          gone : (k : Option Kept) → object_at o.objects m ≡ k → object_at o.objects m ≡ None
          gone None q = q
          gone (Some k) q = let f = object_before new.objects o.objects m k (sym changed.count) q in absurd (none-some f.0 (sym now ∙ f.1))

          outside : (u : Bool) → (n == m) ≡ u → (n == m) ≡ false
          outside false e = e
          outside true e =
              let f = object_there o.objects n low high in
              absurd (none-some f.0 (sym (gone (object_at o.objects m) refl) ∙ ap (λ i. object_at o.objects i) (sym (eqb-true n m e)) ∙ f.1))

-- ---- one record, part by part

-- of these records and of so many parts of one more that was given back
abbrev pub given_so_far : ℕ → Name → List (ℕ × Part) → List (Name × Prepared) → ℕ → List (Name × Part)
given_so_far g t parts rs n = own_parts t parts n ++ parts_of g rs (record { guardian = g; number = n })

part_in : (P : ℕ × Part → Type 0) (parts : List (ℕ × Part)) (i : ℕ) (q : ℕ × Part) → slice_get parts i ≡ Some q → AllByRecursion P parts → P q
part_in P [] i q e h = absurd (none-some q e)
part_in P (p ∷ parts) zero q e h = subst P (same_Some p q e) h.0
part_in P (p ∷ parts) (suc i) q e h = part_in P parts i q e h.1

module _ (opening : Opening) (rs : List (Name × Prepared)) (home : ℕ) (t : Name) (parts : List (ℕ × Part)) (g i : ℕ) (q : ℕ × Part)
    (may : AreRestorable opening g (with_record t home parts rs)) (at : slice_get parts i ≡ Some q) where
  abbrev before : List (Name × Part)
  before = given_so_far g t (take i parts) rs q.0

  abbrev behind : List (Name × Part)
  behind = parts_of g rs (record { guardian = g; number = q.0 })

  rising : AreRising 0 parts
  rising = may.are.each.0.rising

  only_behind : before ≡ behind
  only_behind = ap (λ vs. vs ++ behind) (before_it t 0 i parts q rising at)

  none_there : NoneOf t behind
  none_there = none_recorded g q.0 t rs may.are.apart.0

  stand_there : MayStand ((t, q.1) ∷ behind)
  stand_there = subst MayStand (parts_front g q.0 t home parts rs ∙ ap (λ vs. vs ++ behind) (it_alone t 0 i parts q rising at)) (may.alone q.0)

  pub may_stand_too : MayStandToo before t q.1
  may_stand_too =
      subst (λ l. MayStandToo l t q.1) (sym only_behind)
      (stand_there, (none_there, parts_apart g q.0 (length (objects_at opening.setup g)) rs may.are.apart.1 may.are.each.1))

  module _ (o : Indexed) (guardian : o.guardian ≡ g) (have : HaveBack opening (λ n. given_so_far g t (take i parts) rs n) o) where
    pub within_objects : (1 ≤ q.0) × (q.0 ≤ length o.objects)
    within_objects =
        let high = part_in (λ p. p.0 ≤ length (objects_at opening.setup g)) parts i q at may.are.each.0.within in
        let low = above t 0 i parts q rising at in
        let count = have.count ∙ ap (λ k. length (objects_at opening.setup k)) guardian in
        (omega (arith, low), omega (arith, high, count))

    pub may_take_at : MayTakeAt o.objects q.0 t q.1
    may_take_at =
        let f = object_there o.objects q.0 within_objects.0 within_objects.1 in
        let is = subst (λ k. IsRestored (first_content opening (record { guardian = k; number = q.0 })) before (seen f.0)) guardian (have.restored q.0 f.0 f.1) in (
          f.0,
          f.1,
          may_take (first_content opening (record { guardian = g; number = q.0 })) t q.1 before (seen f.0) is may_stand_too.0 may_stand_too.1.0
              (part_in (λ p. Suits (first_content opening (record { guardian = g; number = p.0 })) p.1) parts i q at may.suit.0),
        )

    pub have_more : (new : Indexed) → new.guardian ≡ o.guardian → AreChanged (IsGivenBack t q.1) (q.0 ∷ []) o.objects new.objects
        → ((b : Name) (m : ℕ) → has_object new.held b m ≡ ((same_name t b && (q.0 == m)) || has_object o.held b m))
        → HaveBack opening (λ n. given_so_far g t (take (suc i) parts) rs n) new
    have_more new same changed held =
        back_next opening (λ n. given_so_far g t (take i parts) rs n) (λ n. given_so_far g t (take (suc i) parts) rs n) o new t q.1 q.0 have
        within_objects.0 within_objects.1 same changed held may_stand_too
        (ap (λ vs. vs ++ behind) (more_own t 0 i q.0 parts q rising at refl))
        (λ m e. ap (λ vs. vs ++ parts_of g rs (record { guardian = g; number = m })) (more_others t i m parts q at e))

-- all parts of the record
pub all_given : (opening : Opening) (rs : List (Name × Prepared)) (home : ℕ) (t : Name) (parts : List (ℕ × Part)) (g i : ℕ) (o : Indexed) → o.guardian ≡ g
    → take i parts ≡ parts → HaveBack opening (λ n. given_so_far g t (take i parts) rs n) o → AreGivenBack opening (with_record t home parts rs) o
all_given opening rs home t parts g i o guardian all have =
    subst (λ k. HaveBack opening (λ n. parts_of k (with_record t home parts rs) (record { guardian = k; number = n })) o) (sym guardian)
    (subst (λ f. HaveBack opening f o) (λ j n. sym (parts_front g n t home parts rs) j)
    (subst (λ ps. HaveBack opening (λ n. given_so_far g t ps rs n) o) all have))

-- ---- before anything was given back

none_recorded_at : (c : Content) → IsRestored c [] (untouched c)
none_recorded_at c = record {
  base = refl;
  versions = λ a. refl;
  chain = tt;
  deltas = λ a. refl;
  rising = none_rise;
  readers = refl;
  writers = λ a. refl;
  adders = λ a. refl;
}

pub nothing_given : {renames : Bool} → (opening : Opening) (g : ℕ) (os : List Kept) → 1 ≤ g → length os ≡ length (objects_at opening.setup g) → AreUntouched opening g os
    → AreGivenBack opening [] (record { guardian = g; objects = os; held = []; renames = renames })
nothing_given opening g os low count are = record {
  guardian = low;
  count = count;
  restored = λ n k e. subst (IsRestored (content n) []) (sym (are n k e)) (none_recorded_at (content n));
  index = λ a n. nobody a n (object_at os n) refl;
}
  where
    content : ℕ → Content
    content n = first_content opening (record { guardian = g; number = n })

    nobody : (a : Name) (n : ℕ) (o : Option Kept) → object_at os n ≡ o → false ≡ holds_at os a n
    nobody a n None e = sym (ap (λ x. holds_of true x a) e)
    nobody a n (Some k) e = sym (ap (λ x. holds_of true x a) e ∙ ap (λ object. is_concerned true object.locks a) (are n k e))

-- ---- all records given back, and nothing else

-- who was not told committed holds what it did
pub holds_itself : (told : Name → Bool) (a : Name) → 1 ≤ length a → told a ≡ false → holder_by told a ≡ Some a
holds_itself told [] low untold = absurd (omega (arith, low))
holds_itself told (n ∷ a) low untold = holds_own told (n ∷ a) (descendant_is_own (n ∷ []) (n ∷ a) (front_alone n a)) untold

module _ (opening : Opening) (g : ℕ) (held : Held) (rs : List (Name × Prepared)) (may : AreRestorable opening g rs) where
  abbrev life : List LocalEvent
  life = life_before g held rs

  abbrev told : Name → Bool
  told b = told_committed_here b life

  abbrev parts_at : ℕ → List (Name × Part)
  parts_at n = parts_of g rs (record { guardian = g; number = n })

  read : IsReopened g held rs life
  read = life_before_is g held rs

  -- what stands is what was given back
  stands : (x : ObjectId) → standing_here life x ≡ given told (parts_of g rs x)
  stands x = λ i. record { told = told; kept = read.kept x i; restored = read.restored x i }

  theirs : (ps : List (Name × Part)) → AllByRecursion (λ r. 1 ≤ length r.0) ps → AreTheirs told ps
  theirs [] h = tt
  theirs (r ∷ ps) h = (holds_itself told r.0 h.0 (read.told_committed r.0), theirs ps h.1)

  named : (n : ℕ) → AllByRecursion (λ r. 1 ≤ length r.0) (parts_at n)
  named n =
      all_parts g n (λ r. 1 ≤ length r.0) rs
      (all_weaker (λ p. 1 ≤ length p.0) (λ p. AllByRecursion (λ v. (v.0 == n) ≡ true → 1 ≤ length p.0) p.1.parts) rs
      (λ p h. all_always (λ v. (v.0 == n) ≡ true → 1 ≤ length p.0) p.1.parts (λ v e. h)) may.are.named)

  abbrev first : ℕ → Content
  first n = first_content opening (record { guardian = g; number = n })

  fit : (n : ℕ) → AllByRecursion (λ r. PartFits (first n) r.1) (parts_at n)
  fit n =
      all_parts g n (λ r. PartFits (first n) r.1) rs
      (all_weaker (λ p. AllSuit opening g p.1.parts) (λ p. AllByRecursion (λ v. (v.0 == n) ≡ true → PartFits (first n) v.1) p.1.parts) rs
      (λ p h. all_weaker (λ v. Suits (first v.0) v.1) (λ v. (v.0 == n) ≡ true → PartFits (first n) v.1) p.1.parts
      (λ v suits e. subst (λ m. PartFits (first m) v.1) (eqb-true v.0 n e) (fits (first v.0) v.1 suits)) h) may.suit)
    where
      fits : (c : Content) (p : Part) → Suits c p → PartFits c p
      fits c (Value v) suits = suits.knows_same
      fits c (Delta z) suits = tt

  pub given_stands : (o : Indexed) → o.guardian ≡ g → AreGivenBack opening rs o → AreObjects opening life o
  given_stands o guardian have = record {
    guardian = have.guardian;
    count = have.count;
    shown = λ n k e.
        subst (λ h. Shows (first_content opening (record { guardian = h; number = n })) (standing_here life (record { guardian = h; number = n })) (seen k)) (sym guardian)
        (subst (λ s. Shows (first n) s (seen k)) (sym (stands (record { guardian = g; number = n })))
        (restored_shows (first n) told (parts_at n) (seen k) (theirs (parts_at n) (named n))
        (parts_apart g n (length (objects_at opening.setup g)) rs may.are.apart may.are.each) (may.alone n) (fit n)
        (subst (λ h. IsRestored (first_content opening (record { guardian = h; number = n })) (parts_of h rs (record { guardian = h; number = n })) (seen k)) guardian
        (have.restored n k e))));
    index = have.index;
  }

-- of records that may be given back, so may those behind the first
pub restorable_behind : (opening : Opening) (g : ℕ) (p : Name × Prepared) (rs : List (Name × Prepared)) → AreRestorable opening g (p ∷ rs) → AreRestorable opening g rs
restorable_behind opening g p rs h = record {
  are = record { named = h.are.named.1; apart = h.are.apart.1; each = h.are.each.1 };
  suit = h.suit.1;
  alone = λ n. may_stand_behind (own_parts p.0 p.1.parts n) (in_records g n rs) (subst MayStand (parts_front g n p.0 p.1.home p.1.parts rs) (h.alone n));
}
  where
    may_stand_behind : (xs ys : List (Name × Part)) → MayStand (xs ++ ys) → MayStand ys
    may_stand_behind xs ys (inl short) = let all = length-append xs ys in inl (omega (arith, all, short))
    may_stand_behind xs ys (inr deltas) = inr (behind xs deltas)
      where
        behind : (zs : List (Name × Part)) → AllByRecursion (λ r. IsDelta r.1) (zs ++ ys) → AllByRecursion (λ r. IsDelta r.1) ys
        behind [] h = h
        behind (z ∷ zs) h = behind zs h.1
