-- What an object shows of which just what some holders hold is left: where an action is undone, and after a crash.
use Rattle.std.proofs.Common.{Bool, List, None, Option, Some, [], ap, ap₂, cond, false, filter, inl, inr, is_none, map, not, refl, subst, sym, true, ℤ, ◌&&◌, ◌∙◌, ◌∷◌, ◌≡◌}
use Rattle.std.proofs.lemmas.Bool.{and_right, false_from_ne_true, false≢true, true≢false}
use Rattle.std.proofs.lemmas.List.Elements.{filter_agree}
use Rattle.std.specs.List.{AllByRecursion, list_any}
use Rattle.action_names.specs.Names.{Name, ancestors, has_name, is_ancestor, same_name}
use Rattle.values.specs.declared.content.Content.{Content}
use Rattle.atomic_types.specs.declared.op.Class.{Class}
use Rattle.atomic_types.specs.declared.op.Class.TheVariants.{Read, Write}
use Rattle.atomic_types.specs.declared.op.Class.TheVariants as class
use Rattle.atomic_types.specs.declared.part.Part.{Part}
use Rattle.atomic_types.specs.declared.part.Part.TheVariants.{Delta, Value}
use Rattle.atomic_types.specs.Operations.{is_add_class, is_read, is_read_class, is_write_class}
use Rattle.run_model.specs.Actions.{is_exactly}
use Rattle.run_model.specs.Keeping.{Performed, Standing}
use Rattle.run_model.specs.Telling.{holder_by}
use Rattle.run_model.specs.Versions.{holder_at, is_held_above}
use Rattle.run_laws.proofs.Each.{Each}
use Rattle.run_laws.proofs.Names.{ancestor_trans, any_ancestor_from, any_ancestor_use, clash, same_name_self, same_name_true}
use Rattle.local_laws.specs.Orderly.{AreOrderly}
use Rattle.local_laws.proofs.Acts.{Act, acts_by, acts_of, after_acts, deed_of, deeds_of_acts, orderly_acts}
use Rattle.local_laws.proofs.Orderly.{holder_is}
use Rattle.local_laws.proofs.Outcomes.{has_filter}
use Rattle.local_laws.proofs.Prepared.{above_top}
use Rattle.object_model.specs.Deltas.{delta_at}
use Rattle.object_model.specs.Stacks.{RisesByAncestry, version_at}
use Rattle.object_model.specs.Objects.{NamesRise, Seen}
use Rattle.object_laws.specs.Changes.{crashed, undone}
use Rattle.object_laws.specs.Laws.{CrashedShows, UndoneShows, is_left}
use Rattle.object_laws.specs.Shown.{only_if}
use Rattle.object_laws.proofs.Chain.{left_at, left_rise}
use Rattle.object_laws.proofs.Choosing.{above_holder, any_none, any_same, chosen_orderly, each_chosen, exactly, holds_chosen, same_left, same_sum, sum_chosen, twice}
use Rattle.object_laws.proofs.Held.{KnownAct, ShowsActs, from_acts, held, holds, sum_acts, to_acts}

-- a test that is the same for all
pub any_and : (t : Bool) (p : Act → Bool) (xs : List Act) → list_any (λ x. t && p x) xs ≡ (t && list_any p xs)
any_and true p xs = refl
any_and false p [] = refl
any_and false p (x ∷ xs) = any_and false p xs

-- a choice of both lists
pub acts_chosen : (test : Act → Bool) (os : List Performed) (rs : List (Name × Part))
    → acts_of (filter (λ o. test (inl o)) os) (filter (λ r. test (inr r)) rs) ≡ filter test (acts_of os rs)
acts_chosen test [] [] = refl
acts_chosen test [] (r ∷ rs) = of (test (inr r)) (acts_chosen test [] rs)
  where
    of : (t : Bool) → acts_of [] (filter (λ r. test (inr r)) rs) ≡ filter test (acts_of [] rs)
        → acts_of [] (cond t (r ∷ filter (λ r. test (inr r)) rs) (filter (λ r. test (inr r)) rs))
        ≡ cond t (inr r ∷ filter test (acts_of [] rs)) (filter test (acts_of [] rs))
    of true e = ap (λ ys. inr r ∷ ys) e
    of false e = e
acts_chosen test (o ∷ os) rs = of (test (inl o)) (acts_chosen test os rs)
  where
    back : List (Name × Part)
    back = filter (λ r. test (inr r)) rs

    of : (t : Bool) → acts_of (filter (λ o. test (inl o)) os) back ≡ filter test (acts_of os rs)
        → acts_of (cond t (o ∷ filter (λ o. test (inl o)) os) (filter (λ o. test (inl o)) os)) back
        ≡ cond t (inl o ∷ filter test (acts_of os rs)) (filter test (acts_of os rs))
    of true e = ap (λ ys. inl o ∷ ys) e
    of false e = e

-- what is left of an object where these holders keep what they hold
pub record IsLeft (g : Option Name → Bool) (old new : Seen) : Type 0 where
  pub base : new.stack.base ≡ old.stack.base
  pub versions : new.stack.versions ≡ filter (λ v. g (Some v.0)) old.stack.versions
  pub deltas : (b : Name) → delta_at new.deltas b ≡ cond (g (Some b)) (delta_at old.deltas b) None
  pub rising : NamesRise new.deltas
  pub writers : (b : Name) → has_name new.locks.writers b ≡ (has_name old.locks.writers b && g (Some b))
  pub adders : (b : Name) → has_name new.locks.adders b ≡ (has_name old.locks.adders b && g (Some b))

module _ (c : Content) (hold : Act → Option Name) (xs : List Act) (live : Act → Bool) (lives : (x : Act) → is_read_class (deed_of x).1 ≡ false → live x ≡ true)
    (g : Option Name → Bool) (base_stays : g None ≡ true) (goes_up : (b d : Name) → g (Some b) ≡ true → is_ancestor d b ≡ true → g (Some d) ≡ true) where
  abbrev pub keeps : Act → Bool
  keeps x = live x && g (hold x)

  same_at : (p : Option Name → Bool) → ((d : Name) → p (Some d) ≡ true → g (Some d) ≡ true) → (xs : List Act)
      → Each (λ x. is_read_class (deed_of x).1 ≡ false → p (hold x) ≡ ((live x && g (hold x)) && p (hold x))) xs
  same_at p stay [] = tt
  same_at p stay (x ∷ xs) = (λ r. of (live x) (lives x r) (hold x), same_at p stay xs)
    where
      of : (l : Bool) → l ≡ true → (o : Option Name) → p o ≡ ((l && g o) && p o)
      of true e None = sym (ap (λ t. t && p None) base_stays)
      of true e (Some d) = some (p (Some d)) refl
        where
          some : (t : Bool) → p (Some d) ≡ t → p (Some d) ≡ (g (Some d) && p (Some d))
          some true q = sym (ap (λ t. t && p (Some d)) (stay d q))
          some false q = q ∙ sym (and_right (g (Some d)) (p (Some d)) q)
      of false e o = absurd (false≢true e)

  pub left_same : (p : Option Name → Bool) → ((d : Name) → p (Some d) ≡ true → g (Some d) ≡ true)
      → after_acts c (filter (λ x. p (hold x)) xs) ≡ after_acts c (filter (λ x. p (hold x)) (filter (λ x. keeps x) xs))
  left_same p stay =
      same_left c (λ x. p (hold x)) (λ x. keeps x && p (hold x)) xs (same_at p stay xs)
      ∙ sym (ap (λ ys. after_acts c ys) (twice (λ x. p (hold x)) (λ x. keeps x) xs))

  pub sum_same : (b : Name) → g (Some b) ≡ true → sum_acts (λ x. is_exactly (hold x) b) xs ≡ sum_acts (λ x. is_exactly (hold x) b) (filter (λ x. keeps x) xs)
  sum_same b h =
      same_sum (λ x. is_exactly (hold x) b) (λ x. keeps x && is_exactly (hold x) b) xs
      (same_at (λ o. is_exactly o b) (λ d q. subst (λ y. g (Some y) ≡ true) (sym (same_name_true d b q)) h) xs)
      ∙ sym (sum_chosen (λ x. is_exactly (hold x) b) (λ x. keeps x) xs)

  -- of holders of writes or adds those stay
  pub holds_same : (k : Class → Bool) (b : Name) → ((d : Class) → k d ≡ true → is_read_class d ≡ false)
      → holds hold k b (filter (λ x. keeps x) xs) ≡ (g (Some b) && holds hold k b xs)
  holds_same k b writes =
      holds_chosen hold k b (λ x. keeps x) xs
      ∙ any_same (λ x. keeps x && (is_exactly (hold x) b && k (deed_of x).1)) (λ x. g (Some b) && (is_exactly (hold x) b && k (deed_of x).1)) xs (each xs)
      ∙ any_and (g (Some b)) (λ x. is_exactly (hold x) b && k (deed_of x).1) xs
    where
      each : (ys : List Act)
          → Each (λ x. ((live x && g (hold x)) && (is_exactly (hold x) b && k (deed_of x).1)) ≡ (g (Some b) && (is_exactly (hold x) b && k (deed_of x).1))) ys
      each [] = tt
      each (x ∷ ys) = (of (k (deed_of x).1) refl (is_exactly (hold x) b) refl, each ys)
        where
          of : (t : Bool) → k (deed_of x).1 ≡ t → (e : Bool) → is_exactly (hold x) b ≡ e
              → ((live x && g (hold x)) && (is_exactly (hold x) b && k (deed_of x).1)) ≡ (g (Some b) && (is_exactly (hold x) b && k (deed_of x).1))
          of t q false r =
              and_right (live x && g (hold x)) (is_exactly (hold x) b && k (deed_of x).1) (ap (λ u. u && k (deed_of x).1) r)
              ∙ sym (and_right (g (Some b)) (is_exactly (hold x) b && k (deed_of x).1) (ap (λ u. u && k (deed_of x).1) r))
          of false q true r =
              let none = and_right (is_exactly (hold x) b) (k (deed_of x).1) q in
              and_right (live x && g (hold x)) (is_exactly (hold x) b && k (deed_of x).1) none
              ∙ sym (and_right (g (Some b)) (is_exactly (hold x) b && k (deed_of x).1) none)
          of true q true r =
              ap₂ (λ l o. (l && g o) && (is_exactly (hold x) b && k (deed_of x).1)) (lives x (writes (deed_of x).1 q)) (exactly (hold x) b r)

  pub left_shows : (old new : Seen) → ShowsActs c hold xs old → IsLeft g old new
      → ((b : Name) → has_name new.locks.readers b ≡ holds hold is_read_class b (filter (λ x. keeps x) xs))
      → ShowsActs c hold (filter (λ x. keeps x) xs) new
  left_shows old new shows left readers = record {
    base = left.base ∙ shows.base ∙ left_same (λ o. is_none o) (λ d q. absurd (false≢true q));
    versions = λ b. ap (λ vs. version_at vs b) left.versions ∙ left_at (λ d. g (Some d)) old.stack.versions b
        ∙ ap (λ o. cond (g (Some b)) o None) (shows.versions b)
        ∙ version b (g (Some b)) refl ∙ ap (λ t. only_if t (after_acts c (filter (λ x. is_held_above (hold x) b) ys))) (sym (holds_same is_write_class b writes));
    rising = subst (λ vs. RisesByAncestry vs) (sym left.versions) (left_rise (λ d. g (Some d)) old.stack.versions shows.rising);
    deltas = λ b. left.deltas b ∙ ap (λ o. cond (g (Some b)) o None) (shows.deltas b) ∙ delta b (g (Some b)) refl (holds hold is_add_class b xs) (holds hold is_write_class b xs)
        ∙ ap₂ (λ t u. only_if (t && not u) (sum_acts (λ x. is_exactly (hold x) b) ys)) (sym (holds_same is_add_class b adding)) (sym (holds_same is_write_class b writes));
    names_rise = left.rising;
    readers = readers;
    writers = λ b. left.writers b ∙ ap (λ t. t && g (Some b)) (shows.writers b) ∙ turned (holds hold is_write_class b xs) (g (Some b))
        ∙ sym (holds_same is_write_class b writes);
    adders = λ b. ap₂ (λ t u. t && not u) (left.adders b) (left.writers b) ∙ apart (has_name old.locks.adders b) (has_name old.locks.writers b) (g (Some b))
        ∙ ap (λ t. g (Some b) && t) (shows.adders b) ∙ together (g (Some b)) (holds hold is_add_class b xs) (holds hold is_write_class b xs)
        ∙ ap₂ (λ t u. t && not u) (sym (holds_same is_add_class b adding)) (sym (holds_same is_write_class b writes));
    known = each_chosen (λ x. KnownAct c x) (λ x. keeps x) xs shows.known;
  }
    where
      ys : List Act
      ys = filter (λ x. keeps x) xs

      writes : (d : Class) → is_write_class d ≡ true → is_read_class d ≡ false
      writes Write q = refl
      writes Read q = absurd (false≢true q)
      writes class.Add q = refl

      adding : (d : Class) → is_add_class d ≡ true → is_read_class d ≡ false
      adding Write q = refl
      adding Read q = absurd (false≢true q)
      adding class.Add q = refl

      turned : (x y : Bool) → (x && y) ≡ (y && x)
      turned true true = refl
      turned true false = refl
      turned false true = refl
      turned false false = refl

      apart : (a w t : Bool) → ((a && t) && not (w && t)) ≡ (t && (a && not w))
      apart true true true = refl
      apart true true false = refl
      apart true false true = refl
      apart true false false = refl
      apart false w true = refl
      apart false w false = refl

      together : (t a w : Bool) → (t && (a && not w)) ≡ ((t && a) && not (t && w))
      together true a w = refl
      together false a w = refl

      version : (b : Name) (t : Bool) → g (Some b) ≡ t
          → cond t (only_if (holds hold is_write_class b xs) (after_acts c (filter (λ x. is_held_above (hold x) b) xs))) None
          ≡ only_if (t && holds hold is_write_class b xs) (after_acts c (filter (λ x. is_held_above (hold x) b) (filter (λ x. keeps x) xs)))
      version b true e =
          ap (λ d. only_if (holds hold is_write_class b xs) d) (left_same (λ o. is_held_above o b) (λ d q. goes_up b d e q))
      version b false e = refl

      delta : (b : Name) (t : Bool) → g (Some b) ≡ t → (a w : Bool)
          → cond t (only_if (a && not w) (sum_acts (λ x. is_exactly (hold x) b) xs)) None
          ≡ only_if ((t && a) && not (t && w)) (sum_acts (λ x. is_exactly (hold x) b) (filter (λ x. keeps x) xs))
      delta b true e a w = ap (λ n. only_if (a && not w) n) (sum_same b e)
      delta b false e a w = refl

-- ---- an action is undone

abbrev is_below : Name → Option Name → Bool
is_below a None = false
is_below a (Some d) = is_ancestor a d

-- what a or a descendant did is held at a or below
below_is : (told : Name → Bool) (a e : Name) → told a ≡ false → list_any (λ b. same_name b a) (ancestors e) ≡ is_below a (holder_by told e)
below_is told a e n = any (is_ancestor a e) refl ∙ of (holder_by told e) refl
  where
    any : (t : Bool) → is_ancestor a e ≡ t → list_any (λ b. same_name b a) (ancestors e) ≡ is_ancestor a e
    any true h = any_ancestor_from (λ b. same_name b a) e a h (same_name_self a) ∙ sym h
    any false h =
        false_from_ne_true _ (λ k.
        let x = any_ancestor_use (λ b. same_name b a) e k in
        clash (subst (λ b. is_ancestor b e ≡ true) (same_name_true x.0 a x.2) x.1) h)
        ∙ sym h

    of : (o : Option Name) → holder_by told e ≡ o → is_ancestor a e ≡ is_below a o
    of None q = false_from_ne_true _ (λ h. let x = above_holder told e a h n in let f : None ≡ Some x.0 = sym q ∙ x.1 in cc)
    of (Some d) q = at (is_ancestor a d) refl
      where
        at : (t : Bool) → is_ancestor a d ≡ t → is_ancestor a e ≡ is_ancestor a d
        at true k = ancestor_trans a d e k (holder_is told e d q).0 ∙ sym k
        at false k =
            false_from_ne_true _ (λ h.
            let x = above_holder told e a h n in
            let f : Some d ≡ Some x.0 = sym q ∙ x.1 in
            let same : d ≡ x.0 = cc in
            clash (subst (λ y. is_ancestor a y ≡ true) (sym same) x.2) k)
            ∙ sym k

pub undone_shows : UndoneShows
undone_shows c s old new a shows own untold undo =
    from_acts c after new
    (subst (λ ys. ShowsActs c (λ x. held s.told x) ys new) (sym left)
    (left_shows c (λ x. held s.told x) (acts_by s) (λ x. true) (λ x r. refl) (λ o. not (is_below a o)) refl up old new (to_acts c s old shows) parts readers))
    (subst (λ ds. AreOrderly s.told ds) (deeds_of_acts after)
    (subst (λ ys. AreOrderly s.told (map (λ x. deed_of x) ys)) (sym left)
    (chosen_orderly s.told (λ x. not (is_below a (held s.told x))) (acts_by s) (orderly_acts s shows.orderly))))
  where
    after : Standing
    after = undone (λ b. same_name b a) s

    left : acts_by after ≡ filter (λ x. not (is_below a (held s.told x))) (acts_by s)
    left =
        acts_chosen (λ x. not (list_any (λ b. same_name b a) (ancestors (deed_of x).0))) s.kept s.restored
        ∙ filter_agree (λ x. not (list_any (λ b. same_name b a) (ancestors (deed_of x).0))) (λ x. not (is_below a (held s.told x)))
        (λ x. ap (λ t. not t) (below_is s.told a (deed_of x).0 untold)) (acts_by s)

    up : (b d : Name) → not (is_ancestor a b) ≡ true → is_ancestor d b ≡ true → not (is_ancestor a d) ≡ true
    up b d h k = of (is_ancestor a d) refl
      where
        of : (t : Bool) → is_ancestor a d ≡ t → not (is_ancestor a d) ≡ true
        of false q = ap (λ t. not t) q
        of true q = absurd (true≢false (sym h ∙ ap (λ t. not t) (ancestor_trans a d b q k)))

    parts : IsLeft (λ o. not (is_below a o)) old new
    parts = record {
      base = ap (λ st. st.base) undo.stack;
      versions = ap (λ st. st.versions) undo.stack;
      deltas = λ b. undo.deltas b ∙ turned (is_ancestor a b) (delta_at old.deltas b);
      rising = undo.rising;
      writers = λ b. ap (λ l. has_name l.writers b) undo.locks ∙ has_filter (λ d. not (is_ancestor a d)) old.locks.writers b;
      adders = λ b. ap (λ l. has_name l.adders b) undo.locks ∙ has_filter (λ d. not (is_ancestor a d)) old.locks.adders b;
    }
      where
        turned : (t : Bool) (o : Option ℤ) → cond t None o ≡ cond (not t) o None
        turned true o = refl
        turned false o = refl

    readers : (b : Name) → has_name new.locks.readers b ≡ holds (λ x. held s.told x) is_read_class b (filter (λ x. not (is_below a (held s.told x))) (acts_by s))
    readers b =
        ap (λ l. has_name l.readers b) undo.locks ∙ has_filter (λ d. not (is_ancestor a d)) old.locks.readers b
        ∙ ap (λ t. t && not (is_ancestor a b)) ((to_acts c s old shows).readers b)
        ∙ swap (holds (λ x. held s.told x) is_read_class b (acts_by s)) (not (is_ancestor a b))
        ∙ sym (any_and (not (is_ancestor a b)) (λ x. is_exactly (held s.told x) b && is_read_class (deed_of x).1) (acts_by s))
        ∙ any_same _ _ (acts_by s) (each (acts_by s))
        ∙ sym (holds_chosen (λ x. held s.told x) is_read_class b (λ x. not (is_below a (held s.told x))) (acts_by s))
      where
        swap : (x y : Bool) → (x && y) ≡ (y && x)
        swap true true = refl
        swap true false = refl
        swap false true = refl
        swap false false = refl

        each : (xs : List Act)
            → Each (λ x. (not (is_ancestor a b) && (is_exactly (held s.told x) b && is_read_class (deed_of x).1))
            ≡ (not (is_below a (held s.told x)) && (is_exactly (held s.told x) b && is_read_class (deed_of x).1))) xs
        each [] = tt
        each (x ∷ xs) = (of (held s.told x) (is_read_class (deed_of x).1), each xs)
          where
            of : (o : Option Name) (t : Bool) → (not (is_ancestor a b) && (is_exactly o b && t)) ≡ (not (is_below a o) && (is_exactly o b && t))
            of None t = and_right (not (is_ancestor a b)) false refl
            of (Some d) t = same (same_name d b) refl
              where
                same : (e : Bool) → same_name d b ≡ e → (not (is_ancestor a b) && (same_name d b && t)) ≡ (not (is_ancestor a d) && (same_name d b && t))
                same true q = ap (λ y. not (is_ancestor a y) && (same_name d b && t)) (sym (same_name_true d b q))
                same false q =
                    and_right (not (is_ancestor a b)) (same_name d b && t) (ap (λ u. u && t) q)
                    ∙ sym (and_right (not (is_ancestor a d)) (same_name d b && t) (ap (λ u. u && t) q))

-- ---- a crash

-- a crash leaves it: it is no read, and belongs to the base or to an action that stays
abbrev outlives_by : (Name → Bool) → (Name → Bool) → Act → Bool
outlives_by told stays x = not (is_read_class (deed_of x).1) && is_left stays (held told x)

module _ (s : Standing) (outlives : Performed → Bool) (stays : Name → Bool) where
  all_stay : (rs : List (Name × Part)) → AllByRecursion (λ r. is_left stays (holder_by s.told r.0) ≡ true) rs
      → acts_of [] rs ≡ filter (λ x. outlives_by s.told stays x) (acts_of [] rs)
  all_stay [] h = refl
  all_stay (r ∷ rs) h =
      ap (λ ys. inr r ∷ ys) (all_stay rs h.1)
      ∙ ap (λ t. cond t (inr r ∷ filter (λ x. outlives_by s.told stays x) (acts_of [] rs)) (filter (λ x. outlives_by s.told stays x) (acts_of [] rs))) (sym (part r.1))
    where
      part : (p : Part) → outlives_by s.told stays (inr (r.0, p)) ≡ true
      part (Value v) = h.0
      part (Delta z) = h.0

  left_of_both : (os : List Performed) → AllByRecursion (λ o. outlives o ≡ (not (is_read o.operation) && is_left stays (holder_at s o))) os
      → AllByRecursion (λ r. is_left stays (holder_by s.told r.0) ≡ true) s.restored
      → acts_of (filter outlives os) s.restored ≡ filter (λ x. outlives_by s.told stays x) (acts_of os s.restored)
  left_of_both [] h back = all_stay s.restored back
  left_of_both (o ∷ os) h back =
      of (outlives o) (left_of_both os h.1 back)
      ∙ ap (λ t. cond t (inl o ∷ filter (λ x. outlives_by s.told stays x) (acts_of os s.restored)) (filter (λ x. outlives_by s.told stays x) (acts_of os s.restored))) h.0
    where
      of : (t : Bool) → acts_of (filter outlives os) s.restored ≡ filter (λ x. outlives_by s.told stays x) (acts_of os s.restored)
          → acts_of (cond t (o ∷ filter outlives os) (filter outlives os)) s.restored
          ≡ cond t (inl o ∷ filter (λ x. outlives_by s.told stays x) (acts_of os s.restored)) (filter (λ x. outlives_by s.told stays x) (acts_of os s.restored))
      of true e = ap (λ ys. inl o ∷ ys) e
      of false e = e

pub crashed_shows : CrashedShows
crashed_shows c s old new outlives stays shows tops kept back crash =
    from_acts c after new
    (subst (λ ys. ShowsActs c (λ x. held s.told x) ys new) (sym left)
    (left_shows c (λ x. held s.told x) (acts_by s) (λ x. not (is_read_class (deed_of x).1)) (λ x r. ap (λ t. not t) r) (λ o. is_left stays o) refl up
    old new (to_acts c s old shows) parts readers))
    (subst (λ ds. AreOrderly s.told ds) (deeds_of_acts after)
    (subst (λ ys. AreOrderly s.told (map (λ x. deed_of x) ys)) (sym left)
    (chosen_orderly s.told (λ x. outlives_by s.told stays x) (acts_by s) (orderly_acts s shows.orderly))))
  where
    after : Standing
    after = crashed outlives s

    left : acts_by after ≡ filter (λ x. not (is_read_class (deed_of x).1) && is_left stays (held s.told x)) (acts_by s)
    left = left_of_both s outlives stays s.kept kept back

    up : (b d : Name) → stays b ≡ true → is_ancestor d b ≡ true → stays d ≡ true
    up b d h k = subst (λ y. stays y ≡ true) (sym (same_name_true d b (sym (above_top d b (tops b h)) ∙ k))) h

    parts : IsLeft (λ o. is_left stays o) old new
    parts = record {
      base = crash.base;
      versions = crash.versions;
      deltas = crash.deltas;
      rising = crash.rising;
      writers = λ b. ap (λ l. has_name l.writers b) crash.locks ∙ has_filter stays old.locks.writers b;
      adders = λ b. ap (λ l. has_name l.adders b) crash.locks ∙ has_filter stays old.locks.adders b;
    }

    readers : (b : Name) → has_name new.locks.readers b
        ≡ holds (λ x. held s.told x) is_read_class b (filter (λ x. not (is_read_class (deed_of x).1) && is_left stays (held s.told x)) (acts_by s))
    readers b =
        ap (λ l. has_name l.readers b) crash.locks
        ∙ sym (holds_chosen (λ x. held s.told x) is_read_class b (λ x. not (is_read_class (deed_of x).1) && is_left stays (held s.told x)) (acts_by s)
        ∙ any_none _ (acts_by s) (each (acts_by s)))
      where
        each : (xs : List Act)
            → Each (λ x. ((not (is_read_class (deed_of x).1) && is_left stays (held s.told x)) && (is_exactly (held s.told x) b && is_read_class (deed_of x).1)) ≡ false) xs
        each [] = tt
        each (x ∷ xs) = (of (is_read_class (deed_of x).1) (is_left stays (held s.told x)) (is_exactly (held s.told x) b), each xs)
          where
            of : (r l e : Bool) → ((not r && l) && (e && r)) ≡ false
            of true l e = refl
            of false true true = refl
            of false true false = refl
            of false false e = refl
