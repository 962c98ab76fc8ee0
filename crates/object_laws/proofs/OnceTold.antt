-- What a top action holds once the outcomes of its descendants are told is read off the object as it stands before.
use Rattle.std.proofs.Common.{Bool, List, None, Option, Some, [], ap, ap₂, cond, false, filter, inl, inr, map, not, option_map, refl, subst, sym, true, ℤ, ◌&&◌, ◌∙◌, ◌∷◌, ◌≡◌, ◌||◌, ◌⊎◌}
use Rattle.std.specs.Prelude.{is_some}
use Rattle.std.proofs.lemmas.Bool.{and_from, and_parts, and_right, false_from_ne_true, false≢true, not-true, or_cases, or_from, or_left, or_parts, or_right, true≢false}
use Rattle.std.proofs.lemmas.List.Elements.{filter_agree}
use Rattle.std.specs.List.{AllByRecursion, list_any}
use Rattle.std.specs.declared.cmp.Ordering.TheVariants.{Less}
use Rattle.action_names.specs.Names.{Name, ancestors, has_name, is_ancestor, is_proper_ancestor, is_top, name_cmp, same_name, top_of}
use Rattle.action_names.proofs.Ancestry.{proper, proper_below}
use Rattle.values.specs.declared.content.Content.{Content}
use Rattle.atomic_types.specs.declared.op.Class.{Class}
use Rattle.atomic_types.specs.declared.op.Class.TheVariants.{Read, Write}
use Rattle.atomic_types.specs.declared.op.Class.TheVariants as class
use Rattle.atomic_types.specs.declared.part.Part.{Part}
use Rattle.atomic_types.specs.declared.part.Part.TheVariants.{Delta, Value}
use Rattle.atomic_types.specs.Operations.{is_add_class, is_read, is_read_class, is_write_class}
use Rattle.run_model.specs.Actions.{is_exactly}
use Rattle.run_model.specs.Keeping.{Performed, Standing}
use Rattle.run_model.specs.LocalReadings.{outcome_in, says_aborted, says_committed}
use Rattle.run_model.specs.Telling.{holder_by}
use Rattle.run_model.specs.Versions.{adders_by, delta_by, is_held_above, owners_by, part_held, version_by}
use Rattle.run_laws.proofs.Each.{Each, each_both, each_filter, each_map}
use Rattle.run_laws.proofs.Names.{ancestor_both, ancestor_trans, any_ancestor_from, any_ancestor_use, clash, descendant_is_own, front_alone, same_name_self, same_name_true, top_above, top_is_own, top_of_ancestor}
use Rattle.local_laws.specs.Orderly.{AreOrderly}
use Rattle.local_laws.proofs.Acts.{Act, acts_by, acts_of, after_acts, belonging_goes_up, belongs_to, deed_of, orderly_acts, others_last}
use Rattle.local_laws.proofs.Orderly.{holder_is}
use Rattle.local_laws.proofs.Rising.{Rising}
use Rattle.object_model.specs.Objects.{Seen, with_sum}
use Rattle.object_model.specs.Stacks.{RiseByAncestry, owners_of, version_at}
use Rattle.object_laws.specs.Laws.{is_left}
use Rattle.object_laws.specs.OnceTold.{AreOutcomesBelow, HoldsItsTree, PartsOnceTold, aborts_in, commits_in, deltas_left, is_left_below, last_in_front, part_over, part_to_hold, sum_part, told_of}
use Rattle.object_laws.specs.Shown.{Shows, only_if}
use Rattle.object_laws.proofs.Adding.{AreDeltas, adds_not_read, all_of, any_more, chosen_adds, deltas_leave, is_among, none_chosen, rest_adds, some_chosen}
use Rattle.object_laws.proofs.Chain.{left_at}
use Rattle.object_laws.proofs.Choosing.{Comparable, above_holder, any_none, any_same, beside_write, chosen_orderly, each_chosen, exactly, same_left, same_sum, twice}
use Rattle.object_laws.proofs.Held.{KnownAct, ShowsActs, adders_are, adds, delta_is, held, holds, owners_are, sum_acts, to_acts, version_is}
use Rattle.object_laws.proofs.Leaving.{acts_chosen, holds_same, left_same, sum_same}
use Rattle.object_laws.proofs.Names.{rising_from}
use Rattle.object_laws.proofs.Topmost.{delta_version, has_owner}

-- ---- what outcomes say

aborted_untold : (told : Name → Bool) (outcomes : List (Name × Bool)) → AllByRecursion (λ x. x.1 ≡ false → told x.0 ≡ false) outcomes
    → (b : Name) → aborts_in outcomes b ≡ true → told b ≡ false
aborted_untold told [] h b k = absurd (false≢true k)
aborted_untold told (x ∷ xs) h b k = of (same_name x.0 b) refl k (λ l. aborted_untold told xs h.1 b l)
  where
    of : (t : Bool) → same_name x.0 b ≡ t → says_aborted (cond t (Some x.1) (outcome_in xs b)) ≡ true
        → (says_aborted (outcome_in xs b) ≡ true → told b ≡ false) → told b ≡ false
    of true e k ih = subst (λ y. told y ≡ false) (same_name_true x.0 b e) (h.0 (not-true x.1 k))
    of false e k ih = ih k

committed_below : (top : Name) (outcomes : List (Name × Bool)) → AllByRecursion (λ x. is_proper_ancestor top x.0 ≡ true) outcomes
    → (b : Name) → commits_in outcomes b ≡ true → is_proper_ancestor top b ≡ true
committed_below top [] h b k = absurd (false≢true k)
committed_below top (x ∷ xs) h b k = of (same_name x.0 b) refl k (λ l. committed_below top xs h.1 b l)
  where
    of : (t : Bool) → same_name x.0 b ≡ t → says_committed (cond t (Some x.1) (outcome_in xs b)) ≡ true
        → (says_committed (outcome_in xs b) ≡ true → is_proper_ancestor top b ≡ true) → is_proper_ancestor top b ≡ true
    of true e k ih = subst (λ y. is_proper_ancestor top y ≡ true) (same_name_true x.0 b e) h.0
    of false e k ih = ih k

-- ---- what is undone

abbrev is_undone : (Name → Bool) → Option Name → Bool
is_undone aborts None = false
is_undone aborts (Some d) = list_any aborts (ancestors d)

-- what was undone above an action is undone above its descendants
undone_below : (aborts : Name → Bool) (d b : Name) → is_ancestor d b ≡ true → list_any aborts (ancestors d) ≡ true → list_any aborts (ancestors b) ≡ true
undone_below aborts d b k h =
    let x = any_ancestor_use aborts d h in any_ancestor_from aborts b x.0 (ancestor_trans x.0 d b x.1 k) x.2

-- what an action did is undone where its holder's is
undone_is : (told aborts : Name → Bool) → ((b : Name) → aborts b ≡ true → told b ≡ false) → (e : Name)
    → list_any aborts (ancestors e) ≡ is_undone aborts (holder_by told e)
undone_is told aborts untold e = of (list_any aborts (ancestors e)) refl
  where
    at : list_any aborts (ancestors e) ≡ false → (o : Option Name) → holder_by told e ≡ o → is_undone aborts o ≡ true → ⊥
    at q None r k = false≢true k
    at q (Some d) r k = clash (undone_below aborts d e (holder_is told e d r).0 k) q

    of : (t : Bool) → list_any aborts (ancestors e) ≡ t → list_any aborts (ancestors e) ≡ is_undone aborts (holder_by told e)
    of true q =
        let x = any_ancestor_use aborts e q in
        let y = above_holder told e x.0 x.1 (untold x.0 x.2) in
        q ∙ sym (ap (λ o. is_undone aborts o) y.1 ∙ any_ancestor_from aborts y.0 x.0 y.2 x.2)
    of false q = q ∙ sym (false_from_ne_true _ (λ k. at q (holder_by told e) refl k))

-- ---- the last owner in front

-- where an owner fails the test, all behind it do
abbrev GoesUpChain : (Name → Bool) → Type 0
GoesUpChain p = (d b : Name) → is_proper_ancestor d b ≡ true → p b ≡ true → p d ≡ true

rise_tail : (b : Name) (bs : List Name) → RiseByAncestry (b ∷ bs) → RiseByAncestry bs
rise_tail b [] r = tt
rise_tail b (d ∷ bs) r = r.1

behind_first : (b : Name) (bs : List Name) → RiseByAncestry (b ∷ bs) → (d : Name) → has_name bs d ≡ true → is_proper_ancestor b d ≡ true
behind_first b [] r d h = absurd (false≢true h)
behind_first b (e ∷ bs) r d h = elim (or_cases (same_name e d) (has_name bs d) h) [
  | inl k ↦ subst (λ y. is_proper_ancestor b y ≡ true) (same_name_true e d k) r.0
  | inr k ↦ proper_below b e d (proper b e r.0).0 (behind_first e bs r.1 d k)
]

-- the last of those in front: it is among them and passes, and all that pass are above it
record IsLast (p : Name → Bool) (ns : List Name) (w : Name) : Type 0 where
  there : has_name ns w ≡ true
  passes : p w ≡ true
  above : (d : Name) → has_name ns d ≡ true → p d ≡ true → is_ancestor d w ≡ true

abbrev IsLastOf : (Name → Bool) → List Name → Option Name → Type 0
IsLastOf p ns None = (d : Name) → has_name ns d ≡ true → p d ≡ false
IsLastOf p ns (Some w) = IsLast p ns w

module _ (p : Name → Bool) (up : GoesUpChain p) (named : (d : Name) → p d ≡ true → is_ancestor d d ≡ true) where
  none_behind : (b : Name) (bs : List Name) → RiseByAncestry (b ∷ bs) → p b ≡ false → (d : Name) → has_name (b ∷ bs) d ≡ true → p d ≡ false
  none_behind b bs r n d h = elim (or_cases (same_name b d) (has_name bs d) h) [
    | inl k ↦ ap p (sym (same_name_true b d k)) ∙ n
    | inr k ↦ false_from_ne_true (p d) (λ q. clash (up b d (behind_first b bs r d k) q) n)
  ]

  last_behind : (b : Name) (bs : List Name) → RiseByAncestry (b ∷ bs) → p b ≡ true → IsLastOf p (b ∷ bs) (last_in_front p (Some b) bs)
  last_behind b [] r h = record {
    there = or_from_left (same_name b b) false (same_name_self b);
    passes = h;
    above = λ d k q. elim (or_cases (same_name b d) false k) [
      | inl e ↦ subst (λ y. is_ancestor y b ≡ true) (same_name_true b d e) (named b h)
      | inr e ↦ absurd (false≢true e)
    ];
  }
    where
      or_from_left : (s t : Bool) → s ≡ true → (s || t) ≡ true
      or_from_left s t e = ap (λ x. x || t) e
  last_behind b (e ∷ bs) r h = of (p e) refl (λ q. last_behind e bs r.1 q)
    where
      deeper : (o : Option Name) → IsLastOf p (e ∷ bs) o → p e ≡ true → IsLastOf p (b ∷ e ∷ bs) o
      deeper None last q = absurd (clash q (last e (ap (λ x. x || has_name bs e) (same_name_self e))))
      deeper (Some w) last q = record {
        there = later (same_name b w) last.there;
        passes = last.passes;
        above = λ d k l. elim (or_cases (same_name b d) (has_name (e ∷ bs) d) k) [
          | inl s ↦
              subst (λ y. is_ancestor y w ≡ true) (same_name_true b d s)
              (ancestor_trans b e w (proper b e r.0).0 (last.above e (ap (λ x. x || has_name bs e) (same_name_self e)) q))
          | inr s ↦ last.above d s l
        ];
      }
        where
          later : (s : Bool) → has_name (e ∷ bs) w ≡ true → (s || has_name (e ∷ bs) w) ≡ true
          later true k = refl
          later false k = k

      of : (t : Bool) → p e ≡ t → (p e ≡ true → IsLastOf p (e ∷ bs) (last_in_front p (Some e) bs))
          → IsLastOf p (b ∷ e ∷ bs) (cond t (last_in_front p (Some e) bs) (Some b))
      of true q ih = deeper (last_in_front p (Some e) bs) (ih q) q
      of false q ih = record {
        there = ap (λ x. x || has_name (e ∷ bs) b) (same_name_self b);
        passes = h;
        above = λ d k l. elim (or_cases (same_name b d) (has_name (e ∷ bs) d) k) [
          | inl s ↦ subst (λ y. is_ancestor y b ≡ true) (same_name_true b d s) (named b h)
          | inr s ↦ absurd (clash l (none_behind e bs r.1 q d s))
        ];
      }

  last_is : (ns : List Name) → RiseByAncestry ns → IsLastOf p ns (last_in_front p None ns)
  last_is [] r = λ d h. absurd (false≢true h)
  last_is (b ∷ bs) r = of (p b) refl
    where
      of : (t : Bool) → p b ≡ t → IsLastOf p (b ∷ bs) (cond t (last_in_front p (Some b) bs) None)
      of true q = last_behind b bs r q
      of false q = none_behind b bs r q

-- ---- deltas that are left

-- of rising names those that pass rise
left_rising : {T : Type 0} (p : Name → Bool) (ds : List (Name × T)) → Rising (owners_of ds) → Rising (owners_of (filter (λ d. p d.0) ds))
left_rising p [] r = tt
left_rising {T} p (d ∷ ds) r = of (p d.0) (left_rising p ds r.1)
  where
    fewer : (es : List (Name × T)) → Each (λ b. name_cmp d.0 b ≡ Less) (owners_of es) → Each (λ b. name_cmp d.0 b ≡ Less) (owners_of (filter (λ e. p e.0) es))
    fewer [] h = tt
    fewer (e ∷ es) h = step (p e.0) (fewer es h.1)
      where
        step : (t : Bool) → Each (λ b. name_cmp d.0 b ≡ Less) (owners_of (filter (λ e. p e.0) es))
            → Each (λ b. name_cmp d.0 b ≡ Less) (owners_of (cond t (e ∷ filter (λ e. p e.0) es) (filter (λ e. p e.0) es)))
        step true k = (h.0, k)
        step false k = k

    of : (t : Bool) → Rising (owners_of (filter (λ e. p e.0) ds)) → Rising (owners_of (cond t (d ∷ filter (λ e. p e.0) ds) (filter (λ e. p e.0) ds)))
    of true k = (fewer ds r.0, k)
    of false k = k

-- ---- acts that stand in a list

-- whoever holds an act of a list holds one of the list
each_held : (hold : Act → Option Name) (k : Class → Bool) (zs : List Act)
    → Each (λ x. (d : Name) → hold x ≡ Some d → k (deed_of x).1 ≡ true → holds hold k d zs ≡ true) zs
each_held hold k [] = tt
each_held hold k (x ∷ zs) = (
  λ d e h. or_left _ _ (and_from _ _ (ap (λ o. is_exactly o d) e ∙ same_name_self d) h),
  each_map _ _ zs (λ y f d e h. or_right (is_exactly (hold x) d && k (deed_of x).1) _ (f d e h)) (each_held hold k zs),
)

writes_not_read : (d : Class) → is_write_class d ≡ true → is_read_class d ≡ false
writes_not_read Write h = refl
writes_not_read Read h = absurd (false≢true h)
writes_not_read class.Add h = refl

top_own : (a : Name) → is_top a ≡ true → is_ancestor a a ≡ true
top_own [] h = absurd (false≢true h)
top_own (n ∷ []) h = front_alone n []
top_own (m ∷ n ∷ a) h = absurd (false≢true h)

abbrev is_below : Name → Option Name → Bool
is_below a None = false
is_below a (Some d) = is_ancestor a d

module _ (c : Content) (s : Standing) (object : Seen) (top : Name) (outcomes : List (Name × Bool)) (before : Shows c s object)
    (is_tops : is_top top ≡ true) (untold : s.told top ≡ false) (below : AreOutcomesBelow s top outcomes)
    (settled : HoldsItsTree (told_of outcomes s) top) where
  abbrev after : Standing
  after = told_of outcomes s

  abbrev hold : Act → Option Name
  hold x = held s.told x

  abbrev then_held : Act → Option Name
  then_held x = held after.told x

  abbrev stays : Option Name → Bool
  stays o = not (is_undone (λ b. aborts_in outcomes b) o)

  -- what is kept then
  abbrev ys : List Act
  ys = filter (λ x. stays (hold x)) (acts_by s)

  own : is_ancestor top top ≡ true
  own = top_own top is_tops

  aborts_untold : (b : Name) → aborts_in outcomes b ≡ true → s.told b ≡ false
  aborts_untold b k = aborted_untold s.told outcomes below.aborted b k

  untold_then : after.told top ≡ false
  untold_then =
      or_from (commits_in outcomes top) (s.told top)
      (false_from_ne_true (commits_in outcomes top) (λ k.
      clash (same_name_self top) (proper top top (committed_below top outcomes below.below top k)).1)) untold

  untold_before : (b : Name) → after.told b ≡ false → s.told b ≡ false
  untold_before b h = (or_parts (commits_in outcomes b) (s.told b) h).1

  acts_after : acts_by after ≡ ys
  acts_after =
      acts_chosen (λ x. not (list_any (λ b. aborts_in outcomes b) (ancestors (deed_of x).0))) s.kept s.restored
      ∙ filter_agree (λ x. not (list_any (λ b. aborts_in outcomes b) (ancestors (deed_of x).0))) (λ x. stays (hold x))
      (λ x. ap (λ t. not t) (undone_is s.told (λ b. aborts_in outcomes b) aborts_untold (deed_of x).0)) (acts_by s)

  orderly : AreOrderly s.told (map (λ x. deed_of x) ys)
  orderly = chosen_orderly s.told (λ x. stays (hold x)) (acts_by s) (orderly_acts s before.orderly)

  shows : ShowsActs c (λ x. hold x) (acts_by s) object
  shows = to_acts c s object before

  all_known : Each (λ x. KnownAct c x) ys
  all_known = each_chosen (λ x. KnownAct c x) (λ x. stays (hold x)) (acts_by s) shows.known

  all_stay : Each (λ x. stays (hold x) ≡ true) ys
  all_stay = each_filter (λ x. stays (hold x) ≡ true) (λ x. stays (hold x)) (acts_by s) (all_of _ (λ x e. e) (acts_by s))

  goes_up : (b d : Name) → stays (Some b) ≡ true → is_ancestor d b ≡ true → stays (Some d) ≡ true
  goes_up b d h k = of (list_any (λ b. aborts_in outcomes b) (ancestors d)) refl
    where
      of : (t : Bool) → list_any (λ b. aborts_in outcomes b) (ancestors d) ≡ t → stays (Some d) ≡ true
      of false q = ap (λ t. not t) q
      of true q = absurd (true≢false (sym h ∙ ap (λ t. not t) (undone_below (λ b. aborts_in outcomes b) d b k q)))

  -- ---- what is left of the versions and deltas

  holds_still : (k : Class → Bool) (b : Name) → ((d : Class) → k d ≡ true → is_read_class d ≡ false) → stays (Some b) ≡ true
      → holds (λ x. hold x) k b (acts_by s) ≡ holds (λ x. hold x) k b ys
  holds_still k b changes h =
      sym (holds_same c (λ x. hold x) (acts_by s) (λ x. true) (λ x r. refl) (λ o. stays o) refl goes_up k b changes
      ∙ ap (λ t. t && holds (λ x. hold x) k b (acts_by s)) h)

  version_still : (b : Name) → stays (Some b) ≡ true
      → version_at object.stack.versions b
      ≡ only_if (holds (λ x. hold x) is_write_class b ys) (after_acts c (filter (λ x. is_held_above (hold x) b) ys))
  version_still b h =
      shows.versions b
      ∙ ap₂ (λ t v. only_if t v) (holds_still is_write_class b writes_not_read h)
      (left_same c (λ x. hold x) (acts_by s) (λ x. true) (λ x r. refl) (λ o. stays o) refl goes_up (λ o. is_held_above o b) (λ d q. goes_up b d h q))

  delta_still : (b : Name) → stays (Some b) ≡ true
      → version_at object.deltas b ≡ only_if (adds (λ x. hold x) b ys) (sum_acts (λ x. is_exactly (hold x) b) ys)
  delta_still b h =
      delta_version object.deltas b ∙ shows.deltas b
      ∙ ap₂ (λ t n. only_if t n)
      (ap₂ (λ t u. t && not u) (holds_still is_add_class b adds_not_read h) (holds_still is_write_class b writes_not_read h))
      (sum_same c (λ x. hold x) (acts_by s) (λ x. true) (λ x r. refl) (λ o. stays o) refl goes_up b h)

  some_if : {T : Type 0} (t : Bool) (x : T) → is_some (only_if t x) ≡ t
  some_if true x = refl
  some_if false x = refl

  -- who has a version is an owner
  owner_if : (b : Name) → stays (Some b) ≡ true → has_name (owners_of object.stack.versions) b ≡ holds (λ x. hold x) is_write_class b ys
  owner_if b h =
      has_owner object.stack.versions b ∙ ap (λ o. is_some o) (version_still b h)
      ∙ some_if (holds (λ x. hold x) is_write_class b ys) (after_acts c (filter (λ x. is_held_above (hold x) b) ys))

  -- ---- whose an act is then

  abbrev Settled : Act → Type 0
  Settled x = is_read_class (deed_of x).1 ≡ false → same_name (top_of (deed_of x).0) top ≡ true → is_left (λ b. same_name b top) (then_held x) ≡ true

  all_settled : Each (λ x. Settled x) ys
  all_settled = subst (λ zs. Each (λ x. Settled x) zs) acts_after (of after.kept after.restored settled.kept settled.restored)
    where
      of : (os : List Performed) (rs : List (Name × Part))
          → AllByRecursion (λ o. is_read o.operation ≡ false → same_name (top_of o.action) top ≡ true → is_left (λ b. same_name b top) (holder_by after.told o.action) ≡ true) os
          → AllByRecursion (λ r. same_name (top_of r.0) top ≡ true → is_left (λ b. same_name b top) (holder_by after.told r.0) ≡ true) rs
          → Each (λ x. Settled x) (acts_of os rs)
      of [] [] h k = tt
      of [] (r ∷ rs) h k = (λ q t. k.0 t, of [] rs tt k.1)
      of (o ∷ os) rs h k = (λ q t. h.0 q t, of os rs h.1 k)

  -- what was held by top or below is top's then, and nothing else
  moved : (x : Act) → Settled x → is_read_class (deed_of x).1 ≡ false → is_exactly (then_held x) top ≡ is_below top (hold x)
  moved x set r = of (is_below top (hold x)) refl
    where
      at : (o : Option Name) → hold x ≡ o → is_below top o ≡ true → is_exactly (then_held x) top ≡ true
      at None e q = absurd (false≢true q)
      at (Some d) e q =
          let k = ancestor_trans top d (deed_of x).0 q (holder_is s.told (deed_of x).0 d e).0 in
          let same = ap (λ y. same_name y top) (sym (top_of_ancestor top (deed_of x).0 k) ∙ top_is_own top is_tops) ∙ same_name_self top in
          let y = above_holder after.told (deed_of x).0 top k untold_then in
          ap (λ o. is_exactly o top) y.1 ∙ sym (ap (λ o. is_left (λ b. same_name b top) o) y.1) ∙ set r same

      of : (t : Bool) → is_below top (hold x) ≡ t → is_exactly (then_held x) top ≡ is_below top (hold x)
      of true q = at (hold x) refl q ∙ sym q
      of false q =
          false_from_ne_true (is_exactly (then_held x) top) (λ k.
          let h = holder_is after.told (deed_of x).0 top (exactly (then_held x) top k) in
          let y = above_holder s.told (deed_of x).0 top h.0 untold in
          clash (ap (λ o. is_below top o) y.1 ∙ y.2) q)
          ∙ sym q

  -- top's version shows it
  shown_then : (x : Act) → Settled x → is_read_class (deed_of x).1 ≡ false → is_below top (hold x) ≡ true → is_held_above (then_held x) top ≡ true
  shown_then x set r q = ap (λ o. is_held_above o top) (exactly (then_held x) top (moved x set r ∙ q)) ∙ own

  -- and what belonged to the base
  base_then : (x : Act) → hold x ≡ None → is_held_above (then_held x) top ≡ true
  base_then x e = of (then_held x) refl
    where
      of : (o : Option Name) → then_held x ≡ o → is_held_above o top ≡ true
      of None q = refl
      of (Some z) q =
          let h = holder_is after.told (deed_of x).0 z q in
          let y = above_holder s.told (deed_of x).0 z h.0 (untold_before z h.1) in
          let f : None ≡ Some y.0 = sym e ∙ y.1 in
          cc

  -- ---- the deltas of those below an action

  -- whoever holds the act, of this class, holds one that is kept
  abbrev IsHeld : (Class → Bool) → Act → Type 0
  IsHeld k x = (d : Name) → hold x ≡ Some d → k (deed_of x).1 ≡ true → holds (λ x. hold x) k d ys ≡ true

  -- of those below it who stay, each passes the test and owns nothing, or owns something
  abbrev Splits : Name → (Option Name → Bool) → Type 0
  Splits from q = (d : Name) → is_ancestor from d ≡ true → stays (Some d) ≡ true
      → ((q (Some d) ≡ true) × (holds (λ x. hold x) is_write_class d ys ≡ false)) ⊎ ((q (Some d) ≡ false) × (holds (λ x. hold x) is_write_class d ys ≡ true))

  module _ (from : Name) (q : Option Name → Bool) (none : q None ≡ false) (apart : (d : Name) → is_ancestor from d ≡ false → q (Some d) ≡ false)
      (splits : Splits from q) where
    abbrev ds : List (Name × ℤ)
    ds = deltas_left outcomes from object.deltas

    delta_left : (b : Name) → version_at ds b ≡ cond (is_left_below outcomes from b) (version_at object.deltas b) None
    delta_left b = left_at (λ d. is_left_below outcomes from d) object.deltas b

    -- whose delta is left
    left_facts : (b : Name) → is_some (version_at ds b) ≡ true
        → (version_at ds b ≡ Some (sum_acts (λ x. is_exactly (hold x) b) ys)) × (holds (λ x. hold x) is_add_class b ys ≡ true)
    left_facts b k = of (is_left_below outcomes from b) refl
      where
        of : (t : Bool) → is_left_below outcomes from b ≡ t
            → (version_at ds b ≡ Some (sum_acts (λ x. is_exactly (hold x) b) ys)) × (holds (λ x. hold x) is_add_class b ys ≡ true)
        of false e = absurd (clash k (ap (λ o. is_some o) (delta_left b ∙ ap (λ t. cond t (version_at object.deltas b) None) e)))
        of true e =
            let p = and_parts (is_ancestor from b) (stays (Some b)) e in
            let is = delta_left b ∙ ap (λ t. cond t (version_at object.deltas b) None) e ∙ delta_still b p.1 in
            let w = sym (some_if (adds (λ x. hold x) b ys) (sum_acts (λ x. is_exactly (hold x) b) ys)) ∙ ap (λ o. is_some o) (sym is) ∙ k in (
              is ∙ ap (λ t. only_if t (sum_acts (λ x. is_exactly (hold x) b) ys)) w,
              (and_parts (holds (λ x. hold x) is_add_class b ys) (not (holds (λ x. hold x) is_write_class b ys)) w).0,
            )

    -- no act that passes writes
    no_write : (x : Act) → stays (hold x) ≡ true → IsHeld is_write_class x → q (hold x) ≡ true → is_write_class (deed_of x).1 ≡ false
    no_write x stay its k = of (hold x) refl k
      where
        at : (d : Name) → hold x ≡ Some d → q (Some d) ≡ true → (t : Bool) → is_ancestor from d ≡ t → is_write_class (deed_of x).1 ≡ false
        at d e k false a = absurd (clash k (apart d a))
        at d e k true a = elim (splits d a (sym (ap (λ o. stays o) e) ∙ stay)) [
          | inl p ↦ false_from_ne_true (is_write_class (deed_of x).1) (λ w. clash (its d e w) p.1)
          | inr p ↦ absurd (clash k p.0)
        ]

        of : (o : Option Name) → hold x ≡ o → q o ≡ true → is_write_class (deed_of x).1 ≡ false
        of None e k = absurd (clash k none)
        of (Some d) e k = at d e k (is_ancestor from d) refl

    -- and those that pass are the ones whose holders have a delta
    among : (x : Act) → stays (hold x) ≡ true → IsHeld is_add_class x → (q (hold x) ≡ true → is_write_class (deed_of x).1 ≡ false) → is_read_class (deed_of x).1 ≡ false
        → q (hold x) ≡ is_among ds (hold x)
    among x stay its none_writes r = of (hold x) refl
      where
        at : (d : Name) → hold x ≡ Some d → (t : Bool) → is_ancestor from d ≡ t → q (Some d) ≡ is_some (version_at ds d)
        at d e false a =
            apart d a
            ∙ sym (ap (λ o. is_some o) (delta_left d ∙ ap (λ t. cond (t && stays (Some d)) (version_at object.deltas d) None) a))
        at d e true a =
            let stay_d : stays (Some d) ≡ true = sym (ap (λ o. stays o) e) ∙ stay in
            let has =
            ap (λ o. is_some o) (delta_left d ∙ ap (λ t. cond t (version_at object.deltas d) None) (and_from (is_ancestor from d) (stays (Some d)) a stay_d) ∙ delta_still d stay_d)
            ∙ some_if (adds (λ x. hold x) d ys) (sum_acts (λ x. is_exactly (hold x) d) ys) in
            elim (splits d a stay_d) [
              | inl p ↦
                  let adds_it = its d e (rest_adds (deed_of x).1 r (none_writes (ap q e ∙ p.0))) in
                  p.0 ∙ sym (has ∙ ap₂ (λ t u. t && not u) adds_it p.1)
              | inr p ↦
                  p.0 ∙ sym (has ∙ and_right (holds (λ x. hold x) is_add_class d ys) (not (holds (λ x. hold x) is_write_class d ys)) (ap (λ t. not t) p.1))
            ]

        of : (o : Option Name) → hold x ≡ o → q o ≡ is_among ds o
        of None e = none
        of (Some d) e = at d e (is_ancestor from d) refl

    writes_none : Each (λ x. q (hold x) ≡ true → is_write_class (deed_of x).1 ≡ false) ys
    writes_none =
        each_both (λ x. stays (hold x) ≡ true) (λ x. IsHeld is_write_class x) (λ x. q (hold x) ≡ true → is_write_class (deed_of x).1 ≡ false) ys
        (λ x stay its. no_write x stay its) all_stay (each_held (λ x. hold x) is_write_class ys)

    adds_among : Each (λ x. (q (hold x) ≡ true → is_write_class (deed_of x).1 ≡ false) → is_read_class (deed_of x).1 ≡ false → q (hold x) ≡ is_among ds (hold x)) ys
    adds_among =
        each_both (λ x. stays (hold x) ≡ true) (λ x. IsHeld is_add_class x)
        (λ x. (q (hold x) ≡ true → is_write_class (deed_of x).1 ≡ false) → is_read_class (deed_of x).1 ≡ false → q (hold x) ≡ is_among ds (hold x)) ys
        (λ x stay its. among x stay its) all_stay (each_held (λ x. hold x) is_add_class ys)

    are_deltas : AreDeltas c (λ x. hold x) ys q ds
    are_deltas = record {
      rising = left_rising (λ d. is_left_below outcomes from d) object.deltas (rising_from (owners_of object.deltas) before.names_rise);
      sums = λ b k. (left_facts b k).0;
      adders = λ b k. (left_facts b k).1;
      just = each_both _ _ (λ x. is_read_class (deed_of x).1 ≡ false → q (hold x) ≡ is_among ds (hold x)) ys (λ x f none_writes. f none_writes) adds_among writes_none;
      adding = writes_none;
      known = all_known;
    }

  -- ---- top has the version of the last owner in front

  module _ (w : Name) (last : IsLast (λ b. is_left_below outcomes top b) (owners_of object.stack.versions) w) where
    w_below : is_ancestor top w ≡ true
    w_below = (and_parts (is_ancestor top w) (stays (Some w)) last.passes).0

    w_stays : stays (Some w) ≡ true
    w_stays = (and_parts (is_ancestor top w) (stays (Some w)) last.passes).1

    w_writes : holds (λ x. hold x) is_write_class w ys ≡ true
    w_writes = sym (owner_if w w_stays) ∙ last.there

    abbrev version_of_w : Content
    version_of_w = after_acts c (filter (λ x. is_held_above (hold x) w) ys)

    is_version : version_at object.stack.versions w ≡ Some version_of_w
    is_version = version_still w w_stays ∙ ap (λ t. only_if t version_of_w) w_writes

    -- what was held strictly below it
    abbrev under_w : Option Name → Bool
    under_w o = is_below w o && not (is_held_above o w)

    w_splits : Splits w (λ o. under_w o)
    w_splits d a stay = of (is_ancestor d w) refl
      where
        of : (t : Bool) → is_ancestor d w ≡ t
            → ((under_w (Some d) ≡ true) × (holds (λ x. hold x) is_write_class d ys ≡ false)) ⊎ ((under_w (Some d) ≡ false) × (holds (λ x. hold x) is_write_class d ys ≡ true))
        of true e = inr (
          and_right (is_ancestor w d) (not (is_ancestor d w)) (ap (λ t. not t) e),
          ap (λ y. holds (λ x. hold x) is_write_class y ys) (ancestor_both d w e a) ∙ w_writes,
        )
        of false e = inl (
          and_from (is_ancestor w d) (not (is_ancestor d w)) a (ap (λ t. not t) e),
          false_from_ne_true (holds (λ x. hold x) is_write_class d ys) (λ k.
              clash (last.above d (owner_if d stay ∙ k) (and_from (is_ancestor top d) (stays (Some d)) (ancestor_trans top w d w_below a) stay)) e),
        )

    comparable : Each (λ x. (d : Name) → hold x ≡ Some d → Comparable d w) ys
    comparable = turned ys (λ d. beside_write s.told d w ys orderly w_writes)
      where
        turned : (zs : List Act) → ((d : Name) → Each (λ x. is_exactly (hold x) d ≡ true → Comparable d w) zs)
            → Each (λ x. (d : Name) → hold x ≡ Some d → Comparable d w) zs
        turned [] h = tt
        turned (x ∷ zs) h = (λ d e. (h d).0 (ap (λ o. is_exactly o d) e ∙ same_name_self d), turned zs (λ d. (h d).1))

    -- top's version has all that w's had
    has_lower : (x : Act) → Settled x → is_read_class (deed_of x).1 ≡ false
        → (is_held_above (then_held x) top && is_held_above (hold x) w) ≡ is_held_above (hold x) w
    has_lower x set r = of (is_held_above (hold x) w) refl
      where
        at : (o : Option Name) → hold x ≡ o → is_held_above o w ≡ true → is_held_above (then_held x) top ≡ true
        at None e q = base_then x e
        at (Some d) e q = shown_then x set r (ap (λ o. is_below top o) e ∙ top_above top d w is_tops w_below q)

        of : (t : Bool) → is_held_above (hold x) w ≡ t → (is_held_above (then_held x) top && is_held_above (hold x) w) ≡ is_held_above (hold x) w
        of true q = ap (λ t. t && is_held_above (hold x) w) (at (hold x) refl q)
        of false q = and_right (is_held_above (then_held x) top) (is_held_above (hold x) w) q ∙ sym q

    -- and besides what was held below
    has_upper : (x : Act) → Settled x → ((d : Name) → hold x ≡ Some d → Comparable d w) → is_read_class (deed_of x).1 ≡ false
        → (is_held_above (then_held x) top && not (is_held_above (hold x) w)) ≡ under_w (hold x)
    has_upper x set near r = of (hold x) refl
      where
        deeper : (d : Name) → hold x ≡ Some d → is_ancestor w d ≡ true → is_held_above (then_held x) top ≡ true
        deeper d e a = shown_then x set r (ap (λ o. is_below top o) e ∙ ancestor_trans top w d w_below a)

        at : (d : Name) → hold x ≡ Some d → (t : Bool) → is_ancestor d w ≡ t
            → (is_held_above (then_held x) top && not (is_ancestor d w)) ≡ (is_ancestor w d && not (is_ancestor d w))
        at d e true k =
            and_right (is_held_above (then_held x) top) (not (is_ancestor d w)) (ap (λ t. not t) k)
            ∙ sym (and_right (is_ancestor w d) (not (is_ancestor d w)) (ap (λ t. not t) k))
        at d e false k = elim (near d e) [
          | inl l ↦ absurd (clash l k)
          | inr l ↦ ap (λ t. t && not (is_ancestor d w)) (deeper d e l) ∙ sym (ap (λ t. t && not (is_ancestor d w)) l)
        ]

        of : (o : Option Name) → hold x ≡ o → (is_held_above (then_held x) top && not (is_held_above o w)) ≡ under_w o
        of None e = and_right (is_held_above (then_held x) top) false refl
        of (Some d) e = at d e (is_ancestor d w) refl

    top_version : version_by c after top ≡ with_sum version_of_w (deltas_left outcomes w object.deltas)
    top_version =
        version_is after c top ∙ ap (λ zs. after_acts c (filter (λ x. is_held_above (then_held x) top) zs)) acts_after
        ∙ others_last c s.told (λ b. belongs_to (Some w) (holder_by s.told b)) (belonging_goes_up s.told (Some w))
        (filter (λ x. is_held_above (then_held x) top) ys)
        (chosen_orderly s.told (λ x. is_held_above (then_held x) top) ys orderly)
        ∙ ap₂ (λ us vs. after_acts (after_acts c us) vs)
        (twice (λ x. is_held_above (hold x) w) (λ x. is_held_above (then_held x) top) ys)
        (twice (λ x. not (is_held_above (hold x) w)) (λ x. is_held_above (then_held x) top) ys)
        ∙ ap (λ d. after_acts d (filter (λ x. is_held_above (then_held x) top && not (is_held_above (hold x) w)) ys))
        (same_left c (λ x. is_held_above (then_held x) top && is_held_above (hold x) w) (λ x. is_held_above (hold x) w) ys
        (each_map _ _ ys (λ x set r. has_lower x set r) all_settled))
        ∙ same_left version_of_w (λ x. is_held_above (then_held x) top && not (is_held_above (hold x) w)) (λ x. under_w (hold x)) ys
        (each_both _ _ _ ys (λ x set near r. has_upper x set near r) all_settled comparable)
        ∙ deltas_leave c (λ x. hold x) ys (λ o. under_w o) version_of_w (deltas_left outcomes w object.deltas)
        (are_deltas w (λ o. under_w o) refl (λ d a. ap (λ t. t && not (is_ancestor d w)) a) w_splits)

    top_owns : has_name (owners_by after) top ≡ true
    top_owns =
        owners_are after top ∙ ap (λ zs. holds (λ x. then_held x) is_write_class top zs) acts_after
        ∙ any_more (λ x. is_exactly (hold x) w && is_write_class (deed_of x).1) (λ x. is_exactly (then_held x) top && is_write_class (deed_of x).1) ys
        (each_map _ _ ys (λ x set e.
        let p = and_parts (is_exactly (hold x) w) (is_write_class (deed_of x).1) e in
        and_from (is_exactly (then_held x) top) (is_write_class (deed_of x).1)
        (moved x set (writes_not_read (deed_of x).1 p.1) ∙ ap (λ o. is_below top o) (exactly (hold x) w p.0) ∙ w_below) p.1) all_settled) w_writes

    version_then : part_held c after top ≡ part_over outcomes top object (Some w)
    version_then =
        ap (λ t. cond t (Some (Value (version_by c after top))) (cond (has_name (adders_by after) top) (Some (Delta (delta_by after top))) None)) top_owns
        ∙ ap (λ v. Some (Value v)) top_version
        ∙ sym (ap (λ o. option_map (λ v. Value (with_sum v (deltas_left outcomes w object.deltas))) o) is_version)

  -- ---- or none is left

  module _ (none : (d : Name) → has_name (owners_of object.stack.versions) d ≡ true → is_left_below outcomes top d ≡ false) where
    top_splits : Splits top (λ o. is_below top o)
    top_splits d a stay = inl (
      a,
      false_from_ne_true (holds (λ x. hold x) is_write_class d ys) (λ k.
          clash (and_from (is_ancestor top d) (stays (Some d)) a stay) (none d (owner_if d stay ∙ k))),
    )

    top_deltas : AreDeltas c (λ x. hold x) ys (λ o. is_below top o) (deltas_left outcomes top object.deltas)
    top_deltas = are_deltas top (λ o. is_below top o) refl (λ d a. a) top_splits

    owns_none : holds (λ x. then_held x) is_write_class top (acts_by after) ≡ false
    owns_none =
        ap (λ zs. holds (λ x. then_held x) is_write_class top zs) acts_after
        ∙ any_none (λ x. is_exactly (then_held x) top && is_write_class (deed_of x).1) ys
        (each_both _ _ _ ys (λ x set writes. false_from_ne_true _ (λ e.
        let p = and_parts (is_exactly (then_held x) top) (is_write_class (deed_of x).1) e in
        clash p.1 (writes (sym (moved x set (writes_not_read (deed_of x).1 p.1)) ∙ p.0)))) all_settled top_deltas.adding)

    adds_then : holds (λ x. then_held x) is_add_class top (acts_by after) ≡ list_any (λ x. chosen_adds c (λ x. hold x) ys (λ o. is_below top o) x) ys
    adds_then =
        ap (λ zs. holds (λ x. then_held x) is_add_class top zs) acts_after
        ∙ any_same _ _ ys (each_map _ _ ys (λ x set. of x set (is_add_class (deed_of x).1) refl) all_settled)
      where
        of : (x : Act) → Settled x → (t : Bool) → is_add_class (deed_of x).1 ≡ t
            → (is_exactly (then_held x) top && is_add_class (deed_of x).1) ≡ (is_below top (hold x) && is_add_class (deed_of x).1)
        of x set true e = ap (λ t. t && is_add_class (deed_of x).1) (moved x set (adds_not_read (deed_of x).1 e))
        of x set false e =
            and_right (is_exactly (then_held x) top) (is_add_class (deed_of x).1) e ∙ sym (and_right (is_below top (hold x)) (is_add_class (deed_of x).1) e)

    sum_then : delta_by after top ≡ sum_acts (λ x. is_below top (hold x)) ys
    sum_then =
        delta_is after top ∙ ap (λ zs. sum_acts (λ x. is_exactly (then_held x) top) zs) acts_after
        ∙ same_sum (λ x. is_exactly (then_held x) top) (λ x. is_below top (hold x)) ys (each_map _ _ ys (λ x set r. moved x set r) all_settled)

    delta_then : part_held c after top ≡ sum_part (deltas_left outcomes top object.deltas)
    delta_then =
        ap₂ (λ t u. cond t (Some (Value (version_by c after top))) (cond u (Some (Delta (delta_by after top))) None))
        (owners_are after top ∙ owns_none)
        (adders_are after top ∙ ap₂ (λ t u. t && not u) adds_then owns_none)
        ∙ ap₂ (λ t n. cond t (Some (Delta n)) None) (whole (list_any (λ x. chosen_adds c (λ x. hold x) ys (λ o. is_below top o) x) ys)) sum_then
        ∙ of (deltas_left outcomes top object.deltas) top_deltas
      where
        whole : (t : Bool) → (t && true) ≡ t
        whole true = refl
        whole false = refl

        of : (ds : List (Name × ℤ)) → AreDeltas c (λ x. hold x) ys (λ o. is_below top o) ds
            → cond (list_any (λ x. chosen_adds c (λ x. hold x) ys (λ o. is_below top o) x) ys) (Some (Delta (sum_acts (λ x. is_below top (hold x)) ys))) None ≡ sum_part ds
        of [] are = ap (λ t. cond t (Some (Delta (sum_acts (λ x. is_below top (hold x)) ys))) None) (none_chosen c (λ x. hold x) ys (λ o. is_below top o) are)
        of (d ∷ ds) are =
            let some = some_chosen c (λ x. hold x) ys (λ o. is_below top o) d ds are in
            ap₂ (λ t n. cond t (Some (Delta n)) None) some.0 some.1

  part_then : part_held c after top ≡ part_to_hold outcomes top object
  part_then =
      of (last_in_front (λ b. is_left_below outcomes top b) None (owners_of object.stack.versions))
      (last_is (λ b. is_left_below outcomes top b) up named (owners_of object.stack.versions) before.rising)
    where
      up : (d b : Name) → is_proper_ancestor d b ≡ true → is_left_below outcomes top b ≡ true → is_left_below outcomes top d ≡ true
      up d b k h =
          let p = and_parts (is_ancestor top b) (stays (Some b)) h in
          let a = (proper d b k).0 in
          and_from (is_ancestor top d) (stays (Some d)) (top_above top d b is_tops p.0 a) (goes_up b d p.1 a)

      named : (d : Name) → is_left_below outcomes top d ≡ true → is_ancestor d d ≡ true
      named d h = descendant_is_own top d (and_parts (is_ancestor top d) (stays (Some d)) h).0

      of : (o : Option Name) → IsLastOf (λ b. is_left_below outcomes top b) (owners_of object.stack.versions) o → part_held c after top ≡ part_over outcomes top object o
      of None none = delta_then none
      of (Some w) last = version_then w last

pub parts_once_told : PartsOnceTold
parts_once_told c s object top outcomes shows tops untold below settled = part_then c s object top outcomes shows tops untold below settled
